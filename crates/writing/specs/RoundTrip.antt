-- What the law of the round trip asks and says: that a sheet which is written from a plan, readings and marks is read back as the same.
--
--   AllBytes bs             each number is below 256
--   Shaped p                the plan's arrays have their places, and its words 16 bits
--   Clean p                 the plan has 0 at the places beyond its counts
--   Sheetable p xs marks    an accepted plan, readings within the limit and lawful marks
--   ReadBack                what both calls give of the sheet that is written from them
use Rattle.std.specs.Prelude.{List, [], ◌∷◌, ◌++◌, ℕ, ◌<◌, ◌≤◌, ℤ, length, get_or, drop, ◌≡◌, false}
use Rattle.writing.specs.Writer.{settled, sheet_of}
use Rattle.plan.specs.declared.types.Plan.{Plan}
use Rattle.plan.specs.Check.{plan_refused}
use Rattle.plan.specs.Limits.{reading_limit}
use Rattle.plan.specs.Plan.{all_readings}
use Rattle.columns.specs.Refusals.{any_beyond}
use Rattle.rows.specs.Kinds.{rows_in, bad_marks}
use Rattle.sheet.specs.Sheet.{read_refused, read_plan, read_column, marks_of}

abbrev pub AllBytes : List ℕ → Type 0
AllBytes [] = Unit
AllBytes (b ∷ bs) = (b < 256) × AllBytes bs

-- P6: "A word is a 16-bit set of base letters"; P14, P15: the block word of a three-level plan is "a number in base 3", in the same 16 bits
-- P3: 6 places for added factors, 4 for block words
pub record Shaped (p : Plan) : Type 0 where
  pub words_long : length p.words ≡ 6
  pub signs-long : length p.signs ≡ 6
  pub blockwords-long : length p.blockwords ≡ 4
  pub words-fit : (i : ℕ) → get_or p.words i 0 < 65536
  pub blockwords-fit : (i : ℕ) → get_or p.blockwords i 0 < 65536

pub record Clean (p : Plan) : Type 0 where
  pub words : (i : ℕ) → p.added ≤ i → get_or p.words i 0 ≡ 0
  pub signs : (i : ℕ) → p.added ≤ i → get_or p.signs i 0 ≡ 0
  pub blockwords : (i : ℕ) → p.blocks ≤ i → get_or p.blockwords i 0 ≡ 0

pub record Sheetable (p : Plan) (xs : List ℤ) (marks : List ℕ) : Type 0 where
  pub shaped : Shaped p
  pub accepted : plan_refused p ≡ 0
  pub whole : length xs ≡ all_readings p
  pub within : any_beyond (reading_limit p) xs ≡ false
  pub rows : length marks ≡ rows_in p
  pub lawful : bad_marks p marks ≡ false

pub record ReadBack (p : Plan) (xs : List ℤ) (marks : List ℕ) (column : List ℤ) : Type 0 where
  pub accepted : read_refused (sheet_of p xs marks) (length column) ≡ 0
  pub plan-read : read_plan (sheet_of p xs marks) (length column) ≡ settled p
  pub readings-read : read_column (sheet_of p xs marks) column ≡ xs ++ drop (length xs) column
  pub marks-read : marks_of (sheet_of p xs marks) ≡ marks
