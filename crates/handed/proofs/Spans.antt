-- The first bytes of a sheet, which are its plan, and the last, which are its marks.
--
--   own-fit, marks-fit          the fields of the readings and of the marks take no more bytes than the sheet has
--   read_done, read-stopped     what the reader leaves where it is done, and where the sheet is refused
--   marks-end                   the marks are the last bytes
use Rattle.std.specs.Prelude.{◌≡◌, List, [], ℕ, ◌+◌, ◌-◌, ◌≤◌, ℤ, length, drop}
use Rattle.std.proofs.Common.{sym, ap, arith}
use Rattle.std.proofs.Math.Decide.{ℕ_discrete}
use lib.ListN.{drop_of_length-le}
use Rattle.plan.specs.declared.refusals.Refusal as refusals
use Rattle.plan.specs.Outcome.{Outcome, given, refused, outcome}
use Rattle.plan.specs.Refusals.{number}
use Rattle.plan.proofs.Laws.Answers.{unwritten, written_new, given_is, refused-is, left_alone}
use Rattle.fields.specs.Fields.{fields_of, body_at}
use Rattle.fields.specs.Laws.Lengths.{span-of-sheet}
use Rattle.contents.specs.Contents.{marks_in}
use Rattle.sheet.specs.Sheet.{read_refused, read_column, marks_refused, marks_of}
use Rattle.sheet.specs.Laws.Admitted.{read-admitted}
use Rattle.sheet.specs.Laws.Lengths.{marks-last}
use Rattle.heads.specs.Heads.{head_length}
use Rattle.handed.specs.Sheets.{read_span}

-- ---- the reader, of a sheet and a column of so many places

-- what it knows of the answer of the call below it
abbrev Answered : List ℕ → ℕ → Outcome Unit → Type 0
Answered sheet room answer = answer ≡ outcome (read_refused sheet room) tt

-- what it promises of its number, of the column and of the number of bytes
abbrev Promised : List ℕ → List ℤ → ℕ → ℕ → List ℤ → ℕ → Type 0
Promised sheet column old n xs span =
    (n ≡ read_refused sheet (length column)) × ((xs ≡ read_column sheet column) × (span ≡ read_span sheet (length column) old))

module _ (sheet : List ℕ) (room : ℕ) (done : Answered sheet room (given tt)) where
  accepted : read_refused sheet room ≡ 0
  accepted = (given_is (read_refused sheet room) tt done).0

  module _ {own : List ℕ} (o : own ≡ body_at 4 0 (fields_of sheet)) where
    pub own-fit : 3 + length own ≤ length sheet
    own-fit = rw o (omega (arith, span-of-sheet sheet (read-admitted sheet room accepted).fields))

    pub marks-fit : {marks : List ℕ} → marks ≡ body_at 5 0 (fields_of sheet) → 3 + length marks ≤ length sheet - (3 + length own)
    marks-fit m = rw (o, m) (omega (arith, span-of-sheet sheet (read-admitted sheet room accepted).fields))

module _ (sheet : List ℕ) (column : List ℤ) (old : ℕ) where
  pub read-stopped : (r : refusals.Refusal) → Answered sheet (length column) (refused (number r))
      → {xs : List ℤ} → xs ≡ read_column sheet column → Promised sheet column old (number r) xs old
  unfolding read_span
  read-stopped r e w =
      let n = (refused-is (read_refused sheet (length column)) tt e).0 in
      (n, (w, left_alone r (head_length sheet) old n))

  pub read_done : Answered sheet (length column) (given tt) → {xs : List ℤ} → xs ≡ read_column sheet column
      → {own marks : List ℕ} → own ≡ body_at 4 0 (fields_of sheet) → marks ≡ body_at 5 0 (fields_of sheet)
      → Promised sheet column old 0 xs (length sheet - (3 + length own) - (3 + length marks))
  unfolding read_span head_length
  read_done e w o m =
      let z = accepted sheet (length column) e in
      (sym z, (w, rw (o, m) (written_new (read_refused sheet (length column)) (head_length sheet) old z)))

-- ---- the marks

no-marks : (sheet : List ℕ) → (marks_refused sheet ≡ 0 → ⊥) → marks_of sheet ≡ []
unfolding marks_of
no-marks sheet h = sym (unwritten (marks_refused sheet) (marks_in (fields_of sheet)) [] h)

pub marks-end : (sheet : List ℕ) {part : List ℕ} → part ≡ marks_of sheet
    → (length part ≡ length (marks_of sheet)) × (drop (length sheet - length part) sheet ≡ marks_of sheet)
marks-end sheet is = (ap length is, rw is (by (ℕ_discrete (marks_refused sheet) 0)))
  where
    by : Dec (marks_refused sheet ≡ 0) → drop (length sheet - length (marks_of sheet)) sheet ≡ marks_of sheet
    by (yes z) = sym (marks-last sheet z).so
    by (no h) = rw (no-marks sheet h) (drop_of_length-le sheet {i = length sheet - 0} (omega arith))
