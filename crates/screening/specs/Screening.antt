-- The screening profile: which plans it admits, the screening call's number, and the columns that it leaves. Its figures are the table call's.
--
--   reduced_word p e             the base word that the effect of the letters e reduces to
--   main_word p i, main_words    that of the main effect of factor i, and those of all factors
--   pair_word p i j              that of the interaction of factors i and j
--   meet p                       refusal 21: a main effect and an interaction of two factors have one base word
--   marked_main p marks          the row of a main effect's base word has mark 1
--   screen_refusals              the refusals of the call besides those of the plan
--   screen_refused               the first number that applies, 0 where the table is made
--   screen_totals, screen_rows   the lent slices at exit
use Rattle.std.specs.Prelude.{Bool, ◌||◌, List, [], ◌∷◌, ℕ, ◌+◌, ◌^◌, eqb, ℤ, length}
use Rattle.algebra.specs.Search.{some}
use Rattle.algebra.specs.Tab.{tab}
use Rattle.contrasts.specs.Columns.{totals_of}
use Rattle.words.specs.Words.{any, among}
use Rattle.plan.specs.declared.types.Plan.{Plan}
use Rattle.plan.specs.Check.{with_plan}
use Rattle.plan.specs.Limits.{reading_limit}
use Rattle.plan.specs.Outcome.{Refusal, refusal, written}
use Rattle.plan.specs.Plan.{factors_of, all_letters, run_sums_of}
use Rattle.aliases.specs.Alias.{alias_values}
use Rattle.columns.specs.Refusals.{any_beyond}
use Rattle.rows.specs.Kinds.{marked, bad_marks}
use Rattle.anova.specs.Table.{wrong_lengths, rows_of}

-- ---- effects that meet

-- E8, E9: the base word alone, as the alias call gives it; the sign plays no part
abbrev pub reduced_word : Plan → ℕ → ℕ
reduced_word p e = (alias_values p e).0

-- V21: of a "main effect, base or added": factor i, from 0 on, is a base factor below k, and else an added one
abbrev pub main_word : Plan → ℕ → ℕ
main_word p i = reduced_word p (2 ^ i)

-- V21: of all factors of the plan
abbrev pub main_words : Plan → List ℕ
main_words p = tab (all_letters p) (λ i. main_word p i)

-- V21: of "an interaction of two factors", i and j
abbrev pub pair_word : Plan → ℕ → ℕ → ℕ
pair_word p i j = reduced_word p (2 ^ i + 2 ^ j)

-- N21: "two effects meet as described"; V21: a main effect "reduces to the same base word as an interaction of two factors", of any two factors,
-- base or added
unfoldable pub meet : Plan → Bool
meet p = some (all_letters p) (λ j. some j (λ i. among (pair_word p i j) (main_words p)))

-- ---- what is refused

-- V22: "The row of a main effect's base word may not be marked as error"
unfoldable pub marked_main : Plan → List ℕ → Bool
marked_main p marks = any (marked marks) (main_words p)

-- L14: "9 at three levels; 21, two effects meet as described, after 16; 13 also for a marked main effect", and else the table call's
abbrev pub screen_refusals : Plan → List ℤ → List ℕ → List ℤ → List ℕ → List Refusal
screen_refusals p readings marks totals rows =
    refusal 21 (meet p)
    ∷ refusal 9 (eqb p.levels 3)
    ∷ refusal 11 (wrong_lengths p (length readings) (length marks) (length totals) (length rows))
    ∷ refusal 12 (any_beyond (reading_limit p) readings)
    ∷ refusal 13 (bad_marks p marks || marked_main p marks)
    ∷ []

unfoldable pub screen_refused : Plan → List ℤ → List ℕ → List ℤ → List ℕ → ℕ
screen_refused p readings marks totals rows = with_plan p (screen_refusals p readings marks totals rows)

-- ---- what is written

-- V23: "the table is otherwise ordinary": the totals are those of the table call
unfoldable pub screen_totals : Plan → List ℤ → List ℕ → List ℤ → List ℕ → List ℤ
screen_totals p readings marks totals rows = written (screen_refused p readings marks totals rows) (totals_of (factors_of p) (run_sums_of p readings)) totals

-- V23: and so are the rows
unfoldable pub screen_rows : Plan → List ℤ → List ℕ → List ℤ → List ℕ → List ℕ
screen_rows p readings marks totals rows = written (screen_refused p readings marks totals rows) (rows_of p (run_sums_of p readings)) rows
