-- Places beyond a plan's counts are ignored by the screening call too. Its figures, totals and rows are the table call's.
--
--   same-meet, same-marked    plans that agree as far as their counts reach have the same effects that meet, and the same marked main effects
--   same-refused              and so the same number
use Rattle.std.specs.Prelude.{◌≡◌, List, ℕ, ℤ}
use Rattle.std.proofs.Math.Path.{refl}
use Rattle.plan.specs.declared.types.Plan.{Plan}
use Rattle.plan.specs.Check.{with_plan}
use Rattle.plan.proofs.Laws.Alike.{Alike, same-refused as same-plan-refused, same-limit}
use Rattle.columns.specs.Refusals.{wrong_length, wrong_readings}
use Rattle.plan.specs.Plan.{factors_of}
use Rattle.rows.specs.Kinds.{wrong_rows, bad_mark, bad_marks}
use Rattle.anova.specs.Table.{wrong_lengths}
use Rattle.screening.specs.Screening.{meet, marked_main, screen_refused}

module _ {p q : Plan} (a : Alike p q) where
  pub same-meet : meet p ≡ meet q
  unfolding meet
  same-meet = rw (a.words, a.k) refl

  pub same-marked : (marks : List ℕ) → marked_main p marks ≡ marked_main q marks
  unfolding marked_main
  same-marked marks = rw (a.words, a.k) refl

  pub same-refused : (readings : List ℤ) (marks : List ℕ) (totals : List ℤ) (rows : List ℕ)
      → screen_refused p readings marks totals rows ≡ screen_refused q readings marks totals rows
  unfolding screen_refused with_plan wrong_lengths wrong_rows wrong_readings wrong_length bad_marks bad_mark factors_of
  same-refused readings marks totals rows =
      rw (same-meet, same-marked marks, same-limit a, same-plan-refused a, a.blockwords, a.levels, a.k, a.repeats) refl
