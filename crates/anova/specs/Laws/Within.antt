-- What a table that is not refused adds up to, and that none of its numbers exceeds the limit of numerators.
--
--   all-rows                                    the numerators of all rows add up to the denominator of one repeat times the squares of the run sums
--   all-degrees                                 the degrees of all rows add up to N
--   fit                                         the denominator and the number of readings are within the limit
--   some-within                                 any sum of some effects' numerators is
--   row_within, row-effects-within              the numerator of a row is, and so with all its effects
--   kind-within, effect-within                  those of the rows of one kind are, and so with all their effects
--   total-within-limit                          each total is, in size
--   check-small, checks-within                  both check numbers are, in size
--   numerators-add-up, degrees-add-up           mean, kept effects, blocks and error add up to the total, the squares within runs in the error line
--                                               and the block amount of a three-level plan in the blocks line
--   total-source-within, within-source-within   the total and the squares within runs are within the limit
--   error-within, blocks-within                 and so are the error line and the blocks line
--   effect-error-within                         and the error line of all effects
use Rattle.std.specs.Prelude.{◌≡◌, Bool, cond, List, ℕ, ◌+◌, ◌-◌, ◌*◌, ◌^◌, ◌<◌, ◌≤◌, ℤ, nat_abs}
use Rattle.std.proofs.Common.{sym, ◌∙◌, ap, mul-one, mul-pos, mul-le-mul_left, arith}
use Rattle.std.proofs.Math.Nat.{le_trans, mul-sub}
use Rattle.std.proofs.Math.ListN.{length}
use Rattle.algebra.specs.Naturals.{Σℕ}
use Rattle.algebra.specs.Laws.Naturals.{Σℕ-by, Σℕ-some}
use Rattle.algebra.specs.Sorted.{sum_at}
use Rattle.algebra.specs.Laws.Sorted.{sum-least}
use Rattle.contrasts.specs.Columns.{read, squares_of}
use Rattle.contrasts.specs.Repeats.{within_runs}
use Rattle.contrasts.specs.Rows.{row_of, degrees_of, row_numerator}
use Rattle.contrasts.specs.Totals.{total, denominator, numerator, squared}
use Rattle.contrasts.specs.Checks.{rounds}
use Rattle.contrasts.proofs.Laws.CheckSum.{check-rounds}
use Rattle.contrasts.proofs.Laws.Degrees.{row_lt, degrees-sum}
use Rattle.contrasts.proofs.Laws.Digits.{size-pos}
use Rattle.contrasts.proofs.Laws.Divisors.{denominator-pos}
use Rattle.contrasts.proofs.Laws.Limits.{numerators-fit}
use Rattle.contrasts.proofs.Laws.Repeats.{all-squares, squares-fit}
use Rattle.contrasts.proofs.Laws.Squares.{numerators, total-within, check-within}
use Rattle.plan.specs.declared.types.Plan.{Plan}
use Rattle.plan.specs.Limits.{reading_limit, numerator_limit}
use Rattle.plan.specs.Plan.{factors_of, runs_of, all_readings, run_sums_of, denominator_of}
use Rattle.plan.proofs.Laws.Limits.{plan-roomy, some-reading}
use Rattle.plan.proofs.Laws.Sizes.{some-repeat}
use Rattle.rows.specs.Kinds.{rows_in, Kind, mean_row, blocks_row, error_row, kept_row, kind_of, code_of, same}
use Rattle.rows.proofs.Laws.Kinds.{four-kinds}
use Rattle.anova.specs.Inner.Effects.{effect_source, effect_figures}
use Rattle.anova.specs.Laws.Admitted.{TableReady, SumsReady, sums-ready, rows-power, within-limit}
use Rattle.anova.specs.Laws.Blocks.{all_left, all-degrees-left, numerator-moved, degrees-moved}
use Rattle.anova.specs.Table.{block_source, row_degrees, row_left, source_of, within_source, joined, total_source, checks_of, table_figures, SourceWithin}

-- a product whose other factors are not 0
least : (a b m : ℕ) → 0 < b → a * b ≤ m → a ≤ m
least a b m some h = le_trans (rw (mul-one a) at (mul-le-mul_left a some)) h

-- four sums, by kind, are the sum of all rows
four : (r : ℕ) (kind : ℕ → Kind) (g : ℕ → ℕ)
    → Σℕ r (λ w. cond (same (kind w) mean_row) (g w) 0) + Σℕ r (λ w. cond (same (kind w) kept_row) (g w) 0)
    + Σℕ r (λ w. cond (same (kind w) blocks_row) (g w) 0) + Σℕ r (λ w. cond (same (kind w) error_row) (g w) 0) ≡ Σℕ r g
unfolding Σℕ
four r kind g = omega (arith, Σℕ-by r 4 (λ w. code_of (kind w)) g (λ w _. four-kinds (kind w)))

-- N degrees, and "N times (r - 1) degrees"
all-repeats : (n r : ℕ) → 0 < r → n + n * (r - 1) ≡ n * r
all-repeats n r some = omega (arith, mul-sub n r 1, mul-le-mul_left n some)

-- ---- of the run sums

module _ {p : Plan} {sums : List ℤ} (a : SumsReady p sums) where
  -- ---- what all rows add up to

  pub all-rows : Σℕ (rows_in p) (row_numerator (factors_of p) (read sums)) ≡ denominator (factors_of p) * squared (factors_of p) (read sums)
  unfolding sum_at
  all-rows =
      (rw (rows-power p) at (Σℕ-by (runs_of p) (2 ^ length (factors_of p)) (row_of (factors_of p)) (numerator (factors_of p) (read sums)) (λ e _. row_lt (factors_of p) e)))
      ∙ numerators (factors_of p) (read sums)

  pub all-degrees : Σℕ (rows_in p) (degrees_of (factors_of p)) ≡ runs_of p
  all-degrees = rw (rows-power p) at (degrees-sum (factors_of p))

  -- ---- "No numerator, and no sum of them in one table, exceeds" the limit of the plan

  pub fit : (denominator_of p ≤ numerator_limit p) × (all_readings p ≤ numerator_limit p)
  fit =
      let r = (some-repeat p a.plan).0 in
      let l = mul-pos (some-reading p) (some-reading p) in
      let room = (plan-roomy p a.plan).numerators in (
        least (denominator_of p) (runs_of p * (p.repeats * (reading_limit p * reading_limit p))) (numerator_limit p) (mul-pos (size-pos (factors_of p)) (mul-pos r l))
            (rw (by-denominator (denominator (factors_of p)) (runs_of p) p.repeats (reading_limit p)) at room),
        least (all_readings p) (denominator (factors_of p) * (p.repeats * (reading_limit p * reading_limit p))) (numerator_limit p)
            (mul-pos (denominator-pos (factors_of p)) (mul-pos r l))
            (rw (by-readings (denominator (factors_of p)) (runs_of p) p.repeats (reading_limit p)) at room),
      )
    where
      by-denominator : (d n r l : ℕ) → d * (n * (r * l * (r * l))) ≡ r * d * (n * (r * (l * l)))
      by-denominator d n r l = omega arith

      by-readings : (d n r l : ℕ) → d * (n * (r * l * (r * l))) ≡ n * r * (d * (r * (l * l)))
      by-readings d n r l = omega arith

  pub some-within : (n : ℕ) (some : ℕ → Bool) → n ≤ runs_of p
      → Σℕ n (λ e. cond (some e) (numerator (factors_of p) (read sums) e) 0) ≤ numerator_limit p
  some-within = numerators-fit (plan-roomy p a.plan) (read sums) (λ r _. a.within r)

  pub row-effects-within : (w : ℕ) → row_numerator (factors_of p) (read sums) w ≤ numerator_limit p
  row-effects-within w =
      le_trans (rw (numerators (factors_of p) (read sums)) at (sum-least (row_of (factors_of p)) (numerator (factors_of p) (read sums)) (runs_of p) (runs_of p) w (omega arith)))
      (within-limit a)

  -- V20: what is left of a row is no more than the row
  pub row_within : (w : ℕ) → row_left p sums w ≤ numerator_limit p
  unfolding row_left
  row_within w = omega (arith, row-effects-within w)

  pub effect-within : (marks : List ℕ) (c : Kind) → SourceWithin (numerator_limit p) (effect_source p sums marks c)
  unfolding effect_source
  effect-within marks c =
      record {
        degrees = le_trans (Σℕ-some (rows_in p) (rows_in p) (λ w. same (kind_of p marks w) c) (degrees_of (factors_of p)) (omega arith))
            (rw all-degrees (least (runs_of p) p.repeats (numerator_limit p) (some-repeat p a.plan).0 fit.1));
        numerator = le_trans (Σℕ-some (rows_in p) (rows_in p) (λ w. same (kind_of p marks w) c) (row_numerator (factors_of p) (read sums)) (omega arith)) (rw all-rows (within-limit a));
      }

  pub kind-within : (marks : List ℕ) (c : Kind) → SourceWithin (numerator_limit p) (source_of p sums marks c)
  kind-within marks c =
      let e = effect-within marks c in
      record {
        degrees = omega (arith, degrees-moved p a.plan sums marks c, e.degrees);
        numerator = omega (arith, numerator-moved p a.plan sums marks c, e.numerator);
      }

  -- ---- the totals and the check numbers, in size

  pub total-within-limit : (e : ℕ) → e < runs_of p → nat_abs (total (factors_of p) (read sums) e) ≤ numerator_limit p
  total-within-limit e h = le_trans (total-within (factors_of p) (read sums) e h) (within-limit a)

  pub check-small : nat_abs (rounds (factors_of p) (read sums)) ≤ numerator_limit p
  check-small = rw (← (check-rounds (factors_of p) (read sums))) (le_trans (check-within (factors_of p) (read sums) (runs_of p) (omega arith)) (within-limit a))

  pub checks-within : (nat_abs (checks_of p sums).totals ≤ numerator_limit p) × (nat_abs (checks_of p sums).readings ≤ numerator_limit p)
  unfolding checks_of
  checks-within = (le_trans (check-within (factors_of p) (read sums) (runs_of p) (omega arith)) (within-limit a), check-small)

-- ---- of the readings

module _ {p : Plan} {readings : List ℤ} {marks : List ℕ} {totals : List ℤ} {rows : List ℕ} (a : TableReady p readings marks totals rows) where
  abbrev sums : List ℤ
  sums = run_sums_of p readings

  -- the numerators of all rows and that of the squares within runs
  together : Σℕ (rows_in p) (row_numerator (factors_of p) (read sums)) + within_runs (factors_of p) p.repeats (read readings) ≡ denominator_of p * squares_of readings
  together =
      ap (λ n. n + within_runs (factors_of p) p.repeats (read readings)) (all-rows (sums-ready a) ∙ sym (numerators (factors_of p) (read sums)))
      ∙ all-squares (factors_of p) p.repeats (some-repeat p a.plan).0 readings a.whole

  pub numerators-add-up : let f = table_figures p readings marks in
      f.mean.numerator + f.kept.numerator + f.blocks.numerator + f.error.numerator ≡ f.total.numerator
  unfolding table_figures source_of block_source within_source joined total_source
  numerators-add-up = omega (arith, four (rows_in p) (kind_of p marks) (row_left p sums), all_left p a.plan sums, together)

  pub degrees-add-up : let f = table_figures p readings marks in
      f.mean.degrees + f.kept.degrees + f.blocks.degrees + f.error.degrees ≡ f.total.degrees
  unfolding table_figures source_of block_source within_source joined total_source
  degrees-add-up =
      let repeats = all-repeats (runs_of p) p.repeats (some-repeat p a.plan).0 in
      omega (arith, four (rows_in p) (kind_of p marks) (row_degrees p), all-degrees-left p a.plan, all-degrees (sums-ready a), repeats)

  pub total-source-within : SourceWithin (numerator_limit p) (total_source p readings)
  unfolding total_source
  total-source-within =
      record {
        degrees = (fit (sums-ready a)).1;
        numerator = squares-fit (factors_of p) p.repeats (some-repeat p a.plan).0 readings a.whole (plan-roomy p a.plan) a.within;
      }

  -- the error line of all effects is no more than these and the squares within runs
  pub effect-error-within : SourceWithin (numerator_limit p) (effect_figures p readings marks).error
  unfolding effect_figures effect_source within_source joined total_source
  effect-error-within =
      let all-effects = four (rows_in p) (kind_of p marks) (row_numerator (factors_of p) (read sums)) in
      let all-their-degrees = four (rows_in p) (kind_of p marks) (degrees_of (factors_of p)) in
      let repeats = all-repeats (runs_of p) p.repeats (some-repeat p a.plan).0 in
      record {
        degrees = omega (arith, all-their-degrees, all-degrees (sums-ready a), repeats, total-source-within.degrees);
        numerator = omega (arith, all-effects, together, total-source-within.numerator);
      }

  pub blocks-within : SourceWithin (numerator_limit p) (table_figures p readings marks).blocks
  unfolding table_figures total_source
  blocks-within =
      record {
        degrees = omega (arith, degrees-add-up, total-source-within.degrees);
        numerator = omega (arith, numerators-add-up, total-source-within.numerator);
      }

  pub error-within : SourceWithin (numerator_limit p) (table_figures p readings marks).error
  unfolding table_figures total_source
  error-within = record { degrees = omega (arith, degrees-add-up, total-source-within.degrees); numerator = omega (arith, numerators-add-up, total-source-within.numerator) }

  pub within-source-within : SourceWithin (numerator_limit p) (within_source p readings)
  unfolding table_figures joined
  within-source-within = record { degrees = omega (arith, error-within.degrees); numerator = omega (arith, error-within.numerator) }
