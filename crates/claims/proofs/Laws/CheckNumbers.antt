-- That the claim `CheckNumbers` holds.
--
--   check-numbers    the proof
use Rattle.std.specs.Prelude.{◌≡◌, refl, List, ℕ, zero, suc, ℤ, pos, ◌*ℤ◌, replicate}
use Rattle.std.proofs.Common.{sym, ◌∙◌, ap}
use Rattle.algebra.specs.Sum.{Σ}
use Rattle.algebra.specs.Laws.Sum.{Σ-cong}
use Rattle.algebra.specs.Laws.Tab.{get_or-tab}
use Rattle.contrasts.specs.Columns.{read, totals_of}
use Rattle.contrasts.specs.Factor.{Factor}
use Rattle.contrasts.proofs.Factors.{two, three}
use Rattle.contrasts.specs.Totals.{Column, total}
use Rattle.contrasts.specs.Checks.{rounds}
use Rattle.contrasts.proofs.Laws.CheckSum.{check-rounds}
use Rattle.contrasts.proofs.Laws.Digits.{size-pos}
use Rattle.contrasts.proofs.Laws.Repeats.{sums-read}
use Rattle.contrasts.proofs.Laws.ThreeLevels.{round-three}
use Rattle.contrasts.proofs.Laws.TwoLevels.{check-two}
use Rattle.plan.specs.declared.types.Plan.{Plan}
use Rattle.plan.specs.Plan.{factors_of, runs_of, run_sums_of}
use Rattle.plan.proofs.Laws.Answers.{written_new}
use Rattle.plan.proofs.Laws.Sizes.{factors-two, factors-three}
use Rattle.anova.specs.Table.{checks_of, table_figures, table_totals}
use Rattle.claims.specs.CheckNumbers.{threes, left_by, CheckNumbers}

rounds-three : (k : ℕ) (x : Column) → rounds (replicate k three) x ≡ left_by k x
unfolding rounds left_by
rounds-three zero x = refl
rounds-three (suc k) x = ap (rounds (replicate k three)) (λ i q. round-three x q i) ∙ rounds-three k (threes x)

sum_of : (p : Plan) (sums : List ℤ) → Σ (runs_of p) (total (factors_of p) (read sums)) ≡ Σ (runs_of p) (read (totals_of (factors_of p) sums))
unfolding totals_of
sum_of p sums = Σ-cong (runs_of p) (λ e h. sym (get_or-tab (pos 0) (runs_of p) (total (factors_of p) (read sums)) e h))

pub check-numbers : CheckNumbers
unfolding table_figures checks_of table_totals
check-numbers p readings marks totals rows n =
    let sums = run_sums_of p readings in
    record {
      sum = sum_of p sums ∙ ap (λ (ts : List ℤ). Σ (runs_of p) (read ts)) (written_new _ (totals_of (factors_of p) sums) totals n);
      two-levels = λ t. of-column t (read sums) ∙ ap (λ (z : ℤ). pos (runs_of p) *ℤ z) (sums-read (runs_of p) p.repeats readings 0 (size-pos (factors_of p)));
      three-levels = λ t. ap (λ (Fs : List Factor). rounds Fs (read sums)) (factors-three p t) ∙ rounds-three p.k (read sums);
      equal = check-rounds (factors_of p) (read sums);
    }
  where
    of-column : p.levels ≡ 2 → (x : Column) → rounds (factors_of p) x ≡ pos (runs_of p) *ℤ x 0
    of-column t x = rw (factors-two p t) (sym (check-rounds (replicate p.k two) x) ∙ check-two p.k x)
