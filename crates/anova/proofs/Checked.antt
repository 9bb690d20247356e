-- The check number from the run sums: what is handed to the rounds, and what they make of it.
--
--   count_fits, first_run, first_fits, first-is    at two levels: N times the first run sum
--   runs-ready, rounds-ready, rounds-made          at three levels: what k rounds leave of the run sums
--   column-kept                                    the column that is lent for them has its length
use mathlib.Core.Path.{◌≡◌, refl, sym, ◌∙◌, ap}
use mathlib.Core.List.{List}
use Prim.Native.Nat.{ℕ, ◌*◌, ◌^◌, ◌<◌, ◌≤◌}
use native.Mathlib.Nat.{le_trans, mul-le-mul, mul-le-mul_right, one-le-pow}
use native.Mathlib.Omega.{arith}
use lib.IntN.{ℤ, pos, nat_abs, ◌*ℤ◌}
use lib.ListN.{length, replicate}
use mir.Syntax.{w64}
use mir.Val.{SFits, to_z}
use Rattle.algebra.specs.Laws.Size.{nat_abs-*ℤ}
use Rattle.algebra.specs.Laws.Machine.{fits, wrap}
use Rattle.algebra.proofs.Laws.Machine.{back}
use Rattle.contrasts.specs.Columns.{read, AllWithin, run_sums_in}
use Rattle.contrasts.specs.Repeats.{run_sums}
use Rattle.contrasts.proofs.Factors.{three, of_levels}
use Rattle.contrasts.specs.Checks.{rounds}
use Rattle.contrasts.proofs.Laws.Levels.{some-levels, the-three, as-two, as-three}
use Rattle.contrasts.proofs.Laws.Repeats.{sums-long, sums-read, sums-within}
use Rattle.contrasts.proofs.Laws.TwoLevels.{rounds-two}
use Rattle.repeats.specs.Ready.{RunOf, AllRuns}
use Rattle.anova.specs.Inner.Ready.{Rounds, Checkable}

module _ {levels k r : ℕ} {readings column : List ℤ} (pre : Checkable levels k r readings column) where
  abbrev sums : List ℤ
  sums = run_sums_in (length column) r readings

  sums-small : AllWithin (r * pre.limit) sums
  sums-small = sums-within (length column) r pre.limit readings pre.within

  -- ---- at two levels

  pub count_fits : SFits w64 (pos (length column))
  count_fits = fits (pos (length column)) (omega (arith, pre.column-few))

  some-run : 0 < length column
  some-run = rw pre.column-whole (one-le-pow k levels (some-levels levels pre.kind))

  pub first_run : (j : ℕ) → j ≤ r → RunOf j 0 readings
  first_run j h = record { few = omega (arith, pre.few); there = omega (arith, pre.whole, mul-le-mul_right r some-run) }

  -- N as an i64, and the first run sum as code holds it
  module _ {s : ℤ} (e : s ≡ run_sums r (read readings) 0) where
    first-sum : s ≡ read sums 0
    first-sum = e ∙ sym (sums-read (length column) r readings 0 some-run)

    first_small : nat_abs (read sums 0) ≤ 8 * 2 ^ 31
    first_small =
        let l : pre.limit ≤ 2 ^ 31 = omega (arith, pre.limit-fits) in
        le_trans (sums-small 0) (mul-le-mul pre.few l)

    product : to_z w64 (length column) *ℤ s ≡ pos (length column) *ℤ read sums 0
    product = rw (back (pos (length column)) (omega (arith, pre.column-few)), first-sum) refl

    small : nat_abs (pos (length column) *ℤ read sums 0) < 2 ^ 63
    small =
        rw (nat_abs-*ℤ (pos (length column)) (read sums 0))
        (omega (arith, mul-le-mul pre.column-few first_small))

    pub first_fits : SFits w64 (to_z w64 (length column) *ℤ s)
    first_fits = rw product (fits (pos (length column) *ℤ read sums 0) small)

    pub first-is : levels ≡ 2 → wrap (to_z w64 (length column) *ℤ s) ≡ rounds (replicate k (of_levels levels)) (read sums)
    first-is e =
        let w : length column ≡ 2 ^ k = pre.column-whole ∙ rw e refl in
        held
        ∙ sym (rw (as-two levels e) (rounds-two k (read sums) ∙ rw w refl))
      where
        held : wrap (to_z w64 (length column) *ℤ s) ≡ pos (length column) *ℤ read sums 0
        held = rw product (back (pos (length column) *ℤ read sums 0) small)

  -- ---- at three levels

  pub runs-ready : AllRuns r readings column
  runs-ready = record { few = pre.few; whole = pre.whole }

  module _ (l : levels ≡ 2 → ⊥) {zs : List ℤ} (e : zs ≡ sums) where
    pub rounds-ready : Rounds k zs
    rounds-ready =
        rw e (record {
          limit = r * pre.limit;
          roomy = pre.rounds-roomy l;
          whole = sums-long (length column) r readings ∙ pre.column-whole ∙ rw (the-three levels pre.kind l) refl;
          within = sums-small;
        })

    pub rounds-made : {n : ℤ} → n ≡ rounds (replicate k three) (read zs) → n ≡ rounds (replicate k (of_levels levels)) (read sums)
    rounds-made d = d ∙ rw (e, as-three levels l) refl

    pub column-kept : length zs ≡ length column
    column-kept = ap length e ∙ sums-long (length column) r readings
