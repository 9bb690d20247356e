-- The squares of readings about their run's mean.
--
--   none-about             of runs made once there are none
--   runs-ready, sums-fit   the run sums are formed, and the sum of their squares fits
--   sums-below             it is no more than what it is taken from
--   about-is               what is left
--   column-kept            the column that is lent for the run sums has its length
--   few-fit, degrees-fit   the degrees that they bring fit, and those of the line that they join
use mathlib.Core.Path.{◌≡◌, refl, sym, ◌∙◌, ap}
use mathlib.Core.List.{List}
use Prim.Native.Nat.{ℕ, ◌+◌, ◌-◌, ◌*◌, ◌^◌, ◌<◌, ◌≤◌}
use native.Mathlib.Nat.{le_trans, mul-one, one-mul, sub_self, mul-le-mul}
use native.Mathlib.Omega.{arith}
use lib.IntN.{ℤ}
use lib.ListN.{length}
use mir.Syntax.{w64}
use mir.Val.{Fits}
use Rattle.std.specs.List.{sum_by}
use Rattle.contrasts.specs.Columns.{run_sums_in, squares_of}
use Rattle.contrasts.proofs.Laws.Repeats.{sums-long, sums-once}
use Rattle.repeats.specs.Ready.{AllRuns}
use Rattle.anova.specs.declared.types.Source.{Source}
use Rattle.anova.specs.Inner.Ready.{RunSquares, Joinable}
use Rattle.anova.specs.Inner.Readings.{about_means, squared}
use Rattle.anova.proofs.Squared.{squares-summed}

module _ {r s : ℕ} {readings column : List ℤ} (pre : RunSquares r s readings column) where
  pub none-about : r ≡ 1 → 0 ≡ about_means (length column) r readings
  unfolding about_means
  none-about e =
      let same : length readings ≡ length column = pre.whole ∙ rw e (mul-one (length column)) in
      sym (rw (e, sums-once same, one-mul (squares_of readings)) (sub_self (squares_of readings)))

  pub runs-ready : AllRuns r readings column
  runs-ready = record { few = pre.few; whole = pre.whole }

  module _ {zs : List ℤ} (e : zs ≡ run_sums_in (length column) r readings) where
    pub sums-fit : sum_by squared zs < 2 ^ 63
    sums-fit = rw (squares-summed zs, e) (omega (arith, pre.sums-least, pre.all_fit))

    pub column-kept : length zs ≡ length column
    column-kept = ap length e ∙ sums-long (length column) r readings

    module _ {q : ℕ} (h : q ≡ sum_by squared zs) where
      d : q ≡ squares_of zs
      d = h ∙ squares-summed zs

      pub sums-below : q ≤ r * s
      sums-below = rw (d, e) pre.sums-least

      pub about-is : r * s - q ≡ about_means (length column) r readings
      unfolding about_means
      about-is = rw (d, e, pre.squares) refl

module _ {line : Source} {n r m : ℕ} (pre : Joinable line n r m) (x : ℕ) (h : x ≤ r) where
  few : n * x ≤ 1024 * 8
  few = mul-le-mul pre.runs-few (le_trans h pre.few)

  pub few-fit : Fits w64 (n * x)
  few-fit = record { fits = omega (arith, few) }

  pub degrees-fit : Fits w64 (line.degrees + n * x)
  degrees-fit = record { fits = omega (arith, few, pre.degrees-fit) }
