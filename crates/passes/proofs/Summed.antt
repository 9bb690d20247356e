-- Totals of run sums: what is handed to the passes, and what they make of it.
--
--   once-ready, once-made    runs that are made once: their readings
--   runs-ready               runs that are made more often: their sums can be formed
--   sums-ready               and passed over
use mathlib.Core.Path.{◌≡◌, sym, ◌∙◌, ap}
use mathlib.Core.List.{List}
use Prim.Native.Nat.{ℕ, ◌*◌}
use native.Mathlib.Nat.{mul-one, one-mul}
use lib.IntN.{ℤ}
use lib.ListN.{length, replicate}
use Rattle.contrasts.specs.Columns.{totals_of, run_sums_in}
use Rattle.contrasts.proofs.Factors.{of_levels}
use Rattle.contrasts.proofs.Laws.Repeats.{sums-long, sums-once, sums-within}
use Rattle.passes.specs.Ready.{PassReadings, RunReadings}
use Rattle.repeats.specs.Ready.{AllRuns}

module _ {l k r : ℕ} {xs ys : List ℤ} (pre : RunReadings l k r xs ys) where
  module _ (single : r ≡ 1) where
    same : length xs ≡ length ys
    same = pre.all ∙ rw single (mul-one (length ys))

    pub once-ready : PassReadings l k xs × (length ys ≡ length xs)
    once-ready = (
      record {
        kind = pre.kind;
        limit = pre.limit;
        passable = rw (single, one-mul pre.limit) at pre.passable;
        whole = same ∙ pre.whole;
        within = pre.within;
      },
      sym same,
    )

    pub once-made : {zs : List ℤ} → zs ≡ totals_of (replicate k (of_levels l)) xs → zs ≡ totals_of (replicate k (of_levels l)) (run_sums_in (length ys) r xs)
    once-made e = e ∙ ap (totals_of (replicate k (of_levels l))) (sym (rw single (sums-once same)))

  pub runs-ready : AllRuns r xs ys
  runs-ready = record { few = pre.few; whole = pre.all }

  pub sums-ready : {zs : List ℤ} → zs ≡ run_sums_in (length ys) r xs → PassReadings l k zs
  sums-ready e =
      rw e (record {
        kind = pre.kind;
        limit = r * pre.limit;
        passable = pre.passable;
        whole = sums-long (length ys) r xs ∙ pre.whole;
        within = sums-within (length ys) r pre.limit xs pre.within;
      })
