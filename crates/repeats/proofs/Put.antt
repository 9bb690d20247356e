-- The sums of runs, put into a column one after the other.
--
--   Putting r xs old i ys                     ys has the sums of the first i runs
--   putting-none, putting-more, putting-all   before the first run, after one more, after the last
--   run-there                                 the readings of the next run are there
use mathlib.Core.Path.{◌≡◌, refl}
use mathlib.Core.List.{List}
use Prim.Native.Nat.{ℕ, suc, ◌+◌, ◌<◌, ◌≤◌}
use native.Mathlib.Nat.{mul-le-mul_right}
use native.Mathlib.Omega.{arith}
use lib.IntN.{ℤ, pos}
use lib.ListN.{length, set}
use Rattle.algebra.specs.Laws.Fill.{Filled, filled_none, filled_more, filled-all}
use Rattle.contrasts.specs.Columns.{read, run_sums_in}
use Rattle.contrasts.specs.Repeats.{run_sums}
use Rattle.repeats.specs.Ready.{RunOf, AllRuns}

pub record Putting (r : ℕ) (xs old : List ℤ) (i : ℕ) (ys : List ℤ) : Type 0 where
  pub so : Filled (length old) (run_sums r (read xs)) (read old) i ys

pub putting-none : (r : ℕ) (xs old : List ℤ) → Putting r xs old 0 old
putting-none r xs old = record { so = filled_none (pos 0) (length old) (run_sums r (read xs)) (read old) old refl (λ j h. refl) }

module _ {r : ℕ} {xs old : List ℤ} {i : ℕ} {ys : List ℤ} (w : Putting r xs old i ys) where
  pub putting-more : i < length old → {v : ℤ} → v ≡ run_sums r (read xs) i → Putting r xs old (i + 1) (set ys i v)
  putting-more h e = record { so = filled_more (pos 0) w.so h e }

  pub putting-all : length old ≤ i → ys ≡ run_sums_in (length old) r xs
  unfolding run_sums_in
  putting-all h = filled-all (pos 0) w.so h

pub run-there : {r : ℕ} {xs old : List ℤ} {i : ℕ} → AllRuns r xs old → i < length old → RunOf r i xs
run-there {r} {old = old} {i = i} pre h =
    record { few = pre.few; there = omega (arith, pre.whole, mul-le-mul_right {m = suc i} {n = length old} r (omega arith)) }
