-- The loop over the stretches of a column.
--
--   Passing levels h xs start ys    ys is xs with the stretches before the place start passed
--   passing-none                    before the first stretch
--   width_fits, some-width          a stretch is no longer than the column, and not empty
--   next-stretch                    what is lent on is a stretch
--   passing-more                    what comes back makes one stretch more
use mathlib.Core.Path.{◌≡◌, ◌∙◌, ap}
use mathlib.Core.List.{List, ◌++◌}
use Prim.Native.Nat.{ℕ, ◌+◌, ◌-◌, ◌*◌, ◌<◌, ◌≤◌}
use native.Mathlib.Nat.{mul-le-mul_right, mul-pos}
use native.Mathlib.Omega.{arith}
use lib.IntN.{ℤ}
use lib.ListN.{length, take, drop}
use Rattle.algebra.specs.Laws.Parts.{part, Making}
use Rattle.algebra.proofs.Laws.Parts.{length_part, making-none, room-from, next, joined}
use Rattle.contrasts.proofs.Factors.{of_levels}
use Rattle.contrasts.proofs.Laws.Within.{within-part}
use Rattle.contrasts.proofs.Laws.Stretches.{pass_over, length_over, stretch-alone}
use Rattle.passes.specs.Ready.{Stretch, Stretches}

abbrev pub Passing : ℕ → ℕ → List ℤ → ℕ → List ℤ → Type 0
Passing levels h xs start ys = Making (levels * h) (pass_over h (of_levels levels) xs) xs start ys

module _ {levels h : ℕ} {xs : List ℤ} (pre : Stretches levels h xs) where
  pub passing-none : Passing levels h xs 0 xs
  passing-none = making-none pre.count pre.whole (length_over h (of_levels levels) xs)

  pub width_fits : levels * h ≤ length xs
  width_fits = omega (arith, pre.whole, mul-le-mul_right (levels * h) pre.more)

  pub some-width : 0 < levels * h
  some-width = rw (← pre.kind) (mul-pos (of_levels levels).some_level pre.some)

  module _ {start : ℕ} {ys : List ℤ} (m : Passing levels h xs start ys) (more : start < length ys) where
    pub next-stretch : Stretch levels h (part (start + levels * h - start) start ys)
    next-stretch =
        rw (next m more)
        (record {
          kind = pre.kind;
          some = pre.some;
          whole = length_part (levels * h) (m.parts * (levels * h)) xs (room-from m more);
          within = within-part (levels * h) (m.parts * (levels * h)) _ xs (room-from m more) pre.within;
        })

    pub passing-more : (zs : List ℤ) → zs ≡ pass_over h (of_levels levels) (part (start + levels * h - start) start ys)
        → Passing levels h xs (start + levels * h) (take start ys ++ (zs ++ drop (start + levels * h - start) (drop start ys)))
    passing-more zs e = joined m more zs (e ∙ ap (pass_over h (of_levels levels)) (next m more) ∙ alone)
      where
        alone : pass_over h (of_levels levels) (part (levels * h) (m.parts * (levels * h)) xs)
            ≡ part (levels * h) (m.parts * (levels * h)) (pass_over h (of_levels levels) xs)
        alone = rw pre.kind at (stretch-alone h (of_levels levels) m.parts xs pre.some (rw pre.kind (room-from m more)))
