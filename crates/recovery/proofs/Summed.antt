-- The loop over the stretches of a column, and the loop over all factors, the last one first.
--
--   Summing h xs start ys                ys is xs with the stretches before the place start summed
--   summing-none                         before the first stretch
--   next-stretch, summing-more           what is lent on is a stretch, and what comes back makes one more
--   kind-gentle                          the factors of a plan pass the test `gentle`
--   AllSummed l k ts d s i ys            ys are the totals ts with the last i factors summed, d is the denominator of these, and s the spacing
--   all_none, all-ready, all_more, all_done    before the last factor, before each, after each, after the first
--   all-long, next-apart, next_fits      its length; the next spacing; the next denominator fits
use mathlib.Core.Path.{◌≡◌, refl, sym, ◌∙◌, ap}
use mathlib.Core.Bool.{Bool, true, false, cond}
use mathlib.Core.List.{List, ◌++◌}
use Prim.Native.Nat.{ℕ, suc, ◌+◌, ◌-◌, ◌*◌, ◌/◌, ◌^◌, ◌<◌, ◌≤◌}
use native.Mathlib.Nat.{mul-le-mul_right, pow-suc, pow-zero, pow-le-pow_right, mul-div_left, le_trans}
use native.Mathlib.Numerals.{add-one}
use native.Mathlib.Omega.{arith}
use lib.Dec.{T, eqb}
use lib.IntN.{ℤ}
use lib.ListN.{length, replicate, take, drop}
use Rattle.algebra.specs.Laws.Parts.{part, Making}
use Rattle.algebra.proofs.Laws.Parts.{length_part, making-none, room-from, next, joined}
use Rattle.contrasts.specs.Columns.{AllWithin}
use Rattle.contrasts.proofs.Factors.{two, three, of_levels}
use Rattle.contrasts.specs.Limits.{value_limit}
use Rattle.contrasts.specs.Totals.{denominator}
use Rattle.contrasts.proofs.Laws.Levels.{some-levels}
use Rattle.contrasts.proofs.Laws.Replicated.{denominator-alike}
use Rattle.contrasts.proofs.Laws.Small.{mild_limit}
use Rattle.contrasts.proofs.Laws.Undo.{sums_over, sums_from, length-sums, length_from, gentle, two-gentle, three-gentle, gentle-alike, all-within, sums-alone}
use Rattle.contrasts.proofs.Laws.Within.{within-part}
use Rattle.passes.specs.Ready.{Stretch, Stretches}
use Rattle.passes.specs.Laws.Powers.{in-stretches}
use Rattle.recovery.specs.Inner.Lent.{Summable}

-- ---- stretches of three

abbrev pub Summing : ℕ → List ℤ → ℕ → List ℤ → Type 0
Summing h xs start ys = Making (3 * h) (sums_over h three xs) xs start ys

module _ {h : ℕ} {xs : List ℤ} (pre : Stretches 3 h xs) where
  pub summing-none : Summing h xs 0 xs
  summing-none = making-none pre.count pre.whole (length-sums h three xs)

  pub width_fits : 3 * h ≤ length xs
  width_fits = omega (arith, pre.whole, mul-le-mul_right (3 * h) pre.more)

  pub some-width : 0 < 3 * h
  some-width = omega (arith, pre.some)

  module _ {start : ℕ} {ys : List ℤ} (m : Summing h xs start ys) (more : start < length ys) where
    pub next-stretch : Stretch 3 h (part (start + 3 * h - start) start ys)
    next-stretch =
        rw (next m more)
        (record {
          kind = pre.kind;
          some = pre.some;
          whole = length_part (3 * h) (m.parts * (3 * h)) xs (room-from m more);
          within = within-part (3 * h) (m.parts * (3 * h)) _ xs (room-from m more) pre.within;
        })

    pub summing-more : (zs : List ℤ) → zs ≡ sums_over h three (part (start + 3 * h - start) start ys)
        → Summing h xs (start + 3 * h) (take start ys ++ (zs ++ drop (start + 3 * h - start) (drop start ys)))
    unfolding three
    summing-more zs e = joined m more zs (e ∙ ap (sums_over h three) (next m more) ∙ alone)
      where
        alone : sums_over h three (part (3 * h) (m.parts * (3 * h)) xs) ≡ part (3 * h) (m.parts * (3 * h)) (sums_over h three xs)
        alone = sums-alone h three m.parts xs pre.some (room-from m more)

-- ---- all factors

pub kind-gentle : (l : ℕ) → T (gentle (of_levels l))
kind-gentle l = by (eqb l 2)
  where
    by : (b : Bool) → T (gentle (cond b two three))
    by true = two-gentle
    by false = three-gentle

pub record AllSummed (l k : ℕ) (ts : List ℤ) (d s i : ℕ) (ys : List ℤ) : Type 0 where
  pub upto : i ≤ k
  pub apart : s ≡ l ^ (k - i)
  pub over : d ≡ (of_levels l).common ^ i
  pub so : ys ≡ sums_from (l ^ (k - i)) (replicate i (of_levels l)) ts

module _ {l k : ℕ} {ts : List ℤ} (pre : Summable l k ts) where
  pub all_none : AllSummed l k ts 1 (length ts) 0 ts
  unfolding sums_from
  all_none =
      let all : k - 0 ≡ k = omega arith in
      record { upto = omega arith; apart = rw all pre.whole; over = sym (pow-zero (of_levels l).common); so = refl }

  module _ {d s i : ℕ} {ys : List ℤ} (w : AllSummed l k ts d s i ys) where
    pub all-long : length ys ≡ length ts
    all-long = rw w.so (length_from (l ^ (k - i)) (replicate i (of_levels l)) ts)

    -- each denominator on the way is no larger than the last
    mild : AllWithin mild_limit ys
    mild j =
        le_trans
        (rw w.so (all-within (l ^ (k - i)) (replicate i (of_levels l)) value_limit ts (gentle-alike i (of_levels l) (kind-gentle l)) pre.within j))
        (le_trans (mul-le-mul_right {m = denominator (replicate i (of_levels l))} {n = (of_levels l).common ^ k} value_limit (rw (denominator-alike i (of_levels l)) (pow-le-pow_right (of_levels l).some-common w.upto))) pre.roomy)

    pub all_done : k ≤ i → (d ≡ denominator (replicate k (of_levels l))) × (ys ≡ sums_from 1 (replicate k (of_levels l)) ts)
    all_done h =
        let e : i ≡ k = omega (arith, w.upto) in
        let n : k - k ≡ 0 = omega arith in
        (w.over ∙ rw e (sym (denominator-alike k (of_levels l))), w.so ∙ rw (e, n, pow-zero l) refl)

    module _ (more : i < k) where
      left : k - i ≡ suc (k - (i + 1))
      left = omega arith

      pub next-apart : s / l ≡ l ^ (k - (i + 1))
      next-apart = rw (w.apart ∙ ap (λ n. l ^ n) left ∙ pow-suc l (k - (i + 1))) (mul-div_left (l ^ (k - (i + 1))) (some-levels l pre.kind))

      pub all-ready : Stretches l (s / l) ys
      all-ready = in-stretches l (k - (i + 1)) k (s / l) ys pre.kind (omega arith) next-apart (all-long ∙ pre.whole) mild

      next-over : d * (of_levels l).common ≡ (of_levels l).common ^ (i + 1)
      next-over = rw (w.over, add-one i) (sym (pow-suc (of_levels l).common i))

      pub next_fits : d * (of_levels l).common < 2 ^ 32
      unfolding value_limit mild_limit
      next_fits =
          let le : (of_levels l).common ^ (i + 1) ≤ (of_levels l).common ^ k = pow-le-pow_right (of_levels l).some-common (omega arith) in
          rw next-over (omega (arith, le, pre.roomy))

      pub all_more : {zs : List ℤ} → zs ≡ sums_over (s / l) (of_levels l) ys → AllSummed l k ts (d * (of_levels l).common) (s / l) (i + 1) zs
      unfolding sums_from
      all_more e =
          record {
            upto = omega arith;
            apart = next-apart;
            over = next-over;
            so = e ∙ rw (next-apart, w.so) (sym (
                ap (λ n. sums_from (l ^ (k - (i + 1))) (replicate n (of_levels l)) ts) (add-one i)
                ∙ ap (λ n. sums_over (l ^ (k - (i + 1))) (of_levels l) (sums_from n (replicate i (of_levels l)) ts)) place));
          }
        where
          place : l ^ (k - (i + 1)) * (of_levels l).levels ≡ l ^ (k - i)
          place = rw (pre.kind, ← (pow-suc l (k - (i + 1)))) (ap (λ n. l ^ n) (sym left))
