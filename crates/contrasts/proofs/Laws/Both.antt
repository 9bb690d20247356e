-- Two factors alike that follow each other, passed in one go: the values of the first lie h apart, and those of the second a stretch of the
-- first. A stretch of the second is worked in h turns, each of n values h apart, where n is the square of the levels.
--
--   both_over h F xs             both passes over a whole list; length_both is its length
--   both_at h F xs               its values, and both_is says so
--   both-alone                   both passes of a stretch by itself are that stretch of both passes of the column
--
-- In place:
--
--   BothStretch n h xs           what is asked of one stretch of n h values
--   both-begun, both-ended       it before the first turn, and after the last
--   both-still, both_small       the values of the next turn are those that were there, and are small
--   BothStretches n h xs         what is asked of one or more stretches
--   stretch-fits                 a stretch is no longer than the column
--   both-none                    no stretch is passed yet
--   next-stretch, one-stretch    what is lent on is a stretch, and what comes back makes one more
--
-- From readings to a column, h being 1:
--
--   FirstStretch n xs ys         n readings, and a stretch of a column that they go to
--   first-begun, first_ended     before the one turn, and after it
--   FirstStretches n xs ys       readings in sets of n, and a column of as many places that they go to
--   first-none                   no set is passed yet
--   first-room                   the next n readings are within them
--   next-first, one-first        what is lent on is n readings and a stretch, and what comes back makes one more
use Rattle.std.specs.Prelude.{◌≡◌, refl, List, ◌++◌, ℕ, ◌+◌, ◌-◌, ◌*◌, ◌<◌, ◌≤◌, ℤ, pos, length, take, drop}
use Rattle.std.proofs.Common.{sym, ◌∙◌, mul_assoc, mul-one, mul-pos, mul-le-mul_right, arith, lit<}
use Rattle.std.proofs.Math.Path.{ap}
use Rattle.algebra.specs.Laws.Parts.{part, Making}
use Rattle.algebra.proofs.Laws.Parts.{length_part, making-none, room, room-now, room-from, width, next, joined}
use Rattle.algebra.specs.Laws.Spread.{Turned}
use Rattle.algebra.proofs.Laws.Spread.{begun, ended, unread}
use Rattle.algebra.specs.Tab.{tab}
use Rattle.contrasts.specs.Columns.{read, AllWithin}
use Rattle.contrasts.specs.Factor.{Factor}
use Rattle.contrasts.specs.Limits.{value_limit}
use Rattle.contrasts.specs.Passes.{pass_at}
use Rattle.contrasts.specs.Totals.{Column}
use Rattle.contrasts.proofs.Laws.Small.{Small}
use Rattle.contrasts.proofs.Laws.Stretches.{pass_over, length_over, several-alone, stretch-alone}
use Rattle.contrasts.proofs.Laws.Within.{within-part}

unfoldable pub both_over : ℕ → Factor → List ℤ → List ℤ
both_over h F xs = pass_over (F.levels * h) F (pass_over h F xs)

abbrev pub both_at : ℕ → Factor → List ℤ → Column
both_at h F xs = pass_at (F.levels * h) F (read (pass_over h F xs))

module _ (h : ℕ) (F : Factor) (xs : List ℤ) where
  pub length_both : length (both_over h F xs) ≡ length xs
  unfolding both_over
  length_both = length_over (F.levels * h) F (pass_over h F xs) ∙ length_over h F xs

  pub both_is : both_over h F xs ≡ tab (length xs) (both_at h F xs)
  unfolding both_over pass_over
  both_is = ap (λ n. tab n (both_at h F xs)) (length_over h F xs)

-- w is the width of a stretch of the second factor
pub both-alone : (h : ℕ) (F : Factor) (k w : ℕ) (xs : List ℤ) → w ≡ F.levels * (F.levels * h) → 0 < h → k * w + w ≤ length xs
    → both_over h F (part w (k * w) xs) ≡ part w (k * w) (both_over h F xs)
unfolding both_over
both-alone h F k w xs wide some inside = rw wide (ap (pass_over (F.levels * h) F) inner ∙ outer)
  where
    start : k * F.levels * (F.levels * h) ≡ k * (F.levels * (F.levels * h))
    start = mul_assoc k F.levels (F.levels * h)

    place : k * (F.levels * (F.levels * h)) + F.levels * (F.levels * h) ≤ length xs
    place = rw wide at inside

    inner : pass_over h F (part (F.levels * (F.levels * h)) (k * (F.levels * (F.levels * h))) xs)
        ≡ part (F.levels * (F.levels * h)) (k * (F.levels * (F.levels * h))) (pass_over h F xs)
    inner = rw start at (several-alone h F (k * F.levels) F.levels xs some (rw start place))

    outer : pass_over (F.levels * h) F (part (F.levels * (F.levels * h)) (k * (F.levels * (F.levels * h))) (pass_over h F xs))
        ≡ part (F.levels * (F.levels * h)) (k * (F.levels * (F.levels * h))) (pass_over (F.levels * h) F (pass_over h F xs))
    outer = stretch-alone (F.levels * h) F k (pass_over h F xs) (mul-pos F.some_level some) (rw (length_over h F xs) place)

-- ---- one stretch in place

pub record BothStretch (n h : ℕ) (xs : List ℤ) : Type 0 where
  pub some : 0 < h
  pub whole : length xs ≡ n * h
  pub within : AllWithin value_limit xs

module _ (F : Factor) {n h : ℕ} {xs : List ℤ} (pre : BothStretch n h xs) where
  pub both-begun : Turned n h (both_at h F xs) (read xs) 0 xs
  both-begun = begun (pos 0) xs pre.whole (λ p _. refl)

  module _ {i : ℕ} {ys : List ℤ} (w : Turned n h (both_at h F xs) (read xs) i ys) where
    pub both-ended : h ≤ i → ys ≡ both_over h F xs
    both-ended k =
        let e : i ≡ h = omega (arith, w.some) in
        ended (pos 0) w pre.some e ∙ sym (rw pre.whole at (both_is h F xs))

    module _ (low : i < h) (d : ℕ) (k : d < n) (p : ℕ) (e : i + d * h ≡ p) where
      pub both-still : read xs p ≡ read ys p
      both-still = rw e at (sym (unread (pos 0) w low d k))

      pub both_small : Small (read ys p)
      both_small = record { small = rw (← both-still) (pre.within p) }

-- ---- all stretches in place

pub record BothStretches (n h : ℕ) (xs : List ℤ) : Type 0 where
  pub some : 0 < h
  pub count : ℕ
  pub more : 0 < count
  pub whole : length xs ≡ count * (n * h)
  pub within : AllWithin value_limit xs

pub stretch-fits : {n h : ℕ} {xs : List ℤ} → BothStretches n h xs → n * h ≤ length xs
stretch-fits {n} {h} pre = omega (arith, pre.whole, mul-le-mul_right (n * h) pre.more)

module _ (F : Factor) {n h : ℕ} {xs : List ℤ} (pre : BothStretches n h xs) where
  pub both-none : Making (n * h) (both_over h F xs) xs 0 xs
  both-none = making-none pre.count pre.whole (length_both h F xs)

  module _ {start : ℕ} {ys : List ℤ} (m : Making (n * h) (both_over h F xs) xs start ys) (more : start < length ys) where
    pub next-stretch : BothStretch n h (part (start + n * h - start) start ys)
    next-stretch =
        rw (next m more)
        (record {
          some = pre.some;
          whole = length_part (n * h) (m.parts * (n * h)) xs (room-from m more);
          within = within-part (n * h) (m.parts * (n * h)) _ xs (room-from m more) pre.within;
        })

    pub one-stretch : n ≡ F.levels * F.levels → (zs : List ℤ) → zs ≡ both_over h F (part (start + n * h - start) start ys)
        → Making (n * h) (both_over h F xs) xs (start + n * h) (take start ys ++ (zs ++ drop (start + n * h - start) (drop start ys)))
    one-stretch square zs e =
        joined m more zs (e ∙ ap (both_over h F) (next m more) ∙ both-alone h F m.parts (n * h) xs wide pre.some (room-from m more))
      where
        wide : n * h ≡ F.levels * (F.levels * h)
        wide = rw square (mul_assoc F.levels F.levels h)

-- ---- from readings

pub record FirstStretch (n : ℕ) (xs ys : List ℤ) : Type 0 where
  pub read : length xs ≡ n
  pub written : length ys ≡ n
  pub within : AllWithin value_limit xs

module _ (F : Factor) {n : ℕ} {xs ys : List ℤ} (pre : FirstStretch n xs ys) where
  pub first-begun : Turned n 1 (both_at 1 F xs) (read ys) 0 ys
  first-begun = begun (pos 0) ys (pre.written ∙ sym (mul-one n)) (λ p _. refl)

  pub first_ended : {zs : List ℤ} → Turned n 1 (both_at 1 F xs) (read ys) 1 zs → zs ≡ both_over 1 F xs
  first_ended w = ended (pos 0) w (lit< tt) refl ∙ sym (rw (pre.read ∙ sym (mul-one n)) at (both_is 1 F xs))

pub record FirstStretches (n : ℕ) (xs ys : List ℤ) : Type 0 where
  pub count : ℕ
  pub whole : length xs ≡ count * n
  pub same : length ys ≡ length xs
  pub within : AllWithin value_limit xs

module _ (F : Factor) {n : ℕ} {xs old : List ℤ} (pre : FirstStretches n xs old) where
  pub first-none : Making n (both_over 1 F xs) old 0 old
  first-none = making-none pre.count (pre.same ∙ pre.whole) (length_both 1 F xs ∙ sym pre.same)

  module _ {start : ℕ} {ys : List ℤ} (m : Making n (both_over 1 F xs) old start ys) (more : start < length ys) where
    pub first-room : start + n ≤ length xs
    first-room = rw (← pre.same) (room m more)

    pub next-first : FirstStretch n (part (start + n - start) start xs) (part (start + n - start) start ys)
    next-first =
        rw (width m)
        (record {
          read = length_part n start xs first-room;
          written = length_part n start ys (room-now m more);
          within = within-part n start _ xs first-room pre.within;
        })

    pub one-first : n ≡ F.levels * F.levels → (zs : List ℤ) → zs ≡ both_over 1 F (part (start + n - start) start xs)
        → Making n (both_over 1 F xs) old (start + n) (take start ys ++ (zs ++ drop (start + n - start) (drop start ys)))
    one-first square zs e =
        joined m more zs
        (e ∙ rw (width m, m.from) (both-alone 1 F m.parts n xs wide (lit< tt) (rw (← m.from) first-room)))
      where
        wide : n ≡ F.levels * (F.levels * 1)
        wide = square ∙ rw (mul-one F.levels) refl
