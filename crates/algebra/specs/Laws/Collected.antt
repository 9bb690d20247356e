-- The loops that count those that pass a test, and that write them, lists of w entries each, one after the other.
--
--   Counted test f n i c       a loop up to n has tested f of the numbers below i, and c passed
--   counted_none, counted-pass, counted_skip, counted-all    at its start, at its next turn, at its end
--   placed at xs ys            ys with xs at its places from `at` on
--   Room w test f n old        the lists f i have w entries, and those that pass fit the list old
--   Collected w test f n old i c ys    a loop up to n has written those that passed below i into the first places of ys
--   collected-none, collected-pass, collected-skip, collected-all    at its start, at its next turn, at its end
--   collected-long, collected-room    the length of ys; where a list passes there is room for it
use Rattle.std.specs.Prelude.{◌≡◌, Bool, true, false, ℕ, ◌+◌, ◌*◌, ◌<◌, ◌≤◌, length, take, drop}
use Rattle.std.proofs.Math.Path.{refl}
use Rattle.std.proofs.Common.{ap, ◌∙◌, zero-mul, mul-le-mul_right, arith, length-append, length-drop, take_at, drop_at, drop-drop}
use mathlib.Core.List.{List, ◌++◌, append_assoc, flatten}
use Rattle.algebra.specs.Tab.{tab, tab_from}
use Rattle.algebra.specs.Those.{those}
use Rattle.algebra.specs.Laws.Joined.{flat_append, flat-one}
use Rattle.algebra.specs.Laws.Those.{those-pass, those-skip, those-fewer, flat-long}

-- ---- the loop that counts

pub record Counted {A : Type 0} (test : A → Bool) (f : ℕ → A) (n i c : ℕ) : Type 0 where
  pub within : i ≤ n
  pub few : c ≤ i
  pub so : c ≡ length (those test (tab i f))

pub counted_none : {A : Type 0} (test : A → Bool) (f : ℕ → A) (n : ℕ) → Counted test f n 0 0
unfolding those tab_from
counted_none test f n = record { within = omega arith; few = omega arith; so = refl }

module _ {A : Type 0} {test : A → Bool} {f : ℕ → A} {n i c : ℕ} (w : Counted test f n i c) where
  pub counted-pass : i < n → test (f i) ≡ true → Counted test f n (i + 1) (c + 1)
  counted-pass h e = record {
    within = omega arith;
    few = omega (arith, w.few);
    so = rw (those-pass test f i e, length-append) (omega (arith, w.so));
  }

  pub counted_skip : i < n → test (f i) ≡ false → Counted test f n (i + 1) c
  counted_skip h e = record { within = omega arith; few = omega (arith, w.few); so = rw (those-skip test f i e) w.so }

  pub counted-all : n ≤ i → c ≡ length (those test (tab n f))
  counted-all h = let e : i ≡ n = omega (arith, w.within) in w.so ∙ ap (λ (m : ℕ). length (those test (tab m f))) e

-- ---- the loop that writes

abbrev pub placed : {A : Type 0} → ℕ → List A → List A → List A
placed at xs ys = take at ys ++ (xs ++ drop (at + length xs) ys)

pub record Room {A : Type 0} (w : ℕ) (test : List A → Bool) (f : ℕ → List A) (n : ℕ) (old : List A) : Type 0 where
  pub wide : (i : ℕ) → length (f i) ≡ w
  pub fits : length (flatten (those test (tab n f))) ≤ length old

pub record Collected {A : Type 0} (w : ℕ) (test : List A → Bool) (f : ℕ → List A) (n : ℕ) (old : List A) (i c : ℕ) (ys : List A) : Type 0 where
  pub counted : Counted test f n i c
  pub so : ys ≡ flatten (those test (tab i f)) ++ drop (c * w) old

module _ {A : Type 0} {w : ℕ} {test : List A → Bool} {f : ℕ → List A} {n : ℕ} {old : List A} (r : Room w test f n old) where
  pub collected-none : Collected w test f n old 0 0 old
  unfolding those tab_from flatten
  collected-none = record { counted = counted_none test f n; so = rw (zero-mul w) refl }

  -- lists that pass below i, as many as the loop counted, fit the list
  some_fit : (i c : ℕ) → c ≡ length (those test (tab i f)) → i ≤ n → c * w ≤ length old
  some_fit i c e h =
      let l : c ≤ length (those test (tab n f)) = rw e (those-fewer test f i n h) in
      omega (arith, r.fits, flat-long test f w r.wide n, mul-le-mul_right w l)

  module _ {i c : ℕ} {ys : List A} (d : Collected w test f n old i c ys) where
    front : length (flatten (those test (tab i f))) ≡ c * w
    front = flat-long test f w r.wide i ∙ rw (← d.counted.so) refl

    pub collected-long : length ys ≡ length old
    collected-long = rw (d.so, length-append, front, length-drop) (omega (arith, some_fit i c d.counted.so d.counted.within))

    pub collected-skip : i < n → test (f i) ≡ false → Collected w test f n old (i + 1) c ys
    collected-skip h e = record { counted = counted_skip d.counted h e; so = rw (those-skip test f i e) d.so }

    pub collected-all : n ≤ i → ys ≡ flatten (those test (tab n f)) ++ drop (length (flatten (those test (tab n f)))) old
    collected-all h =
        let e : i ≡ n = omega (arith, d.counted.within) in
        d.so ∙ rw (← front, e) refl

    module _ (h : i < n) (e : test (f i) ≡ true) where
      pub collected-room : c * w + w ≤ length ys
      collected-room = rw collected-long (omega (arith, some_fit (i + 1) (c + 1) (counted-pass d.counted h e).so (omega arith)))

      same : c * w + w ≡ (c + 1) * w
      same = omega arith

      pub collected-pass : {zs : List A} → zs ≡ placed (c * w) (f i) ys → Collected w test f n old (i + 1) (c + 1) zs
      collected-pass q =
          let before = flatten (those test (tab i f)) in
          let rest = drop (c * w) old in
          record {
            counted = counted-pass d.counted h e;
            so = rw (
              q,
              r.wide i,
              ← (drop-drop w (c * w) ys),
              d.so,
              take_at before rest (c * w) front,
              drop_at before rest (c * w) front,
              those-pass test f i e,
              flat_append,
              flat-one,
              append_assoc,
              drop-drop,
              same,
            ) refl;
          }
