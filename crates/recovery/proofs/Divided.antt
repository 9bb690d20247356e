-- The loop that divides sums, and the one that puts readings.
--
--   Dividing D M zs i any ys                        the first i sums are quotients, and `any` is whether one of them is missed
--   dividing-none, dividing-more, dividing-all      before the first, after one more, after the last
--   dividing-still                                  the next sum is still there
--   quotient-asks, product-size, divided            a turn of it
--   narrowed-fits, narrowed                         a value that a pass admits, as an i32
use mathlib.Core.Path.{◌≡◌, refl, ◌∙◌, ap}
use mathlib.Core.Bool.{Bool, false, ◌||◌}
use mathlib.Core.List.{List}
use Prim.Native.Nat.{ℕ, ◌+◌, ◌*◌, ◌^◌, ◌<◌, ◌≤◌}
use native.Mathlib.Omega.{arith}
use lib.Dec.{lit<}
use lib.IntN.{ℤ, pos, nat_abs, ◌*ℤ◌}
use lib.ListN.{length, set}
use lib.Signed.{quot_z}
use mir.Facts.{to_z-of_z}
use mir.Syntax.{w32}
use mir.Val.{SFits, to_z, of_z}
use Rattle.algebra.specs.Laws.Fill.{Filled, filled_none, filled-old, filled_more, filled-all}
use Rattle.algebra.specs.Laws.Machine.{wrap, fits-half}
use Rattle.algebra.proofs.Laws.Machine.{back}
use Rattle.algebra.specs.Laws.Quotients.{quot-back, quot-within}
use Rattle.algebra.specs.Laws.Searching.{Seen, seen_none, seen_more, seen_all}
use Rattle.contrasts.specs.Columns.{read}
use Rattle.contrasts.specs.Limits.{value_limit}
use Rattle.contrasts.proofs.Laws.Recovery.{missed, any_missed, quotients}
use Rattle.contrasts.proofs.Laws.Small.{room}
use Rattle.recovery.specs.Inner.Lent.{Sums}

-- ---- the loop

pub record Dividing (D M : ℕ) (zs : List ℤ) (i : ℕ) (any : Bool) (ys : List ℤ) : Type 0 where
  pub filled : Filled (length zs) (λ j. quot_z (read zs j) (pos D)) (read zs) i ys
  pub seen : Seen (λ j. missed D M (read zs j) (quot_z (read zs j) (pos D))) (length zs) i any

pub dividing-none : (D M : ℕ) (zs : List ℤ) → Dividing D M zs 0 false zs
dividing-none D M zs = record {
  filled = filled_none (pos 0) (length zs) (λ j. quot_z (read zs j) (pos D)) (read zs) zs refl (λ j h. refl);
  seen = seen_none (λ j. missed D M (read zs j) (quot_z (read zs j) (pos D))) (length zs);
}

module _ {D M : ℕ} {zs : List ℤ} {i : ℕ} {any : Bool} {ys : List ℤ} (w : Dividing D M zs i any ys) where
  pub dividing-all : length zs ≤ i → (any ≡ any_missed D M zs) × (ys ≡ quotients D zs)
  unfolding any_missed quotients
  dividing-all h = (seen_all w.seen h, filled-all (pos 0) w.filled h)

  module _ (inside : i < length zs) where
    pub dividing-still : read ys i ≡ read zs i
    dividing-still = filled-old (pos 0) w.filled i (omega arith) inside

    pub dividing-more : {q : ℤ} → q ≡ quot_z (read ys i) (pos D) → {t : Bool} → t ≡ missed D M (read ys i) q → Dividing D M zs (i + 1) (any || t) (set ys i q)
    dividing-more e f = record {
      filled = filled_more (pos 0) w.filled inside (e ∙ rw dividing-still refl);
      seen = seen_more w.seen inside (f ∙ rw (e, dividing-still) refl);
    }

half : value_limit < 2 ^ 31
unfolding value_limit
half = lit< tt

module _ {D M : ℕ} {zs : List ℤ} (pre : Sums D M zs) {i : ℕ} {any : Bool} {ys : List ℤ} (w : Dividing D M zs i any ys) (more : i < length zs) where
  sum-within : nat_abs (read ys i) ≤ D * value_limit
  sum-within = rw (dividing-still w more) (pre.within i)

  sum-size : nat_abs (read ys i) < 2 ^ 63
  sum-size = omega (arith, room, pre.room, sum-within)

  pub quotient-asks : (0 < D) × (nat_abs (wrap (read ys i)) < 2 ^ 63)
  quotient-asks = (pre.some, rw (back (read ys i) sum-size) sum-size)

  module _ {q : ℤ} (e : q ≡ quot_z (wrap (read ys i)) (pos D)) where
    quotient_is : wrap q ≡ quot_z (read ys i) (pos D)
    quotient_is =
        rw (e, back (read ys i) sum-size) (back (quot_z (read ys i) (pos D)) (omega (arith, half, quot-within D value_limit (read ys i) sum-within)))

    pub product-size : nat_abs (pos D *ℤ wrap q) < 2 ^ 63
    product-size = rw quotient_is (omega (arith, sum-size, quot-back D (read ys i)))

    pub divided : {t : Bool} → t ≡ missed D M (wrap (read ys i)) (wrap q) → Dividing D M zs (i + 1) (any || t) (set ys i (wrap q))
    divided d = dividing-more w more quotient_is (d ∙ ap (λ z. missed D M z (wrap q)) (back (read ys i) sum-size))

-- ---- a value as a reading

module _ (z : ℤ) (h : nat_abs z ≤ value_limit) where
  held : wrap z ≡ z
  held = back z (omega (arith, half, h))

  pub narrowed-fits : SFits w32 (wrap z)
  narrowed-fits = rw held (fits-half z (omega (arith, half, h)))

  pub narrowed : to_z w32 (of_z w32 (wrap z)) ≡ z
  narrowed = to_z-of_z narrowed-fits ∙ held
