-- The size of a signed value, as code forms it without a sum that could wrap: a value that is not negative is its size, and -1 less a negative
-- one is its size less 1, `mag` of the kit.
--
--   size-mag                    a size is `mag`, or one more
--   turned-fits, turned-held, turned-is, turned-sum
--                               -1 less a negative value: it fits, it is not negative, it is `mag`, and 1 can be added
--   upright-held, upright-is    a value that is not negative: it is no other, and is `mag`
--   size_below, size_above      the size of a negative value, as 1 more than `mag`, and of one that is not
use Rattle.std.specs.Prelude.{◌≡◌, refl, true, false, suc, ◌+◌, ◌≤◌, T, ℤ, pos, negsuc, ◌-ℤ◌, nat_abs}
use Rattle.std.proofs.Common.{◌∙◌, ap, subst, arith, le-ltb, ltb-true, to_z-of_z, Fits, SFits}
use Rattle.std.specs.Int.Signed.{lt_z, mag, non_neg}
use Rattle.std.specs.Int.{w64}
use Rattle.algebra.specs.Laws.Machine.{wrap}

pub size-mag : (x : ℤ) → nat_abs x ≤ suc (mag x)
size-mag (pos n) = omega arith
size-mag (negsuc n) = omega arith

flipped : (x : ℤ) → lt_z x (pos 0) ≡ true → negsuc 0 -ℤ x ≡ pos (mag x)
flipped (pos n) t = cc (le-ltb n 0 (omega arith))
flipped (negsuc n) t = rw (le-ltb (suc n) 1 (omega arith)) (ap pos (omega arith))

upright : (x : ℤ) → lt_z x (pos 0) ≡ false → x ≡ pos (mag x)
upright (pos n) t = refl
upright (negsuc n) t = absurd (subst T t tt)

below-mag : (x : ℤ) → lt_z x (pos 0) ≡ true → mag x + 1 ≡ nat_abs x
below-mag (pos n) t = absurd (omega (arith, ltb-true n 0 t))
below-mag (negsuc n) t = omega arith

above-mag : (x : ℤ) → lt_z x (pos 0) ≡ false → mag x ≡ nat_abs x
above-mag (pos n) t = refl
above-mag (negsuc n) t = absurd (subst T t tt)

module _ {x : ℤ} (f : SFits w64 x) where
  module _ (t : lt_z (wrap x) (pos 0) ≡ true) where
    turned : negsuc 0 -ℤ wrap x ≡ pos (mag x)
    turned = rw (to_z-of_z f) (flipped x (rw (to_z-of_z f) at t))

    pub turned-fits : SFits w64 (negsuc 0 -ℤ wrap x)
    turned-fits = rw turned (record { sfits = f.sfits })

    all-turned : wrap (negsuc 0 -ℤ wrap x) ≡ pos (mag x)
    all-turned = to_z-of_z turned-fits ∙ turned

    pub turned-held : T (non_neg (wrap (negsuc 0 -ℤ wrap x))) × Fits w64 (nat_abs (wrap (negsuc 0 -ℤ wrap x)))
    turned-held = rw all-turned (tt, record { fits = omega (arith, f.sfits) })

    pub turned-is : nat_abs (wrap (negsuc 0 -ℤ wrap x)) ≡ mag x
    turned-is = rw all-turned refl

    pub size_below : nat_abs (wrap (negsuc 0 -ℤ wrap x)) + 1 ≡ nat_abs x
    size_below = rw turned-is (below-mag x (rw (to_z-of_z f) at t))

    pub turned-sum : Fits w64 (nat_abs (wrap (negsuc 0 -ℤ wrap x)) + 1)
    turned-sum = rw all-turned (record { fits = omega (arith, f.sfits) })

  module _ (t : lt_z (wrap x) (pos 0) ≡ false) where
    same : wrap x ≡ pos (mag x)
    same = to_z-of_z f ∙ upright x (rw (to_z-of_z f) at t)

    pub upright-held : T (non_neg (wrap x)) × Fits w64 (nat_abs (wrap x))
    upright-held = rw same (tt, record { fits = omega (arith, f.sfits) })

    pub upright-is : nat_abs (wrap x) ≡ mag x
    upright-is = rw same refl

    pub size_above : nat_abs (wrap x) ≡ nat_abs x
    size_above = upright-is ∙ above-mag x (rw (to_z-of_z f) at t)
