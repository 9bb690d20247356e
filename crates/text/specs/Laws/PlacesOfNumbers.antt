-- Numbers in decimal, by a buffer and a place, for programs that write the digits themselves.
--
--   enough                        a digit more than a number has is none
--   tenth-less                    the tenth part of a number
--   few-digits, more-digits       a number below 10 is written as its digit, and one from 10 on as its tenth part and its last digit
--   below, above                  a value below 0 is a minus sign and its amount, and any other is its amount
--   signed_below, signed_above    a value below 0, as code holds it, and one that is not
use Rattle.std.specs.Prelude.{◌≡◌, refl, true, false, List, [], ◌∷◌, ◌++◌, ℕ, zero, suc, ◌/◌, ◌^◌, ◌<◌, ◌≤◌, T, ℤ, pos, negsuc, nat_abs}
use Rattle.std.proofs.Common.{sym, ap, ◌∙◌, subst, lt_of_lt_of_le, arith, ltb-true, lit≤, to_z-of_z, SFits}
use Rattle.std.proofs.Math.Decide.{dec_lt}
use Rattle.std.specs.Int.Signed.{lt_z}
use Rattle.std.specs.Int.{w64}
use Rattle.algebra.specs.Laws.Machine.{wrap}
use Rattle.text.specs.Text.{Wrote}
use Rattle.text.specs.Spelled.{digit, decimal_in, decimal, signed}
use Rattle.text.specs.Laws.Decimal.{few, more, tenth}
use Rattle.text.specs.Laws.Places.{retext}

enough : (f n : ℕ) → n < 10 ^ suc f → decimal_in (suc f) n ≡ decimal_in f n
enough zero n h = few 1 n h ∙ sym (few 0 n h)
enough (suc f) n h = by (dec_lt n 10) (enough f (n / 10) (tenth (suc f) n h))
  where
    by : Dec (n < 10) → decimal_in (suc f) (n / 10) ≡ decimal_in f (n / 10) → decimal_in (suc (suc f)) n ≡ decimal_in (suc f) n
    by (yes l) e = few (suc (suc f)) n l ∙ sym (few (suc f) n l)
    by (no l) e = more (suc f) n (omega arith) ∙ ap (λ t. t ++ (digit n ∷ [])) e ∙ sym (more f n (omega arith))

pub tenth-less : {n t : ℕ} → n ≡ t → 10 ≤ n → n / 10 < t
tenth-less e h = omega (arith, e, h)

module _ {a b : List ℕ} {at next n d : ℕ} where
  pub few-digits : n < 10 → d ≡ digit n → Wrote a at (d ∷ []) b next → Wrote a at (decimal n) b next
  few-digits h e w = retext (ap (λ x. x ∷ []) e ∙ sym (few 19 n h)) w

  pub more-digits : n < 2 ^ 64 → 10 ≤ n → d ≡ digit n → Wrote a at (decimal (n / 10) ++ (d ∷ [])) b next → Wrote a at (decimal n) b next
  more-digits l h e w =
      retext
      (ap (λ x. decimal (n / 10) ++ (x ∷ [])) e
      ∙ ap (λ t. t ++ (digit n ∷ [])) (enough 18 (n / 10) (tenth 19 n (lt_of_lt_of_le l (lit≤ tt))))
      ∙ sym (more 18 n h))
      w

below : (z : ℤ) → lt_z z (pos 0) ≡ true → signed z ≡ 45 ∷ decimal (nat_abs z)
below (pos n) t = absurd (omega (arith, ltb-true n 0 t))
below (negsuc n) t = refl

above : (z : ℤ) → lt_z z (pos 0) ≡ false → signed z ≡ decimal (nat_abs z)
above (pos n) t = refl
above (negsuc n) t = absurd (subst T t tt)

module _ {a b : List ℕ} {at next : ℕ} {z : ℤ} (f : SFits w64 z) where
  pub signed_below : lt_z (wrap z) (pos 0) ≡ true → {n : ℕ} → n ≡ nat_abs (wrap z) → Wrote a at ((45 ∷ []) ++ decimal n) b next → Wrote a at (signed z) b next
  signed_below t e w = retext (ap (λ n. 45 ∷ decimal n) (e ∙ ap nat_abs (to_z-of_z f)) ∙ sym (below z (rw (to_z-of_z f) at t))) w

  pub signed_above : lt_z (wrap z) (pos 0) ≡ false → {n : ℕ} → n ≡ nat_abs (wrap z) → Wrote a at (decimal n) b next → Wrote a at (signed z) b next
  signed_above t e w = retext (ap decimal (e ∙ ap nat_abs (to_z-of_z f)) ∙ sym (above z (rw (to_z-of_z f) at t))) w
