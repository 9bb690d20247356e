-- The divisors of estimates as powers of two.
--
--   exponent-few       the exponent of r is at most 3
--   repeats-power      2 to this power is r, where a run may be made r times
--   zeros-are          and the exponent is how many zeros r ends with
--   mean-power         of an accepted plan 2 to the power `power_of` is the divisor of the mean
--   difference-power   and half of it that of a difference
use Rattle.std.specs.Prelude.{◌≡◌, refl, Bool, true, false, cond, ◌||◌, ℕ, ◌+◌, ◌*◌, ◌-◌, ◌^◌, ◌≤◌, eqb}
use Rattle.std.proofs.Common.{sym, ap, ◌∙◌, true≢false, arith, eqb-true, pow-add, w8}
use Rattle.std.specs.Int.{trailing_zeros}
use Rattle.std.specs.Int.Count.{count_trailing_zeros}
use Rattle.contrasts.specs.Limits.{is_repeats}
use Rattle.plan.specs.declared.types.Plan.{Plan}
use Rattle.plan.proofs.Laws.Accepted.{Accepted}
use Rattle.estimates.specs.Estimate.{mean_divisor, difference_divisor, exponent_of, power_of}

pub exponent-few : (r : ℕ) → exponent_of r ≤ 3
unfolding exponent_of
exponent-few r = by (eqb r 8) (eqb r 4) (eqb r 2)
  where
    by : (a b c : Bool) → cond a 3 (cond b 2 (cond c 1 0)) ≤ 3
    by true b c = omega arith
    by false true c = omega arith
    by false false true = omega arith
    by false false false = omega arith

pub repeats-power : (r : ℕ) → is_repeats r ≡ true → 2 ^ exponent_of r ≡ r
unfolding is_repeats exponent_of
repeats-power r e = by (eqb r 1) (eqb r 2) (eqb r 4) (eqb r 8) refl refl refl refl e
  where
    by : (a b c d : Bool) → eqb r 1 ≡ a → eqb r 2 ≡ b → eqb r 4 ≡ c → eqb r 8 ≡ d → (a || (b || (c || d))) ≡ true → 2 ^ exponent_of r ≡ r
    by true b c d h i j k t = let s = eqb-true r 1 h in rw s refl
    by false true c d h i j k t = let s = eqb-true r 2 i in rw s refl
    by false false true d h i j k t = let s = eqb-true r 4 j in rw s refl
    by false false false true h i j k t = let s = eqb-true r 8 k in rw s refl
    by false false false false h i j k t = absurd (true≢false (sym t))

pub zeros-are : (r : ℕ) → is_repeats r ≡ true → trailing_zeros w8 r ≡ exponent_of r
unfolding is_repeats exponent_of count_trailing_zeros
zeros-are r e = by (eqb r 1) (eqb r 2) (eqb r 4) (eqb r 8) refl refl refl refl e
  where
    by : (a b c d : Bool) → eqb r 1 ≡ a → eqb r 2 ≡ b → eqb r 4 ≡ c → eqb r 8 ≡ d → (a || (b || (c || d))) ≡ true → trailing_zeros w8 r ≡ exponent_of r
    by true b c d h i j k t = let s = eqb-true r 1 h in rw s refl
    by false true c d h i j k t = let s = eqb-true r 2 i in rw s refl
    by false false true d h i j k t = let s = eqb-true r 4 j in rw s refl
    by false false false true h i j k t = let s = eqb-true r 8 k in rw s refl
    by false false false false h i j k t = absurd (true≢false (sym t))

module _ {p : Plan} (a : Accepted p) where
  power : (j : ℕ) → 2 ^ (j + exponent_of p.repeats) ≡ 2 ^ j * p.repeats
  power j = pow-add 2 j (exponent_of p.repeats) ∙ ap (λ (r : ℕ). 2 ^ j * r) (repeats-power p.repeats a.repeats.0)

  pub mean-power : 2 ^ power_of p ≡ mean_divisor p
  mean-power = power p.k

  pub difference-power : 2 ^ (power_of p - 1) ≡ difference_divisor p
  difference-power =
      let one_less : power_of p - 1 ≡ p.k - 1 + exponent_of p.repeats = omega (arith, a.factors.0) in
      ap (λ (j : ℕ). 2 ^ j) one_less ∙ power (p.k - 1)
