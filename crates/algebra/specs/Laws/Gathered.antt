-- The loop that gathers a set bit by bit.
--
--   one_shifted, room     1 shifted by n below the width w, and room for one bit more
--   Gathered f n i set    a loop that gathers the set of f below n has done the numbers below i
--   gathered_none, gathered-small, gathered-more, gathered-all
--                         at its start; what it holds is below 2 ^ i; its next turn; its end
use Rattle.std.specs.Prelude.{◌≡◌, refl, Bool, cond, ℕ, suc, ◌+◌, ◌*◌, ◌%◌, ◌^◌, ◌<◌, ◌≤◌}
use Rattle.std.proofs.Common.{ap, ◌∙◌, pow-suc, zero-lt-suc, one-mul, mod-eq_of_lt, add-one, arith}
use Rattle.std.proofs.Math.Nat.{pow-le-pow_right, one-le-pow}
use Rattle.algebra.specs.Naturals.{Σℕ}
use Rattle.algebra.specs.Bits.{bits}
use Rattle.algebra.specs.Laws.Bits.{bits-lt}

pub room : (n w : ℕ) → n < w → 2 ^ n + 2 ^ n ≤ 2 ^ w
room n w h = omega (arith, pow-suc 2 n, pow-le-pow_right {n = 2} (zero-lt-suc 1) {i = suc n} {j = w} h)

pub one_shifted : (n w : ℕ) → n < w → 1 * 2 ^ n % 2 ^ w ≡ 2 ^ n
one_shifted n w h = rw (one-mul (2 ^ n)) (mod-eq_of_lt (omega (arith, room n w h, one-le-pow n 2 (zero-lt-suc 1))))

-- ---- the loop that gathers a set

pub record Gathered (f : ℕ → Bool) (n i set : ℕ) : Type 0 where
  pub within : i ≤ n
  pub so : set ≡ bits i f

pub gathered_none : (f : ℕ → Bool) (n : ℕ) → Gathered f n 0 0
unfolding bits Σℕ
gathered_none f n = record { within = omega arith; so = refl }

module _ {f : ℕ → Bool} {n i set : ℕ} (w : Gathered f n i set) where
  pub gathered-small : set < 2 ^ i
  gathered-small = rw w.so (bits-lt i f)

  pub gathered-more : i < n → (new : ℕ) {b : Bool} → b ≡ f i → new ≡ set + cond b (2 ^ i) 0 → Gathered f n (i + 1) new
  unfolding bits Σℕ
  gathered-more h new t e = record { within = omega arith; so = rw (add-one i, ← w.so, ← t) e }

  pub gathered-all : n ≤ i → set ≡ bits n f
  gathered-all h = let e : i ≡ n = omega (arith, w.within) in w.so ∙ ap (λ (m : ℕ). bits m f) e
