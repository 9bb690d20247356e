-- The size of integers: sums, differences and products. `omega` reads no ℤ, so a bound on an integer is one on its size, a natural number.
--
--   nat_abs-neg, nat_abs-*ℤ   the size of - a, and of a b
--   nat_abs-+ℤ, nat_abs-sub   the size of a + b, and of a - b, is at most the sum of the sizes
--   nat_abs-Σ                 and so for a finite sum
--   sq a, square              the square of the size, which is a a
--   squares-of                so for a sum of squares
--   size_below                a size is at most its square
use Rattle.std.specs.Prelude.{◌≡◌, refl, Bool, true, false, cond, ℕ, zero, suc, ◌+◌, ◌*◌, ◌-◌, ◌≤◌, ltb, ℤ, pos, negsuc, neg_ℤ, ◌+ℤ◌, ◌-ℤ◌, ◌*ℤ◌, nat_abs}
use Rattle.std.proofs.Common.{sym, ◌∙◌, le_refl, suc-mul, arith}
use Rattle.algebra.specs.Sum.{Σ}
use Rattle.algebra.specs.Naturals.{Σℕ}
use Rattle.algebra.specs.Laws.Sum.{Σ-ext}
use Rattle.algebra.specs.Laws.Naturals.{Σℕ-pos}

pub nat_abs-neg : (a : ℤ) → nat_abs (neg_ℤ a) ≡ nat_abs a
nat_abs-neg (pos zero) = refl
nat_abs-neg (pos (suc n)) = refl
nat_abs-neg (negsuc n) = refl

pub nat_abs-*ℤ : (a b : ℤ) → nat_abs (a *ℤ b) ≡ nat_abs a * nat_abs b
nat_abs-*ℤ (pos a) (pos b) = refl
nat_abs-*ℤ (pos a) (negsuc b) = nat_abs-neg (pos (a * suc b))
nat_abs-*ℤ (negsuc a) (pos b) = nat_abs-neg (pos (suc a * b))
nat_abs-*ℤ (negsuc a) (negsuc b) = refl

-- pos a less suc b, as _+ℤ_ computes it
less : (c : Bool) (a b : ℕ) → nat_abs (cond c (negsuc (suc b - suc a)) (pos (a - suc b))) ≤ a + suc b
less true a b = omega arith
less false a b = omega arith

pub nat_abs-+ℤ : (a b : ℤ) → nat_abs (a +ℤ b) ≤ nat_abs a + nat_abs b
nat_abs-+ℤ (pos a) (pos b) = le_refl (a + b)
nat_abs-+ℤ (pos a) (negsuc b) = less (ltb a (suc b)) a b
nat_abs-+ℤ (negsuc a) (pos b) = omega (arith, less (ltb b (suc a)) b a)
nat_abs-+ℤ (negsuc a) (negsuc b) = omega arith

pub nat_abs-sub : (a b : ℤ) → nat_abs (a -ℤ b) ≤ nat_abs a + nat_abs b
nat_abs-sub a b = omega (arith, nat_abs-+ℤ a (neg_ℤ b), nat_abs-neg b)

pub nat_abs-Σ : (n : ℕ) (f : ℕ → ℤ) → nat_abs (Σ n f) ≤ Σℕ n (λ i. nat_abs (f i))
unfolding Σ Σℕ
nat_abs-Σ zero f = omega arith
nat_abs-Σ (suc n) f = omega (arith, nat_abs-+ℤ (Σ n f) (f n), nat_abs-Σ n f)

-- ---- the square

abbrev pub sq : ℤ → ℕ
sq a = nat_abs a * nat_abs a

pub square : (a : ℤ) → a *ℤ a ≡ pos (sq a)
square (pos n) = refl
square (negsuc n) = refl

pub squares-of : (n : ℕ) (f : ℕ → ℤ) → pos (Σℕ n (λ i. sq (f i))) ≡ Σ n (λ i. f i *ℤ f i)
squares-of n f = Σℕ-pos n (λ i. sq (f i)) ∙ Σ-ext n (λ i. sym (square (f i)))

pub size_below : (n : ℕ) → n ≤ n * n
size_below zero = omega arith
size_below (suc n) = rw (suc-mul n (suc n)) (omega arith)
