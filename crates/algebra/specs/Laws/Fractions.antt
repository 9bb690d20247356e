-- Fractions with a common denominator.
--
--   shared-sum    fractions that have a common denominator, added up: their numerators over it
--   shared        where these come to a whole number, so does the sum
--   shared-two    and so of two sums
use Rattle.std.specs.Prelude.{◌≡◌}
use Rattle.std.proofs.Common.{ap, ◌∙◌, mul_comm, mul_right_comm, arith}
use Prim.Native.Nat.{ℕ, zero, suc, ◌+◌, ◌*◌, ◌<◌, ◌≤◌}
use Rattle.std.proofs.Math.Nat.{mul-pos, zero-mul, eq_of_mul-eq-mul_right}
use Rattle.std.proofs.Math.Dec.{lit<}
use Rattle.algebra.specs.Naturals.{Σℕ}
use Rattle.algebra.specs.Laws.Products.{factor-pos}
use Rattle.algebra.specs.Fractions.{Fraction, plus, sum_of, Is}

-- ---- fractions with a common denominator d: w e times the bottom of the fraction e

one_more : (s u a b w d m : ℕ) → b * w ≡ d → s * d ≡ m * u → (s * b + a * u) * d ≡ (m + a * w) * (u * b)
one_more s u a b w d m e h =
    let first : s * d * b ≡ m * u * b = ap (λ (x : ℕ). x * b) h in
    let second : a * u * (b * w) ≡ a * u * d = ap (λ (x : ℕ). a * u * x) e in
    omega (arith, first, second)

module _ (n : ℕ) (f : ℕ → Fraction) (w : ℕ → ℕ) (d : ℕ) (some : 0 < d) (share : (e : ℕ) → e < n → (f e).bottom * w e ≡ d) where
  bottoms : (k : ℕ) → k ≤ n → 0 < (sum_of k f).bottom
  unfolding sum_of plus
  bottoms zero h = lit< tt
  bottoms (suc k) h = mul-pos (bottoms k (omega arith)) (factor-pos (f k).bottom (w k) d (share k (omega arith)) some)

  so_far : (k : ℕ) → k ≤ n → (sum_of k f).top * d ≡ Σℕ k (λ e. (f e).top * w e) * (sum_of k f).bottom
  unfolding sum_of plus Σℕ
  so_far zero h = zero-mul d
  so_far (suc k) h =
      one_more (sum_of k f).top (sum_of k f).bottom (f k).top (f k).bottom (w k) d (Σℕ k (λ e. (f e).top * w e))
      (share k (omega arith)) (so_far k (omega arith))

  pub shared-sum : (0 < (sum_of n f).bottom) × ((sum_of n f).top * d ≡ Σℕ n (λ e. (f e).top * w e) * (sum_of n f).bottom)
  shared-sum = (bottoms n (omega arith), so_far n (omega arith))

  pub shared : (m : ℕ) → Σℕ n (λ e. (f e).top * w e) ≡ d * m → Is (sum_of n f) m
  shared m h =
      record {
        bottom = bottoms n (omega arith);
        top =
            eq_of_mul-eq-mul_right d some (sum_of n f).top (m * (sum_of n f).bottom)
            (so_far n (omega arith) ∙ rw h (rw (mul_comm d m) (mul_right_comm m d (sum_of n f).bottom)));
      }

pub shared-two : (q r : Fraction) (a b d m : ℕ) → 0 < d → (0 < q.bottom) × (q.top * d ≡ a * q.bottom) → (0 < r.bottom) × (r.top * d ≡ b * r.bottom)
    → a + b ≡ d * m → Is (plus q r) m
unfolding plus
shared-two q r a b d m some first second h =
    record {
      bottom = mul-pos first.0 second.0;
      top = eq_of_mul-eq-mul_right d some (q.top * r.bottom + r.top * q.bottom) (m * (q.bottom * r.bottom)) joined;
    }
  where
    joined : (q.top * r.bottom + r.top * q.bottom) * d ≡ m * (q.bottom * r.bottom) * d
    joined =
        let one : q.top * d * r.bottom ≡ a * q.bottom * r.bottom = ap (λ (x : ℕ). x * r.bottom) first.1 in
        let other : r.top * d * q.bottom ≡ b * r.bottom * q.bottom = ap (λ (x : ℕ). x * q.bottom) second.1 in
        let all : (a + b) * (q.bottom * r.bottom) ≡ d * m * (q.bottom * r.bottom) = ap (λ (x : ℕ). x * (q.bottom * r.bottom)) h in
        omega (arith, one, other, all)
