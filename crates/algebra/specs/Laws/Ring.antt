-- The laws of the ring ℤ that `lib.IntN` lacks.
--
--   +ℤ-left-comm, *ℤ-left-comm    a + (b + c) = b + (a + c), and of products
--   *ℤ-assoc                      the product is associative
--   *ℤ-middle, *ℤ-interchange     (a b) c = b (a c), and (a b) (c d) = (a c) (b d)
--   +ℤ-*ℤ, *ℤ-+ℤ                  and distributes over the sum
--   neg-*ℤ                        (- a) b = - (a b)
--   one-*ℤ, ℤ-*one                1 a = a = a 1
--   ac+, ac*                      rules by which `simp` sorts sums, and products
use Rattle.std.specs.Prelude.{◌≡◌, zero, suc, ℤ, pos, negsuc, neg_ℤ, ◌+ℤ◌, ◌*ℤ◌}
use Rattle.std.proofs.Common.{sym, ◌∙◌}
use Rattle.std.proofs.Math.IntN.{suc_ℤ, pred_ℤ, +ℤ_comm, +ℤ_assoc, +ℤ_idl, *ℤ_comm, zero-*ℤ, suc_ℤ-*ℤ, pred_ℤ-*ℤ, suc_ℤ-+ℤ, pred_ℤ-+ℤ, neg_ℤ-suc_ℤ, neg_ℤ-pred_ℤ, neg_ℤ-+ℤ, *ℤ-one, one, neg_ℤ-neg_ℤ}

-- induction by successor and predecessor
ind : (P : ℤ → Type 0) → P (pos 0) → ((k : ℤ) → P k → P (suc_ℤ k)) → ((k : ℤ) → P k → P (pred_ℤ k)) → (k : ℤ) → P k
ind P z s p (pos zero) = z
ind P z s p (pos (suc n)) = s (pos n) (ind P z s p (pos n))
ind P z s p (negsuc zero) = p (pos 0) z
ind P z s p (negsuc (suc n)) = p (negsuc n) (ind P z s p (negsuc n))

pub +ℤ-left-comm : (a b c : ℤ) → a +ℤ (b +ℤ c) ≡ b +ℤ (a +ℤ c)
+ℤ-left-comm a b c = sym (+ℤ_assoc a b c) ∙ rw (+ℤ_comm a b) (+ℤ_assoc b a c)

pub ruleset ac+ = (+ℤ_assoc, +ℤ_comm, +ℤ-left-comm)

pub +ℤ-*ℤ : (a b c : ℤ) → (a +ℤ b) *ℤ c ≡ a *ℤ c +ℤ b *ℤ c
+ℤ-*ℤ a b c =
    ind (λ k. (k +ℤ b) *ℤ c ≡ k *ℤ c +ℤ b *ℤ c)
    (simp (+ℤ_idl, zero-*ℤ))
    (λ k h. simp (suc_ℤ-+ℤ, suc_ℤ-*ℤ, h) (simp ac+))
    (λ k h. simp (pred_ℤ-+ℤ, pred_ℤ-*ℤ, h) (simp ac+))
    a

pub *ℤ-+ℤ : (a b c : ℤ) → a *ℤ (b +ℤ c) ≡ a *ℤ b +ℤ a *ℤ c
*ℤ-+ℤ a b c = *ℤ_comm a (b +ℤ c) ∙ +ℤ-*ℤ b c a ∙ simp *ℤ_comm

pub neg-*ℤ : (a b : ℤ) → neg_ℤ a *ℤ b ≡ neg_ℤ (a *ℤ b)
neg-*ℤ a b =
    ind (λ k. neg_ℤ k *ℤ b ≡ neg_ℤ (k *ℤ b))
    (simp zero-*ℤ)
    (λ k h. simp (neg_ℤ-suc_ℤ, suc_ℤ-*ℤ, pred_ℤ-*ℤ, neg_ℤ-+ℤ, h))
    (λ k h. simp (neg_ℤ-pred_ℤ, suc_ℤ-*ℤ, pred_ℤ-*ℤ, neg_ℤ-+ℤ, neg_ℤ-neg_ℤ, h))
    a

pub *ℤ-assoc : (a b c : ℤ) → (a *ℤ b) *ℤ c ≡ a *ℤ (b *ℤ c)
*ℤ-assoc a b c =
    ind (λ k. (k *ℤ b) *ℤ c ≡ k *ℤ (b *ℤ c))
    (simp zero-*ℤ)
    (λ k h. simp (suc_ℤ-*ℤ, +ℤ-*ℤ, h))
    (λ k h. simp (pred_ℤ-*ℤ, +ℤ-*ℤ, neg-*ℤ, h))
    a

pub *ℤ-left-comm : (a b c : ℤ) → a *ℤ (b *ℤ c) ≡ b *ℤ (a *ℤ c)
*ℤ-left-comm a b c = sym (*ℤ-assoc a b c) ∙ rw (*ℤ_comm a b) (*ℤ-assoc b a c)

pub ruleset ac* = (*ℤ-assoc, *ℤ_comm, *ℤ-left-comm)

pub *ℤ-middle : (a b c : ℤ) → (a *ℤ b) *ℤ c ≡ b *ℤ (a *ℤ c)
*ℤ-middle a b c = simp ac*

pub *ℤ-interchange : (a b c d : ℤ) → (a *ℤ b) *ℤ (c *ℤ d) ≡ (a *ℤ c) *ℤ (b *ℤ d)
*ℤ-interchange a b c d = simp ac*

pub one-*ℤ : (a : ℤ) → pos 1 *ℤ a ≡ a
unfolding one
one-*ℤ a = *ℤ_comm (pos 1) a ∙ *ℤ-one a

pub ℤ-*one : (a : ℤ) → a *ℤ pos 1 ≡ a
unfolding one
ℤ-*one a = *ℤ-one a
