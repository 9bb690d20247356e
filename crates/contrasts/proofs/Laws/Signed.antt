-- Laws on contrasts.
--
--   same_sign          equal signs are of equal tests
--   signed-sum         readings times signs, added up, are a contrast
--   contrast-turned    a contrast whose signs are turned in every run, or in none
--   contrast-all       where every run counts plus it is the sum of all readings
--   count-all          the runs in which a test holds and the others are all
--   count-sum          so many is the sum of readings that are all 1
--   count-half         where the contrast of readings that are all 1 is 0, each of the two is half of them
use Rattle.std.specs.Prelude.{◌≡◌, refl, Bool, true, false, cond, not, [], ◌∷◌, ℕ, zero, suc, ◌+◌, ◌*◌, ◌<◌, eqb, ℤ, pos, nat_abs, neg_ℤ, ◌+ℤ◌, ◌-ℤ◌, ◌*ℤ◌}
use Rattle.std.proofs.Common.{sym, ap, ap₂, ◌∙◌, arith}
use Rattle.std.proofs.Math.Bool.{not-not}
use Rattle.std.proofs.Math.IntN.{neg_ℤ-+ℤ, neg_ℤ-neg_ℤ, +ℤ_comm, +ℤ_idl, +ℤ_idr, -ℤ-+ℤ_cancel}
use Rattle.algebra.specs.Laws.Solve.{solve, var, lit, ◌⊕◌, ◌⊖◌, ◌⊗◌}
use Rattle.algebra.specs.Sum.{Σ}
use Rattle.algebra.specs.Laws.Sum.{Σ-cong, Σ-ext, Σ-zero}
use Rattle.algebra.specs.Laws.Naturals.{Σℕ-pos, Σℕ-add, Σℕ-cong, Σℕ-ones}
use Rattle.contrasts.specs.Codings.{neg}
use Rattle.contrasts.specs.Totals.{Column}
use Rattle.contrasts.specs.Contrast.{sign_of, sum_where, count_where, contrast}

abbrev minus : ℤ → Bool
minus z = eqb (nat_abs (z -ℤ pos 1)) 2

pub same_sign : (a b : Bool) → sign_of a ≡ sign_of b → a ≡ b
same_sign a b e = sym (back a) ∙ ap minus e ∙ back b
  where
    back : (b : Bool) → minus (sign_of b) ≡ b
    back true = refl
    back false = refl

-- one run more: a and b the sums so far, z its reading
one_more : (f : Bool) (a b z : ℤ) → (a -ℤ b) +ℤ z *ℤ sign_of f
    ≡ (a +ℤ cond (not f) z (pos 0)) -ℤ (b +ℤ cond (not (not f)) z (pos 0))
one_more true a b z = solve (a ∷ b ∷ z ∷ []) ((var 0 ⊖ var 1) ⊕ var 2 ⊗ lit (neg 1)) ((var 0 ⊕ lit (pos 0)) ⊖ (var 1 ⊕ var 2)) refl
one_more false a b z = solve (a ∷ b ∷ z ∷ []) ((var 0 ⊖ var 1) ⊕ var 2 ⊗ lit (pos 1)) ((var 0 ⊕ var 2) ⊖ (var 1 ⊕ lit (pos 0))) refl

pub signed-sum : (n : ℕ) (minus : ℕ → Bool) (x : Column) → Σ n (λ r. x r *ℤ sign_of (minus r)) ≡ contrast n (λ r. not (minus r)) x
unfolding Σ
signed-sum zero minus x = refl
signed-sum (suc n) minus x =
    ap (λ (s : ℤ). s +ℤ x n *ℤ sign_of (minus n)) (signed-sum n minus x)
    ∙ one_more (minus n) (sum_where n (λ r. not (minus r)) x) (sum_where n (λ r. not (not (minus r))) x) (x n)

other_way : (a b : ℤ) → neg_ℤ (a -ℤ b) ≡ b -ℤ a
other_way a b = neg_ℤ-+ℤ a (neg_ℤ b) ∙ rw (neg_ℤ-neg_ℤ b) (+ℤ_comm (neg_ℤ a) b)

sum-cong : (n : ℕ) {f g : ℕ → Bool} (x : Column) → ((r : ℕ) → r < n → f r ≡ g r) → sum_where n f x ≡ sum_where n g x
sum-cong n x h = Σ-cong n (λ r l. ap (λ (b : Bool). cond b (x r) (pos 0)) (h r l))

pub contrast-turned : (n : ℕ) (f g : ℕ → Bool) (x : Column) (turn : Bool) → ((r : ℕ) → r < n → f r ≡ cond turn (not (g r)) (g r))
    → contrast n f x ≡ cond turn (neg_ℤ (contrast n g x)) (contrast n g x)
contrast-turned n f g x true h =
    ap₂ ◌-ℤ◌ (sum-cong n x h) (sum-cong n x (λ r l. ap not (h r l) ∙ not-not (g r)))
    ∙ sym (other_way (sum_where n g x) (sum_where n (λ r. not (g r)) x))
contrast-turned n f g x false h = ap₂ ◌-ℤ◌ (sum-cong n x h) (sum-cong n x (λ r l. ap not (h r l)))

pub contrast-all : (n : ℕ) (f : ℕ → Bool) (x : Column) → ((r : ℕ) → f r ≡ true) → contrast n f x ≡ Σ n x
contrast-all n f x all =
    ap₂ ◌-ℤ◌ (Σ-ext n (λ r. rw (all r) refl)) (Σ-ext n {g = λ r. pos 0} (λ r. rw (all r) refl) ∙ Σ-zero n) ∙ +ℤ_idr (Σ n x)

-- ---- how many runs

pub count-all : (n : ℕ) (f : ℕ → Bool) → count_where n f + count_where n (λ r. not (f r)) ≡ n
count-all n f =
    sym (Σℕ-add n (λ r. cond (f r) 1 0) (λ r. cond (not (f r)) 1 0)) ∙ Σℕ-cong n (λ r h. either (f r)) ∙ Σℕ-ones n
  where
    either : (b : Bool) → cond b 1 0 + cond (not b) 1 0 ≡ 1
    either true = refl
    either false = refl

pub count-sum : (n : ℕ) (f : ℕ → Bool) → sum_where n f (λ r. pos 1) ≡ pos (count_where n f)
count-sum n f = Σ-ext n (λ r. one (f r)) ∙ sym (Σℕ-pos n (λ r. cond (f r) 1 0))
  where
    one : (b : Bool) → cond b (pos 1) (pos 0) ≡ pos (cond b 1 0)
    one true = refl
    one false = refl

no_difference : (a b : ℕ) → pos a -ℤ pos b ≡ pos 0 → a ≡ b
no_difference a b e = ap nat_abs (sym (-ℤ-+ℤ_cancel (pos a) (pos b)) ∙ ap (λ (z : ℤ). z +ℤ pos b) e ∙ +ℤ_idl (pos b))

pub count-half : (n h : ℕ) (f : ℕ → Bool) → 2 * h ≡ n → contrast n f (λ r. pos 1) ≡ pos 0
    → (count_where n f ≡ h) × (count_where n (λ r. not (f r)) ≡ h)
count-half n h f d e =
    let same : count_where n f ≡ count_where n (λ r. not (f r))
    = no_difference (count_where n f) (count_where n (λ r. not (f r)))
    (ap₂ ◌-ℤ◌ (sym (count-sum n f)) (sym (count-sum n (λ r. not (f r)))) ∙ e) in
    (omega (arith, d, same, count-all n f), omega (arith, d, same, count-all n f))
