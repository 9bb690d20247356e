-- The check sum: what all totals add up to.
--
--   check_weight* Fs r   the check weight of run r: the product of its levels' weights
--   check-sum            the sum of the totals is that of the readings, each by its check weight
--   check-rounds         which is what a round for each factor leaves
--   rounds-cong          these rounds see the runs alone
use Rattle.std.specs.Prelude.{◌≡◌, List, [], ◌∷◌, ℕ, ◌+◌, ◌*◌, ◌/◌, ◌%◌, ◌<◌, ℤ, pos, ◌*ℤ◌}
use Rattle.std.proofs.Common.{sym, ◌∙◌, ap, mul_comm, lit<}
use Rattle.std.proofs.Math.Arith.{digits_div, digits_mod, digits_lt}
use Rattle.algebra.specs.Laws.Ring.{ℤ-*one, *ℤ-middle}
use Rattle.algebra.specs.Sum.{Σ}
use Rattle.algebra.specs.Laws.Sum.{Σ-unit, Σ-cong, Σ-ext, Σ-mul-r, Σ-swap, Σ-digits, Σ-split}
use Rattle.contrasts.specs.Factor.{Factor}
use Rattle.contrasts.specs.Totals.{Column, size, total}
use Rattle.contrasts.specs.Checks.{check_weight, round, rounds}
use Rattle.contrasts.proofs.Laws.Digits.{level, total-nil, total-cons, total-Σ}

unfoldable pub check_weight* : List Factor → ℕ → ℤ
check_weight* [] r = pos 1
check_weight* (F ∷ Fs) r = check_weight F (r % F.levels) *ℤ check_weight* Fs (r / F.levels)

pub check-rounds : (Fs : List Factor) (x : Column) → Σ (size Fs) (total Fs x) ≡ rounds Fs x
unfolding size rounds round check_weight
check-rounds [] x = Σ-unit (total [] x) ∙ total-nil x 0
check-rounds (F ∷ Fs) x =
    Σ-ext (l * n) (λ e. total-cons F Fs x e)
    ∙ Σ-split l n (λ d q. Σ l (λ j. F.coef d j *ℤ t j q))
    ∙ Σ-ext n (λ q. Σ-swap l l (λ d j. F.coef d j *ℤ t j q) ∙ Σ-ext l (λ j. Σ-mul-r (t j q) l (λ d. F.coef d j)))
    ∙ Σ-ext n (λ q. sym (total-Σ Fs l (check_weight F) (λ j. level F j x) q))
    ∙ check-rounds Fs (round F x)
  where
    l : ℕ
    l = F.levels

    n : ℕ
    n = size Fs

    t : ℕ → ℕ → ℤ
    t j q = total Fs (level F j x) q

pub rounds-cong : (Fs : List Factor) (x y : Column) → ((r : ℕ) → r < size Fs → x r ≡ y r) → rounds Fs x ≡ rounds Fs y
unfolding size rounds round
rounds-cong [] x y h = h 0 (lit< tt)
rounds-cong (F ∷ Fs) x y h =
    rounds-cong Fs (round F x) (round F y)
    (λ q k. Σ-cong F.levels (λ j l. ap (λ z. check_weight F j *ℤ z) (h (q * F.levels + j) (rw (mul_comm F.levels (size Fs)) (digits_lt k l)))))

rounds-weights : (Fs : List Factor) (x : Column) → rounds Fs x ≡ Σ (size Fs) (λ r. x r *ℤ check_weight* Fs r)
unfolding size rounds round check_weight*
rounds-weights [] x = sym (Σ-unit (λ r. x r *ℤ pos 1) ∙ ℤ-*one (x 0))
rounds-weights (F ∷ Fs) x =
    rounds-weights Fs (round F x)
    ∙ Σ-ext n (λ q. sym (Σ-mul-r (k q) l (λ j. c j *ℤ x (q * l + j))) ∙ Σ-ext l (λ j. *ℤ-middle (c j) (x (q * l + j)) (k q)))
    ∙ sym (Σ-digits l n (λ r. x r *ℤ (c (r % l) *ℤ k (r / l)))
    ∙ Σ-ext n (λ q. Σ-cong l (λ d h. rw (digits_mod q h, digits_div q h))))
  where
    l : ℕ
    l = F.levels

    n : ℕ
    n = size Fs

    c : ℕ → ℤ
    c = check_weight F

    k : ℕ → ℤ
    k = check_weight* Fs

pub check-sum : (Fs : List Factor) (x : Column) → Σ (size Fs) (total Fs x) ≡ Σ (size Fs) (λ r. x r *ℤ check_weight* Fs r)
check-sum Fs x = check-rounds Fs x ∙ rounds-weights Fs x
