-- Rows and degrees: a row's degrees are the number of its effects, and all rows' degrees add up to the number of runs.
--
--   used d           0 for the digit 0, and 1 for the others
--   degrees-power    of factors that are alike: one less than the levels for each letter, multiplied
--   some-digit       a number that is not 0 has a digit to the base 2 that is not 0
--   letter-degrees   so a row that has a letter has no fewer than that
--   row_lt           an effect's row is one of the 2 ^ k rows
--   degrees-count    the effects of a row are as many as its degrees
--   degrees-sum      "The degrees of mean, kept effects, blocks and error add up to the total's": those of all rows add up to N
use Rattle.std.specs.Prelude.{◌≡◌, refl, Bool, true, false, cond, List, [], ◌∷◌, ℕ, zero, suc, ◌+◌, ◌*◌, ◌-◌, ◌/◌, ◌%◌, ◌^◌, ◌<◌, ◌≤◌, eqb, length, replicate}
use Rattle.std.proofs.Common.{sym, ◌∙◌, ap, le_trans, le_of_eq, mod-lt, mul_comm, pow-suc, one-mul, div-lt_iff_lt-mul, add-one, arith, lit<, pow-add}
use Rattle.std.proofs.Math.Nat.{pow-zero, pow-le-pow_right}
use Rattle.std.proofs.Math.Decide.{ℕ_discrete}
use Rattle.std.proofs.Math.Arith.{digits_div, digits_mod, digits_lt, lt-one}
use Rattle.std.specs.Int.Count.{ones, ones_step}
use Rattle.std.proofs.lemmas.Nat.{ones-le}
use Rattle.std.proofs.Math.Dec.{eqb-suc-zero}
use Rattle.std.proofs.lemmas.List.{length-replicate}
use Rattle.algebra.specs.Naturals.{Σℕ}
use Rattle.algebra.specs.Laws.Naturals.{Σℕ-cong, Σℕ-mul, Σℕ-split, Σℕ-by, Σℕ-ones}
use Rattle.algebra.specs.Laws.Tests.{eqb-digits, cond-*}
use Rattle.contrasts.specs.Factor.{Factor}
use Rattle.contrasts.specs.Totals.{size}
use Rattle.contrasts.specs.Rows.{row_of, degrees_of}

-- 1 where two numbers are equal, and else 0
abbrev same : ℕ → ℕ → ℕ
same a b = cond (eqb a b) 1 0

abbrev pub used : ℕ → ℕ
used d = cond (eqb d 0) 0 1

used-lt : (d : ℕ) → used d < 2
used-lt d = go (eqb d 0)
  where
    go : (b : Bool) → cond b 0 1 < 2
    go true = lit< tt
    go false = lit< tt

pub row_lt : (Fs : List Factor) (e : ℕ) → row_of Fs e < 2 ^ length Fs
unfolding row_of
row_lt [] e = lit< tt
row_lt (F ∷ Fs) e = rw (pow-suc 2 (length Fs)) (digits_lt (row_lt Fs (e / F.levels)) (used-lt (e % F.levels)))

-- ---- the effects of a row

same_digits : (r b w : ℕ) → b < 2 → same (r * 2 + b) w ≡ same b (w % 2) * same r (w / 2)
same_digits r b w h =
    sym (cond-* (eqb b (w % 2)) (eqb r (w / 2)) 1 1 ∙ rw (eqb-digits 2 (r * 2 + b) w, digits_mod r h, digits_div r h))

-- of l digits one is 0 and the others are not
zero-digits : (n : ℕ) → Σℕ (suc n) (λ d. same (used d) 0) ≡ 1
unfolding Σℕ
zero-digits zero = refl
zero-digits (suc n) = rw (zero-digits n, eqb-suc-zero n)

other-digits : (n : ℕ) → Σℕ (suc n) (λ d. same (used d) 1) ≡ n
unfolding Σℕ
other-digits zero = refl
other-digits (suc n) = rw (other-digits n, eqb-suc-zero n) (add-one n)

digits-used : (l c : ℕ) → 0 < l → c < 2 → Σℕ l (λ d. same (used d) c) ≡ cond (eqb c 0) 1 (l - 1)
digits-used zero c h k = absurd (omega arith)
digits-used (suc n) c h k = go (ℕ_discrete c 0)
  where
    go : Dec (c ≡ 0) → Σℕ (suc n) (λ d. same (used d) c) ≡ cond (eqb c 0) 1 (suc n - 1)
    go (yes e) = rw e (zero-digits n)
    go (no e) = let o : c ≡ 1 = omega arith in rw o (other-digits n ∙ omega arith)

pub degrees-count : (Fs : List Factor) (w : ℕ) → w < 2 ^ length Fs → Σℕ (size Fs) (λ e. same (row_of Fs e) w) ≡ degrees_of Fs w
unfolding size row_of degrees_of
degrees-count [] w h = rw (lt-one h) (Σℕ-ones 1)
degrees-count (F ∷ Fs) w h =
    Σℕ-cong (l * n) (λ e _. same_digits (row_of Fs (e / l)) (used (e % l)) w (used-lt (e % l)))
    ∙ Σℕ-split l n (λ d q. digit d * other q)
    ∙ Σℕ-cong n (λ q _. Σℕ-cong l (λ d _. mul_comm (digit d) (other q)) ∙ Σℕ-mul (other q) l digit ∙ mul_comm (other q) (Σℕ l digit))
    ∙ Σℕ-mul (Σℕ l digit) n other
    ∙ rw (digits-used l (w % 2) F.some_level (mod-lt w (lit< tt)))
    (ap (λ z. cond (eqb (w % 2) 0) 1 (l - 1) * z) (degrees-count Fs (w / 2) ((div-lt_iff_lt-mul (lit< tt)).1 (rw (pow-suc 2 (length Fs)) at h))))
  where
    l : ℕ
    l = F.levels

    n : ℕ
    n = size Fs

    digit : ℕ → ℕ
    digit d = same (used d) (w % 2)

    other : ℕ → ℕ
    other q = same (row_of Fs q) (w / 2)

pub degrees-sum : (Fs : List Factor) → Σℕ (2 ^ length Fs) (degrees_of Fs) ≡ size Fs
degrees-sum Fs =
    Σℕ-cong (2 ^ length Fs) (λ w h. sym (degrees-count Fs w h))
    ∙ Σℕ-by (size Fs) (2 ^ length Fs) (row_of Fs) (λ e. 1) (λ e _. row_lt Fs e)
    ∙ Σℕ-ones (size Fs)

-- ---- factors that are alike

pub degrees-power : (F : Factor) (k w : ℕ) → w < 2 ^ k → degrees_of (replicate k F) w ≡ (F.levels - 1) ^ ones w
unfolding degrees_of
degrees-power F zero w h = rw (lt-one h, none) (sym (pow-zero (F.levels - 1)))
  where
    none : ones 0 ≡ 0
    none = omega (arith, ones-le 0 0 (lit< tt))
degrees-power F (suc k) w h =
    ap (λ d. cond (eqb (w % 2) 0) 1 b * d) (degrees-power F k (w / 2) ((div-lt_iff_lt-mul (lit< tt)).1 (rw (pow-suc 2 k) at h)))
    ∙ ap (λ d. d * b ^ ones (w / 2)) (last (ℕ_discrete (w % 2) 0))
    ∙ sym (pow-add b (w % 2) (ones (w / 2)))
    ∙ ap (λ n. b ^ n) (sym (ones_step w))
  where
    b : ℕ
    b = F.levels - 1

    last : Dec (w % 2 ≡ 0) → cond (eqb (w % 2) 0) 1 b ≡ b ^ (w % 2)
    last (yes e) = rw e (sym (pow-zero b))
    last (no e) = let o : w % 2 ≡ 1 = omega arith in rw (o, pow-suc b 0, pow-zero b) (sym (one-mul b))

-- a number that is not 0 has a digit that is not 0
pub some-digit : (k w : ℕ) → w < 2 ^ k → (w ≡ 0 → ⊥) → 1 ≤ ones w
some-digit zero w h n = absurd (n (lt-one h))
some-digit (suc k) w h n = by (ℕ_discrete (w % 2) 0) (some-digit k (w / 2) ((div-lt_iff_lt-mul (lit< tt)).1 (rw (pow-suc 2 k) at h)))
  where
    by : Dec (w % 2 ≡ 0) → ((w / 2 ≡ 0 → ⊥) → 1 ≤ ones (w / 2)) → 1 ≤ ones w
    by (yes e) r = omega (arith, r (λ z. n (omega arith)), ones_step w)
    by (no e) r = omega (arith, ones_step w)

pub letter-degrees : (F : Factor) → 2 ≤ F.levels → (k e : ℕ) → (row_of (replicate k F) e ≡ 0 → ⊥)
    → F.levels - 1 ≤ degrees_of (replicate k F) (row_of (replicate k F) e)
letter-degrees F l k e n =
    let h : w < 2 ^ k = rw (length-replicate k F) at (row_lt (replicate k F) e) in
    rw (degrees-power F k w h) (le_trans (le_of_eq once) (pow-le-pow_right {n = b} (omega arith) {i = 1} {j = ones w} (some-digit k w h n)))
  where
    w : ℕ
    w = row_of (replicate k F) e

    b : ℕ
    b = F.levels - 1

    once : b ≡ b ^ 1
    once = sym (rw (pow-suc b 0, pow-zero b) (one-mul b))
