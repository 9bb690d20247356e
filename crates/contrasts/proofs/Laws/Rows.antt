-- Rows: an effect's row, by its digits, and sums over the rows of one kind.
--
--   row-none               the row of effect 0
--   row_more, row-fewer    factors added behind do not change the row of an effect that does not use them
--   row-again              the row of an effect from that of the effect without its lowest digit, where factors are alike
--   row-turn               a loop that collects an effect's row from its lowest digit on: its next turn, where factors are alike
--   row-two                at two levels an effect's row is its own number
--   numerators-of-kind     the numerators of the rows of one kind are those of their effects
--   degrees-of-kind        and their degrees the number of these effects
use Rattle.std.specs.Prelude.{◌≡◌, refl, Bool, true, false, cond, List, [], ◌∷◌, ◌++◌, ℕ, zero, suc, ◌+◌, ◌*◌, ◌-◌, ◌/◌, ◌%◌, ◌^◌, ◌<◌, eqb, length, replicate}
use Rattle.std.proofs.Common.{sym, ◌∙◌, ap, mod-lt, div-add-mod', div-lt_iff_lt-mul, pow-suc, add-one, arith, eqb→eq, lit<}
use Rattle.std.proofs.Math.Nat.{zero-mod, zero-div}
use Rattle.std.proofs.Math.Arith.{lt-one, digits_div, digits_mod}
use Rattle.std.proofs.lemmas.List.{replicate-append-replicate}
use Rattle.algebra.specs.Naturals.{Σℕ}
use Rattle.algebra.specs.Laws.Naturals.{Σℕ-cong}
use Rattle.algebra.specs.Sorted.{sum_at}
use Rattle.algebra.specs.Laws.Sorted.{by_kind}
use Rattle.algebra.specs.Tests.{every}
use Rattle.algebra.specs.Laws.Tests.{every-at}
use Rattle.contrasts.specs.Factor.{Factor}
use Rattle.contrasts.specs.Rows.{row_of, degrees_of, row_numerator}
use Rattle.contrasts.proofs.Factors.{two}
use Rattle.contrasts.specs.Totals.{Column, size, numerator}
use Rattle.contrasts.proofs.Laws.Degrees.{row_lt, degrees-count}
use Rattle.contrasts.proofs.Laws.Digits.{rest_lt}

-- ---- the row of an effect

pub row-none : (Fs : List Factor) → row_of Fs 0 ≡ 0
unfolding row_of
row-none [] = refl
row-none (F ∷ Fs) = rw (zero-mod F.levels, zero-div F.levels, row-none Fs) refl

pub row_more : (Fs Gs : List Factor) (e : ℕ) → e < size Fs → row_of (Fs ++ Gs) e ≡ row_of Fs e
unfolding row_of size
row_more [] Gs e h = rw (lt-one h) (row-none Gs)
row_more (F ∷ Fs) Gs e h = rw (row_more Fs Gs (e / F.levels) (rest_lt F.some_level h)) refl

row_first : (F : Factor) (Fs : List Factor) (e : ℕ) → row_of (F ∷ Fs) e ≡ row_of Fs (e / F.levels) * 2 + cond (eqb (e % F.levels) 0) 0 1
unfolding row_of
row_first F Fs e = refl

module _ (F : Factor) where
  pub row-fewer : (k j e : ℕ) → e < size (replicate k F) → row_of (replicate (k + j) F) e ≡ row_of (replicate k F) e
  row-fewer k j e h = ap (λ Fs. row_of Fs e) (sym (replicate-append-replicate k j F)) ∙ row_more (replicate k F) (replicate j F) e h

  pub row-again : (k q d : ℕ) → q < size (replicate k F) → d < F.levels
      → row_of (replicate (suc k) F) (q * F.levels + d) ≡ row_of (replicate (suc k) F) q * 2 + cond (eqb d 0) 0 1
  row-again k q d h l =
      row_first F (replicate k F) (q * F.levels + d)
      ∙ rw (digits_mod q l, digits_div q l)
      (ap (λ w. w * 2 + cond (eqb d 0) 0 1) (sym (row-fewer k 1 q h) ∙ ap (λ n. row_of (replicate n F) q) (add-one k)))

  -- i of k digits are done, e holds the rest of them, and the next letter is at `bit` in the row
  pub row-turn : (k i row bit e : ℕ) {R : ℕ} → i < k → row + bit * row_of (replicate (k - i) F) e ≡ R
      → row + cond (eqb (e % F.levels) 0) 0 bit + 2 * bit * row_of (replicate (k - (i + 1)) F) (e / F.levels) ≡ R
  row-turn k i row bit e {R} h so =
      let n : k - i ≡ suc (k - (i + 1)) = omega arith in
      by (eqb (e % F.levels) 0) (row_of (replicate (k - (i + 1)) F) (e / F.levels)) (rw (n, row_first F (replicate (k - (i + 1)) F) e) at so)
    where
      by : (none : Bool) (q : ℕ) → row + bit * (q * 2 + cond none 0 1) ≡ R → row + cond none 0 bit + 2 * bit * q ≡ R
      by true q e = omega (arith, e)
      by false q e = omega (arith, e)

-- a digit of two levels is 0 or 1, as the letter is in the row
digit-two : (d : ℕ) → d < 2 → cond (eqb d 0) 0 1 ≡ d
unfolding every
digit-two d h = eqb→eq (cond (eqb d 0) 0 1) d (every-at 2 (λ d. eqb (cond (eqb d 0) 0 1) d) tt d h)

pub row-two : (k e : ℕ) → e < 2 ^ k → row_of (replicate k two) e ≡ e
unfolding row_of two
row-two zero e h = sym (lt-one h)
row-two (suc k) e h =
    rw (row-two k (e / 2) ((div-lt_iff_lt-mul (lit< tt)).1 (rw (pow-suc 2 k) at h)), digit-two (e % 2) (mod-lt e (lit< tt)))
    (div-add-mod' e 2)

-- ---- the rows of one kind

-- the effects of a row, counted, are its degrees
in_row : (Fs : List Factor) (w : ℕ) → w < 2 ^ length Fs → sum_at (row_of Fs) (λ e. 1) (size Fs) w ≡ degrees_of Fs w
unfolding sum_at
in_row Fs w h = degrees-count Fs w h

module _ (Fs : List Factor) (kind : ℕ → ℕ) (c : ℕ) where
  pub numerators-of-kind : (x : Column) → Σℕ (2 ^ length Fs) (λ w. cond (eqb (kind w) c) (row_numerator Fs x w) 0)
      ≡ sum_at (λ e. kind (row_of Fs e)) (numerator Fs x) (size Fs) c
  numerators-of-kind x = by_kind (2 ^ length Fs) (row_of Fs) kind (numerator Fs x) (size Fs) c (λ e _. row_lt Fs e)

  pub degrees-of-kind : Σℕ (2 ^ length Fs) (λ w. cond (eqb (kind w) c) (degrees_of Fs w) 0)
      ≡ sum_at (λ e. kind (row_of Fs e)) (λ e. 1) (size Fs) c
  degrees-of-kind =
      Σℕ-cong (2 ^ length Fs) (λ w h. ap (λ n. cond (eqb (kind w) c) n 0) (sym (in_row Fs w h)))
      ∙ by_kind (2 ^ length Fs) (row_of Fs) kind (λ e. 1) (size Fs) c (λ e _. row_lt Fs e)
