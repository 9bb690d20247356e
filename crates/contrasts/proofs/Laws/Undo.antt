-- The sums back from totals, one factor after the other, over any list of factors: the pass of each factor undone, but for its common
-- denominator.
--
--   undo_row F j d       the number at row d of the sum of level j: weight times coefficient
--   undo_sum s F x       the sums by these rows, of a factor whose values lie s apart
--   sums_over s F xs     the same over a whole list; length-sums is its length
--   sums_from s Fs xs    those of all factors, the last one first, where the first factor's values lie s apart; length_from is its length
--   times m xs           m times each value of a list
--
--   with-is, digit-with, with-with, with-self, with-lt    a place with another digit
--   pass-sum             the pass of the sums of a factor is its common denominator times the column; pass-sums so over lists
--   passes-sums          so for all factors
--   passes-from          the passes of all factors in order are the totals
--   sums-back            so the sums of all factors are those of the definition
--   gentle F, all_gentle Fs      the test that a factor's sums are no larger than its common denominator times the largest value, and of all
--   two-gentle .. five-gentle    the four factors pass it; gentle-alike so do k that are alike
--   sum-within, sums-within, all-within    so each sum of a factor, all of one, and those of all factors are within that
--   undo-stretch, sums-alone     stretch by stretch
--   sums-two             at two levels the sums are the pass
--   first-sum, middle-sum, third-sum    at three levels, as code forms them
use Rattle.std.specs.Prelude.{◌≡◌, refl, Bool, true, false, ◌&&◌, List, [], ◌∷◌, T, eqb, leb, ℤ, nat_abs, ◌+ℤ◌, ◌-ℤ◌, ◌*ℤ◌, length, get_or, take, drop, replicate}
use Rattle.std.proofs.Math.Path.{sym, ap}
use Rattle.std.proofs.Common.{◌∙◌, mul_assoc, mul_comm, mul-pos, one-mul, mod-lt, div-add-mod', div-lt_iff_lt-mul, mul-le-mul_right, arith, leb→le, lit<}
use Prim.Native.Nat.{ℕ, zero, suc, ◌+◌, ◌*◌, ◌-◌, ◌/◌, ◌%◌, ◌<◌, ◌≤◌}
use Rattle.std.proofs.Math.Decide.{dec_lt}
use Rattle.std.proofs.Math.Nat.{le_trans}
use Rattle.std.proofs.Math.Arith.{digits_div, digits_mod, digits_lt}
use Rattle.std.proofs.Math.IntN.{pos, *ℤ-zero}
use Rattle.algebra.specs.Naturals.{Σℕ}
use Rattle.algebra.specs.Laws.Parts.{part}
use Rattle.algebra.specs.Laws.Ring.{ac*, *ℤ-assoc, one-*ℤ}
use Rattle.algebra.specs.Laws.Size.{nat_abs-Σ}
use Rattle.algebra.specs.Laws.Solve.{solve, var, lit, ◌⊕◌, ◌⊖◌, ◌⊗◌}
use Rattle.algebra.specs.Sum.{Σ}
use Rattle.algebra.specs.Laws.Sum.{Σ-cong, Σ-ext, Σ-mul, Σ-mul-r, Σ-swap, Σ-one, cond-*ℤ}
use Rattle.algebra.specs.Tab.{tab, tab_from}
use Rattle.algebra.specs.Laws.Tab.{length-tab, get_or-tab, get_d_past, tab-cong}
use Rattle.algebra.specs.Tests.{every, eq_z}
use Rattle.algebra.specs.Laws.Tests.{and_left, and_right, every-at, eqZ→eq}
use Rattle.contrasts.specs.Columns.{read, AllWithin, totals_of, pass_of, passes_of}
use Rattle.contrasts.specs.Factor.{Factor, weight}
use Rattle.contrasts.proofs.Factors.{two, three, four, five}
use Rattle.contrasts.specs.Codings.{neg}
use Rattle.contrasts.specs.Passes.{digit_at, with_digit, pass_at, pass, spacing}
use Rattle.contrasts.specs.Recovery.{back_sum}
use Rattle.contrasts.specs.Totals.{Column, size, total, denominator}
use Rattle.contrasts.proofs.Laws.Bounds.{sized}
use Rattle.contrasts.proofs.Laws.Digits.{total-cong}
use Rattle.contrasts.proofs.Laws.Lists.{tab-read, pass-over, order-list}
use Rattle.contrasts.proofs.Laws.Order.{in_order, in-order}
use Rattle.contrasts.proofs.Laws.Recovery.{sums-total, readings-back}
use Rattle.contrasts.proofs.Laws.Stretches.{by_rows, rows-value, rows-alone, pass_over}
use Rattle.contrasts.proofs.Laws.Within.{within-tab}

-- ---- the sums

abbrev pub undo_row : Factor → ℕ → ℕ → ℤ
undo_row F j d = pos (weight F d) *ℤ F.coef d j

unfoldable pub undo_sum : ℕ → Factor → Column → Column
undo_sum s F x i = by_rows s F.levels (undo_row F) x i

unfoldable pub sums_over : ℕ → Factor → List ℤ → List ℤ
sums_over s F xs = tab (length xs) (undo_sum s F (read xs))

unfoldable pub sums_from : ℕ → List Factor → List ℤ → List ℤ
sums_from s [] xs = xs
sums_from s (F ∷ Fs) xs = sums_over s F (sums_from (s * F.levels) Fs xs)

pub length-sums : (s : ℕ) (F : Factor) (xs : List ℤ) → length (sums_over s F xs) ≡ length xs
unfolding sums_over
length-sums s F xs = length-tab (length xs) (undo_sum s F (read xs))

pub length_from : (s : ℕ) (Fs : List Factor) (xs : List ℤ) → length (sums_from s Fs xs) ≡ length xs
unfolding sums_from
length_from s [] xs = refl
length_from s (F ∷ Fs) xs = length-sums s F (sums_from (s * F.levels) Fs xs) ∙ length_from (s * F.levels) Fs xs

-- ---- a place with another digit

module _ (s l : ℕ) (apart : 0 < s) (some-digit : 0 < l) where
  pub with-is : (j i : ℕ) → with_digit s l j i ≡ (i / s / l * l + j) * s + i % s
  with-is j i = go (i / s) (i % s) (div-add-mod' i s) (i / s / l) (i / s % l) (div-add-mod' (i / s) l)
    where
      go : (m r : ℕ) → m * s + r ≡ i → (q d : ℕ) → q * l + d ≡ m → i - d * s + j * s ≡ (q * l + j) * s + r
      go m r e q d f = rw (← e, ← f) (omega arith)

  pub digit-with : (j i : ℕ) → j < l → digit_at s l (with_digit s l j i) ≡ j
  digit-with j i h = rw (with-is j i, digits_div (i / s / l * l + j) (mod-lt i apart)) (digits_mod (i / s / l) h)

  pub with-with : (d j i : ℕ) → j < l → with_digit s l d (with_digit s l j i) ≡ with_digit s l d i
  with-with d j i h =
      with-is d (with_digit s l j i)
      ∙ rw (with-is j i, digits_div (i / s / l * l + j) (mod-lt i apart), digits_mod (i / s / l * l + j) (mod-lt i apart), digits_div (i / s / l) h)
      (sym (with-is d i))

  pub with-self : (i : ℕ) → with_digit s l (digit_at s l i) i ≡ i
  with-self i = with-is (digit_at s l i) i ∙ rw (div-add-mod' (i / s) l) (div-add-mod' i s)

  -- a column of k stretches has that place too
  pub with-lt : (k j i : ℕ) → j < l → i < k * (l * s) → with_digit s l j i < k * (l * s)
  with-lt k j i h p =
      rw (with-is j i, ← mul_assoc k l s)
      (digits_lt (digits_lt ((div-lt_iff_lt-mul some-digit).1 ((div-lt_iff_lt-mul apart).1 (rw (← mul_assoc k l s) at p))) h) (mod-lt i apart))

-- ---- one factor, over columns

module _ (s : ℕ) (F : Factor) (apart : 0 < s) where
  abbrev at : ℕ → ℕ → ℕ
  at j i = with_digit s F.levels j i

  abbrev own : ℕ → ℕ
  own i = digit_at s F.levels i

  own-lt : (i : ℕ) → own i < F.levels
  own-lt i = mod-lt (i / s) F.some_level

  undo-with : (x : Column) (j i : ℕ) → j < F.levels → undo_sum s F x (at j i) ≡ Σ F.levels (λ d. undo_row F j d *ℤ x (at d i))
  unfolding undo_sum
  undo-with x j i h =
      Σ-ext F.levels (λ d. rw (with-with s F.levels apart F.some_level d j i h, digit-with s F.levels apart F.some_level j i h))

  pub pass-sum : (x : Column) (i : ℕ) → pass_at s F (undo_sum s F x) i ≡ pos F.common *ℤ x i
  unfolding pass_at
  pass-sum x i =
      Σ-cong l (λ j h.
      ap (λ z. c (own i) j *ℤ z) (undo-with x j i h)
      ∙ sym (Σ-mul (c (own i) j) l (λ d. undo_row F j d *ℤ x (at d i))))
      ∙ Σ-swap l l (λ j d. c (own i) j *ℤ (undo_row F j d *ℤ x (at d i)))
      ∙ Σ-cong l (λ d h.
      Σ-ext l (λ j. regroup (c (own i) j) (w d) (c d j) (x (at d i)))
      ∙ Σ-mul-r (w d *ℤ x (at d i)) l (λ j. c (own i) j *ℤ c d j)
      ∙ ap (λ z. z *ℤ (w d *ℤ x (at d i))) (F.rows (own i) d (own-lt i) h)
      ∙ cond-*ℤ (eqb (own i) d) (pos (F.divisor (own i))) (w d *ℤ x (at d i)))
      ∙ Σ-one l (own i) (λ d. pos (F.divisor (own i)) *ℤ (w d *ℤ x (at d i))) (own-lt i)
      ∙ sym (*ℤ-assoc (pos (F.divisor (own i))) (w (own i)) (x (at (own i) i)))
      ∙ ap (λ (m : ℕ). pos m *ℤ x (at (own i) i)) (F.divides (own i) (own-lt i))
      ∙ ap (λ (p : ℕ). pos F.common *ℤ x p) (with-self s F.levels apart F.some_level i)
    where
      l : ℕ
      l = F.levels

      w : ℕ → ℤ
      w d = pos (weight F d)

      c : ℕ → ℕ → ℤ
      c = F.coef

      regroup : (a w b x : ℤ) → a *ℤ ((w *ℤ b) *ℤ x) ≡ (a *ℤ b) *ℤ (w *ℤ x)
      regroup a w b x = simp ac*

  -- only places with another digit there are read
  pass-cong-at : (x y : Column) (i : ℕ) → ((j : ℕ) → j < F.levels → x (at j i) ≡ y (at j i)) → pass_at s F x i ≡ pass_at s F y i
  unfolding pass_at
  pass-cong-at x y i h = Σ-cong F.levels (λ j k. rw (h j k))

pass-times-at : (s : ℕ) (F : Factor) (m : ℤ) (x : Column) (i : ℕ) → pass_at s F (λ p. m *ℤ x p) i ≡ m *ℤ pass_at s F x i
unfolding pass_at
pass-times-at s F m x i =
    Σ-ext F.levels (λ j. swapped (F.coef (digit_at s F.levels i) j) m (x (with_digit s F.levels j i)))
    ∙ Σ-mul m F.levels (λ j. F.coef (digit_at s F.levels i) j *ℤ x (with_digit s F.levels j i))
  where
    swapped : (a m x : ℤ) → a *ℤ (m *ℤ x) ≡ m *ℤ (a *ℤ x)
    swapped a m x = simp ac*

-- ---- one factor, over lists

abbrev pub times : ℤ → List ℤ → List ℤ
times m xs = tab (length xs) (λ i. m *ℤ read xs i)

read-times : (m : ℤ) (xs : List ℤ) (i : ℕ) → read (times m xs) i ≡ m *ℤ read xs i
read-times m xs i = by (dec_lt i (length xs))
  where
    by : Dec (i < length xs) → read (times m xs) i ≡ m *ℤ read xs i
    by (yes h) = get_or-tab (pos 0) (length xs) (λ i. m *ℤ read xs i) i h
    by (no h) =
        get_d_past (pos 0) (times m xs) i (rw (length-tab (length xs) (λ i. m *ℤ read xs i)) (omega arith))
        ∙ sym (*ℤ-zero m)
        ∙ ap (λ z. m *ℤ z) (sym (get_d_past (pos 0) xs i (omega arith)))

pass-times : (s : ℕ) (F : Factor) (m : ℤ) (xs : List ℤ) → pass_over s F (times m xs) ≡ times m (pass_over s F xs)
unfolding pass_over pass_at
pass-times s F m xs =
    rw (length-tab (length xs) (λ i. m *ℤ read xs i), length-tab (length xs) (pass_at s F (read xs)))
    (tab-cong (pos 0) (length xs) (pass_at s F (read (times m xs))) (λ i. m *ℤ read (tab (length xs) (pass_at s F (read xs))) i) (λ i h.
    same i
    ∙ pass-times-at s F m (read xs) i
    ∙ ap (λ z. m *ℤ z) (sym (get_or-tab (pos 0) (length xs) (pass_at s F (read xs)) i h))))
  where
    same : (i : ℕ) → pass_at s F (read (times m xs)) i ≡ pass_at s F (λ p. m *ℤ read xs p) i
    same i = Σ-ext F.levels (λ j. rw (read-times m xs (with_digit s F.levels j i)))

pub pass-sums : (s : ℕ) (F : Factor) (k : ℕ) (xs : List ℤ) → 0 < s → length xs ≡ k * (F.levels * s)
    → pass_over s F (sums_over s F xs) ≡ times (pos F.common) xs
unfolding pass_over sums_over
pass-sums s F k xs apart long =
    rw (length-tab (length xs) (undo_sum s F (read xs)))
    (tab-cong (pos 0) (length xs) (pass_at s F (read (tab (length xs) (undo_sum s F (read xs))))) (λ i. pos F.common *ℤ read xs i) (λ i p.
    pass-cong-at s F apart (read (tab (length xs) (undo_sum s F (read xs)))) (undo_sum s F (read xs)) i
    (λ j h. get_or-tab (pos 0) (length xs) (undo_sum s F (read xs)) (with_digit s F.levels j i)
    (rw long (with-lt s F.levels apart F.some_level k j i h (rw long at p))))
    ∙ pass-sum s F apart (read xs) i))

-- ---- all factors

-- the passes of all factors, the first one first
unfoldable passes_from : ℕ → List Factor → List ℤ → List ℤ
passes_from s [] xs = xs
passes_from s (F ∷ Fs) xs = passes_from (s * F.levels) Fs (pass_over s F xs)

passes-times : (s : ℕ) (Fs : List Factor) (m : ℤ) (xs : List ℤ) → passes_from s Fs (times m xs) ≡ times m (passes_from s Fs xs)
unfolding passes_from
passes-times s [] m xs = refl
passes-times s (F ∷ Fs) m xs = ap (passes_from (s * F.levels) Fs) (pass-times s F m xs) ∙ passes-times (s * F.levels) Fs m (pass_over s F xs)

times-times : (a b : ℕ) (xs : List ℤ) → times (pos a) (times (pos b) xs) ≡ times (pos (a * b)) xs
times-times a b xs =
    rw (length-tab (length xs) (λ i. pos b *ℤ read xs i))
    (tab-cong (pos 0) (length xs) (λ i. pos a *ℤ read (times (pos b) xs) i) (λ i. pos (a * b) *ℤ read xs i)
    (λ i _. rw (read-times (pos b) xs i) (sym (*ℤ-assoc (pos a) (pos b) (read xs i)))))

passes-sums : (s k : ℕ) (Fs : List Factor) (xs : List ℤ) → 0 < s → length xs ≡ k * (s * size Fs)
    → passes_from s Fs (sums_from s Fs xs) ≡ times (pos (denominator Fs)) xs
unfolding passes_from sums_from denominator size
passes-sums s k [] xs apart long = tab-read xs (length xs) refl ∙ tab-cong (pos 0) (length xs) (read xs) (λ i. pos 1 *ℤ read xs i) (λ i _. sym (one-*ℤ (read xs i)))
passes-sums s k (F ∷ Fs) xs apart long =
    ap (passes_from (s * F.levels) Fs)
    (pass-sums s F (k * size Fs) (sums_from (s * F.levels) Fs xs) apart
    (length_from (s * F.levels) Fs xs ∙ long ∙ stretches F.levels (size Fs)))
    ∙ passes-times (s * F.levels) Fs (pos F.common) (sums_from (s * F.levels) Fs xs)
    ∙ ap (times (pos F.common)) (passes-sums (s * F.levels) k Fs xs (mul-pos apart F.some_level) (long ∙ more F.levels (size Fs)))
    ∙ times-times F.common (denominator Fs) xs
  where
    stretches : (l n : ℕ) → k * (s * (l * n)) ≡ k * n * (l * s)
    stretches l n = omega arith

    more : (l n : ℕ) → k * (s * (l * n)) ≡ k * (s * l * n)
    more l n = rw (mul_assoc s l n) refl

-- ---- the passes in order are the totals

drop_at : (Fs : List Factor) (f : ℕ) (G : Factor) → f < length Fs → drop f Fs ≡ get_or Fs f G ∷ drop (suc f) Fs
drop_at [] f G h = absurd (omega arith)
drop_at (F ∷ Fs) zero G h = refl
drop_at (F ∷ Fs) (suc f) G h = drop_at Fs f G (omega arith)

spacing-more : (Fs : List Factor) (f : ℕ) (G : Factor) → f < length Fs → spacing Fs f * (get_or Fs f G).levels ≡ spacing Fs (suc f)
unfolding size
spacing-more [] f G h = absurd (omega arith)
spacing-more (F ∷ Fs) zero G h = mul_comm 1 F.levels
spacing-more (F ∷ Fs) (suc f) G h =
    mul_assoc F.levels (size (take f Fs)) (get_or Fs f G).levels ∙ ap (λ n. F.levels * n) (spacing-more Fs f G (omega arith))

drop_all : (Fs : List Factor) (f : ℕ) → length Fs ≤ f → drop f Fs ≡ []
drop_all [] zero h = refl
drop_all [] (suc f) h = refl
drop_all (F ∷ Fs) zero h = absurd (omega arith)
drop_all (F ∷ Fs) (suc f) h = drop_all Fs f (omega arith)

length-pass : (Fs : List Factor) (f : ℕ) (xs : List ℤ) → length (pass_of Fs f xs) ≡ size Fs
unfolding pass_of
length-pass Fs f xs = length-tab (size Fs) (pass Fs f (read xs))

in-order-from : (Fs : List Factor) (f n : ℕ) (xs : List ℤ) → f + n ≡ length Fs → length xs ≡ size Fs
    → passes_of Fs (tab_from f n (λ i. i)) xs ≡ passes_from (spacing Fs f) (drop f Fs) xs
unfolding passes_of passes_from tab_from
in-order-from Fs f zero xs e long = rw (drop_all Fs f (omega arith)) refl
in-order-from Fs f (suc n) xs e long =
    in-order-from Fs (suc f) n (pass_of Fs f xs) (omega arith) (length-pass Fs f xs)
    ∙ rw (drop_at Fs f two (omega arith), pass-over Fs f two xs long (omega arith), ← spacing-more Fs f two (omega arith)) refl

passes-from : (Fs : List Factor) (xs : List ℤ) → length xs ≡ size Fs → passes_from 1 Fs xs ≡ totals_of Fs xs
unfolding size
passes-from Fs xs long =
    sym (in-order-from Fs 0 (length Fs) xs (omega arith) long) ∙ order-list Fs (in_order (length Fs)) xs long (in-order (length Fs))

-- ---- the sums are those of the definition: both have as totals the denominator times what was given, and there is one such column

module _ (Fs : List Factor) (ts : List ℤ) (long : length ts ≡ size Fs) where
  sums-totals : totals_of Fs (sums_from 1 Fs ts) ≡ times (pos (denominator Fs)) ts
  sums-totals =
      sym (passes-from Fs (sums_from 1 Fs ts) (length_from 1 Fs ts ∙ long)) ∙ passes-sums 1 1 Fs ts (lit< tt) (omega (arith, long))

  definition-totals : totals_of Fs (tab (size Fs) (back_sum Fs (read ts))) ≡ times (pos (denominator Fs)) ts
  unfolding totals_of
  definition-totals =
      rw long (tab-cong (pos 0) (size Fs) (total Fs (read (tab (size Fs) (back_sum Fs (read ts))))) (λ i. pos (denominator Fs) *ℤ read ts i) (λ e h.
      total-cong Fs (read (tab (size Fs) (back_sum Fs (read ts)))) (back_sum Fs (read ts)) e (λ r k. get_or-tab (pos 0) (size Fs) (back_sum Fs (read ts)) r k)
      ∙ sums-total Fs (read ts) e h))

  pub sums-back : sums_from 1 Fs ts ≡ tab (size Fs) (back_sum Fs (read ts))
  sums-back =
      sym (readings-back Fs (times (pos (denominator Fs)) ts) (sums_from 1 Fs ts) sums-totals (length_from 1 Fs ts ∙ long))
      ∙ readings-back Fs (times (pos (denominator Fs)) ts) (tab (size Fs) (back_sum Fs (read ts))) definition-totals (length-tab (size Fs) (back_sum Fs (read ts)))

-- ---- how large the sums are

unfoldable pub gentle : Factor → Bool
gentle F = every F.levels (λ j. leb (Σℕ F.levels (λ d. nat_abs (undo_row F j d))) F.common)

pub two-gentle : T (gentle two)
unfolding gentle every Σℕ two
two-gentle = tt

pub three-gentle : T (gentle three)
unfolding gentle every Σℕ three
three-gentle = tt

pub four-gentle : T (gentle four)
unfolding gentle every Σℕ four
four-gentle = tt

pub five-gentle : T (gentle five)
unfolding gentle every Σℕ five
five-gentle = tt

module _ (s : ℕ) (F : Factor) (M : ℕ) (mild : T (gentle F)) where
  pub sum-within : (xs : List ℤ) → AllWithin M xs → (i : ℕ) → nat_abs (undo_sum s F (read xs) i) ≤ F.common * M
  unfolding undo_sum gentle
  sum-within xs h i =
      le_trans (nat_abs-Σ F.levels (λ d. undo_row F j d *ℤ read xs (with_digit s F.levels d i)))
      (le_trans (sized F.levels M (undo_row F j) (λ d. read xs (with_digit s F.levels d i)) (λ d _. h (with_digit s F.levels d i)))
      (mul-le-mul_right M (leb→le _ F.common (every-at F.levels _ mild j (mod-lt (i / s) F.some_level)))))
    where
      j : ℕ
      j = digit_at s F.levels i

  pub sums-within : (xs : List ℤ) → AllWithin M xs → AllWithin (F.common * M) (sums_over s F xs)
  unfolding sums_over
  sums-within xs h = within-tab (length xs) (F.common * M) (undo_sum s F (read xs)) (λ i _. sum-within xs h i)

unfoldable pub all_gentle : List Factor → Bool
all_gentle [] = true
all_gentle (F ∷ Fs) = gentle F && all_gentle Fs

pub all-within : (s : ℕ) (Fs : List Factor) (M : ℕ) (xs : List ℤ) → T (all_gentle Fs) → AllWithin M xs → AllWithin (denominator Fs * M) (sums_from s Fs xs)
unfolding sums_from denominator all_gentle
all-within s [] M xs mild h = rw (one-mul M) h
all-within s (F ∷ Fs) M xs mild h =
    rw (mul_assoc F.common (denominator Fs) M)
    (sums-within s F (denominator Fs * M) (and_left (gentle F) (all_gentle Fs) mild) (sums_from (s * F.levels) Fs xs)
    (all-within (s * F.levels) Fs M xs (and_right (gentle F) (all_gentle Fs) mild) h))

pub gentle-alike : (k : ℕ) (F : Factor) → T (gentle F) → T (all_gentle (replicate k F))
unfolding all_gentle
gentle-alike zero F h = tt
gentle-alike (suc k) F h = and_both (gentle F) (all_gentle (replicate k F)) h (gentle-alike k F h)
  where
    and_both : (a b : Bool) → T a → T b → T (a && b)
    and_both true b p q = q
    and_both false b p q = p

-- ---- stretch by stretch

pub undo-stretch : (s : ℕ) (F : Factor) (x : Column) (j i : ℕ) → j < F.levels → i < s
    → undo_sum s F x (i + j * s) ≡ Σ F.levels (λ d. undo_row F j d *ℤ x (i + d * s))
unfolding undo_sum
undo-stretch s F x j i hj hi = rows-value s F.levels (undo_row F) x 0 i i (omega arith) hi j hj

pub sums-alone : (s : ℕ) (F : Factor) (k : ℕ) (xs : List ℤ) → 0 < s → k * (F.levels * s) + F.levels * s ≤ length xs
    → sums_over s F (part (F.levels * s) (k * (F.levels * s)) xs) ≡ part (F.levels * s) (k * (F.levels * s)) (sums_over s F xs)
unfolding sums_over undo_sum
sums-alone s F k xs some room =
    rw (one-mul (F.levels * s)) at (rows-alone s F.levels (undo_row F) k 1 xs some F.some_level (rw (one-mul (F.levels * s)) room))

-- ---- two levels: the rows are their own columns, and all weights are 1

transposed : T (every 2 (λ j. every 2 (λ d. eq_z (undo_row two j d) (two.coef j d))))
unfolding every two
transposed = tt

own-transpose : (j d : ℕ) → j < two.levels → d < two.levels → undo_row two j d ≡ two.coef j d
unfolding two
own-transpose j d hj hd = eqZ→eq _ _ (every-at 2 _ (every-at 2 _ transposed j hj) d hd)

pub sums-two : (s : ℕ) (xs : List ℤ) → sums_over s two xs ≡ pass_over s two xs
unfolding sums_over pass_over undo_sum pass_at
sums-two s xs =
    tab-cong (pos 0) (length xs) (undo_sum s two (read xs)) (pass_at s two (read xs))
    (λ i _. Σ-cong two.levels (λ d h.
    ap (λ z. z *ℤ read xs (with_digit s two.levels d i)) (own-transpose (digit_at s two.levels i) d (mod-lt (i / s) two.some_level) h)))

-- ---- three levels

module _ (y : Column) {a b c : ℤ} (first : y 0 ≡ a) (middle : y 1 ≡ b) (third : y 2 ≡ c) where
  pub first-sum : Σ 3 (λ d. undo_row three 0 d *ℤ y d) ≡ pos 2 *ℤ a +ℤ pos 3 *ℤ b +ℤ c
  unfolding three Σ
  first-sum =
      rw (first, middle, third)
      (solve (a ∷ b ∷ c ∷ []) (lit (pos 0) ⊕ lit (pos 2) ⊗ var 0 ⊕ lit (pos 3) ⊗ var 1 ⊕ lit (pos 1) ⊗ var 2)
      (lit (pos 2) ⊗ var 0 ⊕ lit (pos 3) ⊗ var 1 ⊕ var 2) refl)

  pub middle-sum : Σ 3 (λ d. undo_row three 1 d *ℤ y d) ≡ pos 2 *ℤ a -ℤ pos 2 *ℤ c
  unfolding three Σ
  middle-sum =
      rw (first, middle, third)
      (solve (a ∷ b ∷ c ∷ []) (lit (pos 0) ⊕ lit (pos 2) ⊗ var 0 ⊕ lit (pos 0) ⊗ var 1 ⊕ lit (neg 2) ⊗ var 2)
      (lit (pos 2) ⊗ var 0 ⊖ lit (pos 2) ⊗ var 2) refl)

  pub third-sum : Σ 3 (λ d. undo_row three 2 d *ℤ y d) ≡ pos 2 *ℤ a -ℤ pos 3 *ℤ b +ℤ c
  unfolding three Σ
  third-sum =
      rw (first, middle, third)
      (solve (a ∷ b ∷ c ∷ []) (lit (pos 0) ⊕ lit (pos 2) ⊗ var 0 ⊕ lit (neg 3) ⊗ var 1 ⊕ lit (pos 1) ⊗ var 2)
      (lit (pos 2) ⊗ var 0 ⊖ lit (pos 3) ⊗ var 1 ⊕ var 2) refl)
