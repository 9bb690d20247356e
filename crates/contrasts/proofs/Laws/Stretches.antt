-- T6, T7: "the column falls into consecutive stretches [..] and each stretch is worked by itself. In it, values [..] places apart belong together."
--
--   pass-is            the pass of a position is the pass of its factor at that spacing
--   by_rows s l c x    what a place gets by the rows c, each of l values that lie s apart; a pass is one of this kind
--   rows-value         what it is at the place p + d s, where p is the place of stretch q at the offset i
--   rows-alone         several stretches by themselves get what they get in the column
--   pass-value         so what the pass writes there
--   pass_over s F xs   the pass of F at the spacing s over a whole list; length_over is its length
--   stretch-value      what the pass of one stretch writes at the place i + d s
--   several-alone      the pass of several stretches by themselves is those stretches of the pass of the column
--   stretch-alone      and so of one
use Rattle.std.specs.Prelude.{◌≡◌, refl, List, [], ◌∷◌, ℕ, zero, suc, ◌+◌, ◌*◌, ◌-◌, ◌/◌, ◌%◌, ◌<◌, ◌≤◌, ℤ, pos, ◌*ℤ◌, length, get_or, take}
use Rattle.std.proofs.Common.{sym, ◌∙◌, ap, mul_assoc, mul-one, one-mul, mul-pos, mod-lt, div-add-mod', div-lt_iff_lt-mul, arith}
use Rattle.std.proofs.Math.Arith.{digits_div, digits_mod, digits_lt}
use Rattle.algebra.specs.Laws.Parts.{part}
use Rattle.algebra.proofs.Laws.Parts.{length_part, get_d_part}
use Rattle.algebra.specs.Sum.{Σ}
use Rattle.algebra.specs.Laws.Sum.{Σ-cong, Σ-ext}
use Rattle.algebra.specs.Tab.{tab}
use Rattle.algebra.specs.Laws.Tab.{length-tab, get_or-tab, is-tab}
use Rattle.contrasts.specs.Columns.{read}
use Rattle.contrasts.specs.Factor.{Factor}
use Rattle.contrasts.specs.Totals.{Column, size}
use Rattle.contrasts.specs.Passes.{spacing, digit_at, with_digit, pass_at, pass_from, pass}

pass-from-at : (s : ℕ) (Fs : List Factor) (f : ℕ) (G : Factor) (x : Column) → f < length Fs → pass_from s Fs f x ≡ pass_at (s * spacing Fs f) (get_or Fs f G) x
unfolding pass_from size
pass-from-at s [] f G x h = absurd (omega arith)
pass-from-at s (F ∷ Fs) zero G x h = rw (mul-one s)
pass-from-at s (F ∷ Fs) (suc f) G x h =
    pass-from-at (s * F.levels) Fs f G x (omega arith) ∙ rw (mul_assoc s F.levels (size (take f Fs)))

pub pass-is : (Fs : List Factor) (f : ℕ) (G : Factor) (x : Column) → f < length Fs → pass Fs f x ≡ pass_at (spacing Fs f) (get_or Fs f G) x
pass-is Fs f G x h = pass-from-at 1 Fs f G x h ∙ rw (one-mul (spacing Fs f))

-- ---- what a place gets by the row of its digit, where values s apart belong together, l of them

abbrev pub by_rows : ℕ → ℕ → (ℕ → ℕ → ℤ) → Column → Column
by_rows s l c x i = Σ l (λ j. c (digit_at s l i) j *ℤ x (with_digit s l j i))

pub rows-value : (s l : ℕ) (c : ℕ → ℕ → ℤ) (x : Column) (q i p : ℕ) → p ≡ q * (l * s) + i → i < s → (d : ℕ) → d < l
    → by_rows s l c x (p + d * s) ≡ Σ l (λ j. c d j *ℤ x (p + j * s))
rows-value s l c x q i p e h d k = rw here (Σ-ext l (λ j. rw (digits_div (q * l + d) h, digits_mod q k, there j)))
  where
    here : p + d * s ≡ (q * l + d) * s + i
    here = omega arith

    there : (j : ℕ) → (q * l + d) * s + i - d * s + j * s ≡ p + j * s
    there j = omega arith

module _ (s l : ℕ) (c : ℕ → ℕ → ℤ) (k m : ℕ) (xs : List ℤ) (some : 0 < s) (some-digit : 0 < l) (room : k * (l * s) + m * (l * s) ≤ length xs) where
  -- at the digit d and the offset i of the stretch t of these
  place-value : (t d i : ℕ) → t < m → d < l → i < s
      → by_rows s l c (read xs) (k * (l * s) + (t * (l * s) + i + d * s))
      ≡ by_rows s l c (read (part (m * (l * s)) (k * (l * s)) xs)) (t * (l * s) + i + d * s)
  place-value t d i ht hd hi =
      ap (by_rows s l c (read xs)) (along d)
      ∙ rows-value s l c (read xs) (k + t) i ((k + t) * (l * s) + i) refl hi d hd
      ∙ Σ-cong l (λ j hj. ap (λ z. c d j *ℤ z)
      (ap (read xs) (sym (along j))
      ∙ sym (get_d_part (m * (l * s)) (k * (l * s)) xs (pos 0) (t * (l * s) + i + j * s) (inside j hj))))
      ∙ sym (rows-value s l c (read (part (m * (l * s)) (k * (l * s)) xs)) t i (t * (l * s) + i) refl hi d hd)
    where
      along : (j : ℕ) → k * (l * s) + (t * (l * s) + i + j * s) ≡ (k + t) * (l * s) + i + j * s
      along j = omega arith

      inside : (j : ℕ) → j < l → t * (l * s) + i + j * s < m * (l * s)
      inside j hj =
          let a : j * s + i < l * s = digits_lt hj hi in
          let b : t * (l * s) + (j * s + i) < m * (l * s) = digits_lt ht a in
          omega (arith, b)

  pub rows-alone : tab (length (part (m * (l * s)) (k * (l * s)) xs)) (by_rows s l c (read (part (m * (l * s)) (k * (l * s)) xs)))
      ≡ part (m * (l * s)) (k * (l * s)) (tab (length xs) (by_rows s l c (read xs)))
  rows-alone =
      sym (is-tab (pos 0) (part w from (tab (length xs) (by_rows s l c (read xs)))) (length (part w from xs)) (by_rows s l c (read (part w from xs)))
      (length_part w from (tab (length xs) (by_rows s l c (read xs))) (rw (length-tab (length xs) (by_rows s l c (read xs))) room) ∙ sym (length_part w from xs room))
      (λ j h. let h' : j < w = rw (length_part w from xs room) at h in
      get_d_part w from (tab (length xs) (by_rows s l c (read xs))) (pos 0) j h'
      ∙ get_or-tab (pos 0) (length xs) (by_rows s l c (read xs)) (from + j) (omega (arith, room, h'))
      ∙ rw (← (there j)) (place-value (j / (l * s)) (j % (l * s) / s) (j % (l * s) % s) ((div-lt_iff_lt-mul wide).1 h')
      ((div-lt_iff_lt-mul some).1 (mod-lt j wide)) (mod-lt (j % (l * s)) some))))
    where
      w : ℕ
      w = m * (l * s)

      from : ℕ
      from = k * (l * s)

      wide : 0 < l * s
      wide = mul-pos some-digit some

      there : (j : ℕ) → j / (l * s) * (l * s) + j % (l * s) % s + j % (l * s) / s * s ≡ j
      there j = omega (arith, div-add-mod' j (l * s), div-add-mod' (j % (l * s)) s)

-- ---- the pass

pub pass-value : (s : ℕ) (F : Factor) (x : Column) (q i p : ℕ) → p ≡ q * (F.levels * s) + i → i < s → (d : ℕ) → d < F.levels
    → pass_at s F x (p + d * s) ≡ Σ F.levels (λ j. F.coef d j *ℤ x (p + j * s))
unfolding pass_at
pass-value s F x q i p e h d k = rows-value s F.levels F.coef x q i p e h d k

unfoldable pub pass_over : ℕ → Factor → List ℤ → List ℤ
pass_over s F xs = tab (length xs) (pass_at s F (read xs))

pub length_over : (s : ℕ) (F : Factor) (xs : List ℤ) → length (pass_over s F xs) ≡ length xs
unfolding pass_over
length_over s F xs = length-tab (length xs) (pass_at s F (read xs))

-- in the first stretch
pub stretch-value : (s : ℕ) (F : Factor) (x : Column) (d i : ℕ) → d < F.levels → i < s
    → pass_at s F x (i + d * s) ≡ Σ F.levels (λ j. F.coef d j *ℤ x (i + j * s))
stretch-value s F x d i hd hi = pass-value s F x 0 i i (omega arith) hi d hd

pub several-alone : (s : ℕ) (F : Factor) (k m : ℕ) (xs : List ℤ) → 0 < s → k * (F.levels * s) + m * (F.levels * s) ≤ length xs
    → pass_over s F (part (m * (F.levels * s)) (k * (F.levels * s)) xs) ≡ part (m * (F.levels * s)) (k * (F.levels * s)) (pass_over s F xs)
unfolding pass_over pass_at
several-alone s F k m xs some room = rows-alone s F.levels F.coef k m xs some F.some_level room

pub stretch-alone : (s : ℕ) (F : Factor) (k : ℕ) (xs : List ℤ) → 0 < s → k * (F.levels * s) + F.levels * s ≤ length xs
    → pass_over s F (part (F.levels * s) (k * (F.levels * s)) xs) ≡ part (F.levels * s) (k * (F.levels * s)) (pass_over s F xs)
stretch-alone s F k xs some room = rw (one-mul (F.levels * s)) at (several-alone s F k 1 xs some (rw (one-mul (F.levels * s)) room))
