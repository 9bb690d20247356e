-- Sums of r readings: every number within r times the limit is one.
--
--   portion M n j       what is taken of n by portion j, where each takes M while there is so much
--   portions            r portions take all of n, or r times M
--   share M z j         the same of a number of either sign
--   share-within        a share is within M
--   shares_sum          and r shares add up to the number, where it is within r times M
--   Shared, shared      so any n sums within r times M are the run sums of n times r readings within M
use Rattle.std.specs.Prelude.{◌≡◌, List, ℕ, zero, suc, ◌+◌, ◌*◌, ◌-◌, ◌/◌, ◌%◌, ◌<◌, ◌≤◌, min, ℤ, pos, negsuc, nat_abs, ◌*ℤ◌, length}
use Rattle.std.proofs.Math.Path.{refl, sym}
use Rattle.std.proofs.Common.{◌∙◌, ap, one-mul, suc-mul, arith}
use Rattle.std.proofs.Math.Arith.{digits_lt, digits_div, digits_mod}
use Rattle.algebra.specs.Naturals.{Σℕ}
use Rattle.algebra.specs.Sum.{Σ}
use Rattle.algebra.specs.Tab.{tab}
use Rattle.algebra.specs.Laws.Naturals.{Σℕ-pos}
use Rattle.algebra.specs.Laws.Size.{nat_abs-*ℤ}
use Rattle.algebra.specs.Laws.Sum.{Σ-cong, Σ-mul}
use Rattle.algebra.specs.Laws.Tab.{length-tab, get_or-tab, is-tab}
use Rattle.contrasts.specs.Codings.{neg}
use Rattle.contrasts.specs.Columns.{read, AllWithin, run_sums_in}
use Rattle.contrasts.specs.Repeats.{run_sums}
use Rattle.contrasts.proofs.Laws.Within.{within-tab}

-- ---- one number

abbrev portion : ℕ → ℕ → ℕ → ℕ
portion M n j = min M (n - j * M)

portions : (M n r : ℕ) → Σℕ r (portion M n) ≡ min n (r * M)
unfolding Σℕ
portions M n zero = omega arith
portions M n (suc r) = omega (arith, portions M n r, suc-mul r M)

-- 1 or -1
abbrev side : ℤ → ℤ
side (pos n) = pos 1
side (negsuc n) = neg 1

side-size : (z : ℤ) → nat_abs (side z) ≡ 1
side-size (pos n) = refl
side-size (negsuc n) = refl

side-times : (z : ℤ) → side z *ℤ pos (nat_abs z) ≡ z
side-times (pos n) = ap pos (one-mul n)
side-times (negsuc n) = rw (one-mul (suc n)) refl

abbrev share : ℕ → ℤ → ℕ → ℤ
share M z j = side z *ℤ pos (portion M (nat_abs z) j)

share-within : (M : ℕ) (z : ℤ) (j : ℕ) → nat_abs (share M z j) ≤ M
share-within M z j = rw (nat_abs-*ℤ (side z) (pos (portion M (nat_abs z) j)), side-size z) (omega arith)

shares_sum : (M r : ℕ) (z : ℤ) → nat_abs z ≤ r * M → Σ r (share M z) ≡ z
shares_sum M r z h =
    Σ-mul (side z) r (λ j. pos (portion M (nat_abs z) j))
    ∙ ap (λ (s : ℤ). side z *ℤ s) (sym (Σℕ-pos r (portion M (nat_abs z))) ∙ ap pos all)
    ∙ side-times z
  where
    all : Σℕ r (portion M (nat_abs z)) ≡ nat_abs z
    all = omega (arith, portions M (nat_abs z) r, h)

-- ---- lists

pub record Shared (n r M : ℕ) (ys xs : List ℤ) : Type 0 where
  pub long : length xs ≡ n * r
  pub within : AllWithin M xs
  pub sums : run_sums_in n r xs ≡ ys

module _ (n r M : ℕ) (ys : List ℤ) where
  -- reading j of run i is share j of its sum
  reading : ℕ → ℤ
  reading i = share M (read ys (i / r)) (i % r)

  reading-at : (i j : ℕ) → i < n → j < r → read (tab (n * r) reading) (i * r + j) ≡ share M (read ys i) j
  unfolding reading
  reading-at i j h k = get_or-tab (pos 0) (n * r) reading (i * r + j) (digits_lt h k) ∙ rw (digits_div i k, digits_mod i k) refl

  pub shared : length ys ≡ n → AllWithin (r * M) ys → (xs : List ℤ) × Shared n r M ys xs
  unfolding run_sums_in run_sums reading
  shared long within = (
    tab (n * r) reading,
    record {
      long = length-tab (n * r) reading;
      within = within-tab (n * r) M reading (λ i h. share-within M (read ys (i / r)) (i % r));
      sums = sym (is-tab (pos 0) ys n (run_sums r (read (tab (n * r) reading))) long
          (λ i h. sym (Σ-cong r (λ j k. reading-at i j h k) ∙ shares_sum M r (read ys i) (within i))));
    },
  )
