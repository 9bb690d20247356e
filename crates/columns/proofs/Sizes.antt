-- The bits of all sizes of a column together.
--
--   Gathered xs b i                   no value of the first i exceeds b in size, but by 1
--   gathered, gather, all-gathered    at the loop's start, at its next turn, at its end
--   few_bits                          where the bits are few no value is beyond
use mathlib.Core.Path.{◌≡◌, sym}
use mathlib.Core.Bool.{false}
use mathlib.Core.List.{List}
use Prim.Native.Nat.{ℕ, suc, ◌+◌, ◌<◌, ◌≤◌}
use native.Mathlib.Decide.{ℕ_discrete}
use native.Mathlib.Omega.{arith}
use lib.Bits.{bit_or, or_add_and, and_le_l, and_le_r}
use lib.IntN.{ℤ, nat_abs}
use lib.ListN.{length}
use lib.Signed.{mag}
use Rattle.algebra.specs.Laws.Signs.{size-mag}
use Rattle.contrasts.specs.Columns.{read, AllWithin}
use Rattle.contrasts.specs.Limits.{value_limit}
use Rattle.contrasts.proofs.Laws.Within.{within-upto}
use Rattle.columns.specs.Refusals.{any_beyond}
use Rattle.columns.specs.Laws.Admitted.{none-beyond}

-- ---- the loop

pub record Gathered (xs : List ℤ) (b i : ℕ) : Type 0 where
  pub reach : i ≤ length xs
  pub so : (j : ℕ) → j < i → nat_abs (read xs j) ≤ suc b

pub gathered : (xs : List ℤ) → Gathered xs 0 0
gathered xs = record { reach = omega arith; so = λ j h. absurd (omega (arith, h)) }

module _ {xs : List ℤ} {b i : ℕ} (w : Gathered xs b i) where
  pub gather : i < length xs → {z : ℤ} → z ≡ read xs i → {m : ℕ} → m ≡ mag z → Gathered xs (bit_or b m) (i + 1)
  gather h {z} same {m} e = record { reach = omega arith; so = λ j k. by j k (ℕ_discrete j i) }
    where
      by : (j : ℕ) → j < i + 1 → Dec (j ≡ i) → nat_abs (read xs j) ≤ suc (bit_or b m)
      by j k (yes d) = rw (d, ← same) (omega (arith, e, size-mag z, or_add_and b m, and_le_l b m))
      by j k (no d) = omega (arith, w.so j (omega arith), or_add_and b m, and_le_r b m)

  pub all-gathered : length xs ≤ i → AllWithin (suc b) xs
  all-gathered h = within-upto (suc b) xs (λ j k. w.so j (omega arith))

-- ---- the whole test

pub few_bits : (xs : List ℤ) {b : ℕ} → AllWithin (suc b) xs → b < 536870912 → false ≡ any_beyond value_limit xs
unfolding value_limit
few_bits xs {b} w h = sym (none-beyond value_limit xs (λ i. omega (arith, w i)))
