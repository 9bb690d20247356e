-- The sum of squared readings, or of squared run sums.
--
--   squares-summed   it is the same along the list as over its places
use mathlib.Core.Path.{◌≡◌, refl, sym, ◌∙◌, ap}
use mathlib.Core.List.{List}
use Prim.Native.Nat.{ℕ, zero, suc, ◌+◌, ◌≤◌}
use native.Mathlib.Numerals.{add-one}
use native.Mathlib.Omega.{arith}
use lib.IntN.{ℤ, pos}
use lib.ListN.{length, take}
use Rattle.std.specs.List.{sum_by}
use Rattle.std.proofs.lemmas.List.{take_all}
use Rattle.std.proofs.lemmas.List.Sums.{sum_by_more}
use Rattle.algebra.specs.Naturals.{Σℕ}
use Rattle.contrasts.specs.Columns.{read, squares_of}
use Rattle.anova.specs.Inner.Readings.{squared}

summed : (f : ℤ → ℕ) (xs : List ℤ) (i : ℕ) → i ≤ length xs → sum_by f (take i xs) ≡ Σℕ i (λ j. f (read xs j))
unfolding Σℕ
summed f xs zero h = refl
summed f xs (suc i) h =
    let more = sum_by_more f xs i (pos 0) (omega arith) in
    ap (λ n. sum_by f (take n xs)) (sym (add-one i)) ∙ more ∙ rw (summed f xs i (omega arith)) refl

pub squares-summed : (xs : List ℤ) → sum_by squared xs ≡ squares_of xs
unfolding squares_of
squares-summed xs = ap (sum_by squared) (sym (take_all (length xs) xs (omega arith))) ∙ summed squared xs (length xs) (omega arith)
