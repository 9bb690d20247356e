-- The state of a loop by what each effect brings: effect i goes to row `row i`, brings the numerator `num i`, is of the kind `kind i`, and has
-- the total `t i`.
--
--   Walking row num kind t n r e rows parts s    the state of a loop over n totals, after e of them
--   WalkingTwo, WalkingThree                     so by the lists that the loops are handed
--   Walked row num kind t n r s rows             after all n totals a loop answers s and leaves rows
--   WalkedTwo, WalkedThree                       so by the lists that the loops are handed
use Rattle.std.specs.Prelude.{◌≡◌, List, ℕ, ◌<◌, ◌≤◌, ℤ, length, get_or}
use Rattle.algebra.specs.Sorted.{sum_at, sorted}
use Rattle.algebra.specs.Sum.{Σ}
use Rattle.contrasts.specs.Columns.{read}
use Rattle.contrasts.specs.Totals.{Column}
use Rattle.rows.specs.Kinds.{Kind}
use Rattle.walks.specs.declared.types.Sums.{Sums}
use Rattle.walks.specs.After.{sums_by}
use Rattle.walks.specs.State.{code_at, sum_in, square_at, numerator_by}

pub record Walking (row num kind : ℕ → ℕ) (t : Column) (n r e : ℕ) (rows parts : List ℕ) (s : ℤ) : Type 0 where
  pub upto : e ≤ n
  pub rows-hold : rows ≡ sorted r row num e
  pub places : length parts ≡ 16
  pub numerators-hold : (c : ℕ) → c < 4 → sum_in parts 0 c ≡ sum_at kind num e c
  pub degrees-hold : (c : ℕ) → c < 4 → sum_in parts 1 c ≡ sum_at kind (λ i. 1) e c
  pub totals-hold : s ≡ Σ e t

-- an effect has a row of its own, with its number, and all weights are 1
abbrev pub WalkingTwo : List ℤ → List Kind → ℕ → ℕ → List ℕ → List ℕ → ℤ → Type 0
WalkingTwo ts kinds r e rows parts s = Walking (λ i. i) (square_at ts) (λ i. code_at kinds i) (read ts) (length ts) r e rows parts s

abbrev pub WalkingThree : List ℤ → List ℕ → List ℕ → List Kind → ℕ → ℕ → List ℕ → List ℕ → ℤ → Type 0
WalkingThree ts effects weights kinds r e rows parts s =
    Walking (λ i. get_or effects i 0) (numerator_by ts weights) (λ i. code_at kinds (get_or effects i 0)) (read ts) (length ts) r e rows parts s

pub record Walked (row num kind : ℕ → ℕ) (t : Column) (n r : ℕ) (s : Sums) (rows : List ℕ) : Type 0 where
  pub sums-are : s ≡ sums_by kind num t n
  pub rows_are : rows ≡ sorted r row num n

abbrev pub WalkedTwo : List ℤ → List Kind → ℕ → Sums → List ℕ → Type 0
WalkedTwo ts kinds r s rows = Walked (λ i. i) (square_at ts) (λ i. code_at kinds i) (read ts) (length ts) r s rows

abbrev pub WalkedThree : List ℤ → List ℕ → List ℕ → List Kind → ℕ → Sums → List ℕ → Type 0
WalkedThree ts effects weights kinds r s rows =
    Walked (λ i. get_or effects i 0) (numerator_by ts weights) (λ i. code_at kinds (get_or effects i 0)) (read ts) (length ts) r s rows
