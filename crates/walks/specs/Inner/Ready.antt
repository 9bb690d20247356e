-- What the inner functions ask of what they are handed.
--
--   Weighable t w                      a numerator fits
--   Addable place n parts              a numerator can be added at a place of the parts, and a degree at the next
--   Joinable place parts               both parts of a sum can be added
--   Gatherable parts                   so of all sums
--   BringsTwo, BringsThree             what an effect brings fits, at two levels and at three
--   Walkable row num kind t n r        the walk stays within r rows and four kinds, and its sums fit
--   WalkableTwo, WalkableThree         so by the lists that the loops are handed
use Rattle.std.specs.Prelude.{◌≡◌, List, ℕ, ◌+◌, ◌*◌, ◌^◌, ◌<◌, ◌≤◌, ℤ, nat_abs, length, get_or}
use Rattle.algebra.specs.Naturals.{Σℕ}
use Rattle.contrasts.specs.Columns.{read}
use Rattle.contrasts.specs.Totals.{Column}
use Rattle.rows.specs.Kinds.{Kind, code_of}
use Rattle.walks.specs.State.{code_at, numerator_by, place_of, square_at, sum_in, two_parts, zeros}

pub record Weighable (t : ℤ) (w : ℕ) : Type 0 where
  pub square-fits : nat_abs t * nat_abs t < 2 ^ 63
  pub product-fits : nat_abs t * nat_abs t * w < 2 ^ 63

pub record Addable (place n : ℕ) (parts : List ℕ) : Type 0 where
  pub inside : place + 1 < length parts
  pub numerator-fits : get_or parts place 0 + n < 2 ^ 63
  pub degree-fits : get_or parts (place + 1) 0 + 1 < 2 ^ 63

pub record Joinable (place : ℕ) (parts : List ℕ) : Type 0 where
  pub inside : place + 2 < length parts
  pub both-fit : two_parts parts place < 2 ^ 63

pub record Gatherable (parts : List ℕ) : Type 0 where
  pub places : length parts ≡ 16
  pub sums-fit : (i c : ℕ) → i < 2 → c < 4 → sum_in parts i c < 2 ^ 63

pub record BringsTwo (e : ℕ) (t : ℤ) (kind : Kind) (half : ℕ) (rows parts : List ℕ) : Type 0 where
  pub row-there : e < length rows
  pub squarable : nat_abs t * nat_abs t < 2 ^ 63
  pub one-half : half < 2
  pub addable : Addable (place_of (code_of kind) half) (nat_abs t * nat_abs t) parts

pub record BringsThree (row : ℕ) (t : ℤ) (w : ℕ) (kind : Kind) (half : ℕ) (rows parts : List ℕ) : Type 0 where
  pub row-there : row < length rows
  pub one-half : half < 2
  pub weighable : Weighable t w
  pub row_fits : get_or rows row 0 + nat_abs t * nat_abs t * w < 2 ^ 63
  pub addable : Addable (place_of (code_of kind) half) (nat_abs t * nat_abs t * w) parts

pub record Walkable (row num kind : ℕ → ℕ) (t : Column) (n r : ℕ) : Type 0 where
  pub few : n < 2 ^ 63
  pub row-there : (e : ℕ) → e < n → row e < r
  pub four-kinds : (e : ℕ) → e < n → kind e < 4
  pub squares : (e : ℕ) → e < n → nat_abs (t e) * nat_abs (t e) ≤ num e
  -- the sum of all numerators, which is the bound of every sum of some of them
  pub sum_fits : Σℕ n num < 2 ^ 63

pub record WalkableTwo (ts : List ℤ) (kinds : List Kind) (rows : List ℕ) : Type 0 where
  pub pairs : ℕ
  pub in_pairs : length ts ≡ 2 * pairs
  pub kinds-long : length ts ≤ length kinds
  pub cleared : rows ≡ zeros (length rows)
  pub walkable : Walkable (λ i. i) (square_at ts) (λ i. code_at kinds i) (read ts) (length ts) (length rows)

pub record WalkableThree (ts : List ℤ) (effects weights : List ℕ) (kinds : List Kind) (rows : List ℕ) : Type 0 where
  pub effects-long : length ts ≤ length effects
  pub weights-long : length ts ≤ length weights
  pub kinds-long : length rows ≤ length kinds
  pub cleared : rows ≡ zeros (length rows)
  pub walkable : Walkable (λ i. get_or effects i 0) (numerator_by ts weights) (λ i. code_at kinds (get_or effects i 0)) (read ts) (length ts) (length rows)
