-- What the inner functions ask of what they are handed.
--
--   RunSquares r s readings column          readings of runs made r times, the sum s of their squares, and a column for the run sums
--   Sets n xs                               n sets of three that a round turns
--   Rounds k xs                             the run sums of k three-level factors, within a limit that leaves room for the rounds
--   Checkable levels k r readings column    readings within a limit that leaves room for the check, and a column for its rounds
--   Joinable line n r m                     a line that the numerator m of the squares about the means of n runs, made r times, can join
--   Figurable d n r s w sums                numbers of which figures can be made: none of theirs is too large
--   Amountable k word r readings column     readings of k three-level factors and a word that uses a letter, and a column for the run sums
--   Leavable line own m                     a line that the block amount m can leave, where it is of a row of its own
--   Enterable line m                        a line that it can enter
--   Movable f marked m                      figures in which it can be moved, from a row that is marked as error or not
use Rattle.std.specs.Prelude.{◌≡◌, Bool, true, not, List, ℕ, ◌+◌, ◌-◌, ◌*◌, ◌^◌, ◌<◌, ◌≤◌, ℤ, length, replicate}
use Rattle.contrasts.specs.Columns.{AllWithin, run_sums_in, squares_of}
use Rattle.contrasts.specs.Limits.{value_limit}
use Rattle.contrasts.proofs.Factors.{three, of_levels}
use Rattle.contrasts.specs.Rows.{row_of}
use Rattle.rows.specs.Kinds.{error_row}
use Rattle.walks.specs.declared.types.Sums.{Sums}
use Rattle.anova.specs.declared.types.Figures.{Figures}
use Rattle.anova.specs.declared.types.Source.{Source}
use Rattle.anova.specs.Inner.Figures.{line_in}

pub record RunSquares (r s : ℕ) (readings column : List ℤ) : Type 0 where
  pub few : r ≤ 8
  pub whole : length readings ≡ length column * r
  pub squares : s ≡ squares_of readings
  pub all_fit : r * s < 2 ^ 63
  -- so those about the means are never negative
  pub sums-least : squares_of (run_sums_in (length column) r readings) ≤ r * s

pub record Sets (n : ℕ) (xs : List ℤ) : Type 0 where
  pub whole : 3 * n ≤ length xs
  pub within : AllWithin value_limit xs

pub record Rounds (k : ℕ) (xs : List ℤ) : Type 0 where
  pub limit : ℕ
  -- a round makes a number no more than 5 times as large; the last one's may be larger than a value
  pub roomy : 5 ^ (k - 1) * limit ≤ value_limit
  pub whole : length xs ≡ 3 ^ k
  pub within : AllWithin limit xs

pub record Checkable (levels k r : ℕ) (readings column : List ℤ) : Type 0 where
  pub kind : (of_levels levels).levels ≡ levels
  pub limit : ℕ
  pub limit-fits : limit < 2 ^ 31
  pub rounds-roomy : (levels ≡ 2 → ⊥) → 5 ^ (k - 1) * (r * limit) ≤ value_limit
  pub some : 0 < r
  pub few : r ≤ 8
  pub column-few : length column ≤ 1024
  pub column-whole : length column ≡ levels ^ k
  pub whole : length readings ≡ length column * r
  pub within : AllWithin limit readings

pub record Joinable (line : Source) (n r m : ℕ) : Type 0 where
  pub some : 0 < r
  pub few : r ≤ 8
  pub runs-few : n ≤ 1024
  pub degrees-fit : line.degrees < 2 ^ 63
  pub numerator-fits : line.numerator + m < 2 ^ 63

pub record Figurable (d n r s w : ℕ) (sums : Sums) : Type 0 where
  pub over-fits : d * r < 2 ^ 63
  pub total-fits : d * r * s < 2 ^ 63
  pub within-fits : d * w < 2 ^ 63
  pub readings-few : n * r ≤ 1024
  pub joinable : Joinable (line_in sums error_row) n r (d * w)

pub record Amountable (k word r : ℕ) (readings column : List ℤ) : Type 0 where
  pub factors-few : k ≤ 6
  pub uses : row_of (replicate k three) word ≡ 0 → ⊥
  pub few : r ≤ 8
  pub column-whole : length column ≡ 3 ^ k
  pub whole : length readings ≡ length column * r
  pub limit : ℕ
  pub roomy : 3 ^ k * (r * limit) ≤ 102_400_000
  pub within : AllWithin limit readings

pub record Leavable (line : Source) (own : Bool) (m : ℕ) : Type 0 where
  pub degrees-enough : own ≡ true → 2 ≤ line.degrees
  pub numerator-enough : own ≡ true → m ≤ line.numerator

pub record Enterable (line : Source) (m : ℕ) : Type 0 where
  pub degrees-fit : line.degrees < 2 ^ 63
  pub numerator-fits : line.numerator < 2 ^ 63
  pub amount-fits : m < 2 ^ 63

pub record Movable (f : Figures) (marked : Bool) (m : ℕ) : Type 0 where
  pub from-kept : Leavable f.kept (not marked) m
  pub from-error : Leavable f.error marked m
  pub to-blocks : Enterable f.blocks m
