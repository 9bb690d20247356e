-- What the block amount asks of what it is handed.
--
--   Blockable k word sums    run sums of k three-level factors, within a limit that leaves room, and a word that uses a letter
--   added sums b v           block sums with a value added to that of block b
--   set_added sums b d x y z  with those of three runs that differ in the level of A alone, the first of them in block b
--   Addable sums b v         block sums to one of which a value can be added
--   SetAddable sums b d x y z    to which these can be added
--   BlockSized z             a number as large as a block sum can be: one of readings that are not too many or too large
use Rattle.std.specs.Prelude.{◌≡◌, List, ℕ, ◌+◌, ◌*◌, ◌%◌, ◌^◌, ◌<◌, ◌≤◌, ℤ, pos, nat_abs, ◌+ℤ◌, length, get_or, set, replicate}
use Rattle.contrasts.specs.Columns.{AllWithin}
use Rattle.contrasts.proofs.Factors.{three}
use Rattle.contrasts.specs.Rows.{row_of}

pub record Blockable (k word : ℕ) (sums : List ℤ) : Type 0 where
  pub few : k ≤ 6
  pub uses : row_of (replicate k three) word ≡ 0 → ⊥
  pub whole : length sums ≡ 3 ^ k
  pub limit : ℕ
  -- 1,024 readings within 100,000
  pub roomy : 3 ^ k * limit ≤ 102_400_000
  pub within : AllWithin limit sums

abbrev pub added : List ℤ → ℕ → ℤ → List ℤ
added sums b v = set sums b (get_or sums b (pos 0) +ℤ v)

-- by the word's digit d for A each next run's block is d more, modulo 3
abbrev pub set_added : List ℤ → ℕ → ℕ → ℤ → ℤ → ℤ → List ℤ
set_added sums b d x y z = added (added (added sums b x) ((b + d) % 3) y) (((b + d) % 3 + d) % 3) z

pub record Addable (sums : List ℤ) (b : ℕ) (v : ℤ) : Type 0 where
  pub three : length sums ≡ 3
  pub there : b < 3
  pub limit : ℕ
  pub sums-few : (j : ℕ) → nat_abs (get_or sums j (pos 0)) ≤ limit
  pub value-few : nat_abs v ≤ limit
  pub limit-fits : limit ≤ 2 ^ 61

pub record SetAddable (sums : List ℤ) (b d : ℕ) (x y z : ℤ) : Type 0 where
  pub three : length sums ≡ 3
  pub block : b < 3
  pub digit : d < 3
  pub sums-few : (j : ℕ) → nat_abs (get_or sums j (pos 0)) ≤ 102_400_000
  pub first : nat_abs x ≤ 102_400_000
  pub middle : nat_abs y ≤ 102_400_000
  pub third : nat_abs z ≤ 102_400_000

pub record BlockSized (z : ℤ) : Type 0 where
  pub small : nat_abs z ≤ 102_400_000
