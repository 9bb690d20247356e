-- Which runs share a block, and what confounding means.
--
--   block-bit                     a block number's bits
--   same-parities, same_block     runs share a block exactly when they agree in the parity of every block word
--   constant                      an effect that is confounded is odd in all runs of a block, or in none
--   only-combined                 an effect of which this holds in every block is the mean or confounded
--   no-block-words                without block words every run is in block 0
use Rattle.std.specs.Prelude.{◌≡◌, refl, ◌⊎◌, true, false, List, [], ℕ, zero, suc, ◌*◌, ◌%◌, ◌^◌, ◌<◌, ◌≤◌, eqb, length, get_or}
use Rattle.std.proofs.Common.{sym, ap, ◌∙◌, inl, inr, zero-lt-suc, arith, pow_pos, eqb-true, eq-eqb}
use Rattle.algebra.specs.Naturals.{Σℕ}
use Rattle.algebra.specs.Laws.Naturals.{Σℕ-parity}
use Rattle.algebra.specs.Bits.{bits}
use Rattle.algebra.specs.Laws.Bits.{bit-lt, bits_at, bits-cong}
use Rattle.words.specs.Words.{letter, has, shared, odd_in, beyond, combined}
use Rattle.words.specs.Laws.Letters.{odd-same, shared-none}
use Rattle.words.specs.Laws.Combined.{keeps-odd, shared-combined}
use Rattle.words.specs.Laws.Parity.{none-odd}
use Rattle.words.specs.Laws.Even.{combined-none, even-combined}
use Rattle.plan.specs.Plan.{some_combination, combines_to}
use Rattle.plan.proofs.Laws.Combinations.{combination as chosen, the-combination}
use Rattle.runs.specs.Run.{block_number}

module _ (ws : List ℕ) where
  pub block-bit : (r j : ℕ) → j < length ws → has (block_number ws r) j ≡ odd_in r (get_or ws j 0)
  unfolding block_number
  block-bit r j h = bits_at (length ws) (λ i. odd_in r (get_or ws i 0)) j h

  pub same-parities : (r s : ℕ) → block_number ws r ≡ block_number ws s
      → (j : ℕ) → j < length ws → odd_in r (get_or ws j 0) ≡ odd_in s (get_or ws j 0)
  same-parities r s e j h = sym (block-bit r j h) ∙ ap (λ (b : ℕ). has b j) e ∙ block-bit s j h

  pub same_block : (r s : ℕ) → ((j : ℕ) → j < length ws → odd_in r (get_or ws j 0) ≡ odd_in s (get_or ws j 0))
      → block_number ws r ≡ block_number ws s
  unfolding block_number
  same_block r s h = bits-cong (length ws) h

pub no-block-words : (r : ℕ) → block_number [] r ≡ 0
unfolding block_number bits Σℕ
no-block-words r = refl

parity : (ws : List ℕ) (r s : ℕ) → block_number ws r ≡ block_number ws s
    → (j : ℕ) → j < length ws → shared r (get_or ws j 0) % 2 ≡ shared s (get_or ws j 0) % 2
unfolding odd_in
parity ws r s e j h = odd-same (shared r (get_or ws j 0)) (shared s (get_or ws j 0)) (same-parities ws r s e j h)

-- how many letters two runs of one block share with a combination of its block words, up to an even number
combination : (ws : List ℕ) (r s c : ℕ) → block_number ws r ≡ block_number ws s
    → shared r (combined 0 c ws) % 2 ≡ shared s (combined 0 c ws) % 2
combination ws r s c e =
    let f : ℕ → ℕ → ℕ = λ q j. letter c j * shared q (get_or ws j 0) in
    let t : Σℕ (length ws) (f r) % 2 ≡ Σℕ (length ws) (f s) % 2 = Σℕ-parity (length ws) (f r) (f s) alike in
    rw (shared-combined r 0 c ws, shared-combined s 0 c ws, shared-none r, shared-none s) (omega (arith, t))
  where
    alike : (j : ℕ) → j < length ws → (letter c j * shared r (get_or ws j 0)) % 2 ≡ (letter c j * shared s (get_or ws j 0)) % 2
    alike j h =
        sym (keeps-odd (letter c j) (shared r (get_or ws j 0)) (bit-lt c j))
        ∙ ap (λ (m : ℕ). (letter c j * m) % 2) (parity ws r s e j h)
        ∙ keeps-odd (letter c j) (shared s (get_or ws j 0)) (bit-lt c j)

pub constant : (ws : List ℕ) (w r s : ℕ) → combines_to w ws ≡ true → block_number ws r ≡ block_number ws s → odd_in r w ≡ odd_in s w
unfolding combines_to odd_in
constant ws w r s t e =
    let c = the-combination ws (λ v. eqb v w) t in
    rw (← (eqb-true (combined 0 c.0 ws) w c.3))
    (ap (λ (m : ℕ). eqb m 1) (combination ws r s c.0 e))

-- the runs of run 0's block are those in which all block words are even, and so is the effect
pub only-combined : (k : ℕ) (ws : List ℕ) → k ≤ 16 → ((j : ℕ) → j < length ws → beyond k (get_or ws j 0) ≡ false) → (w : ℕ) → w < 2 ^ k
    → ((r s : ℕ) → r < 2 ^ k → s < 2 ^ k → block_number ws r ≡ block_number ws s → odd_in r w ≡ odd_in s w) → (w ≡ 0) ⊎ (combines_to w ws ≡ true)
unfolding combines_to
only-combined k ws few within w small h =
    let c = even-combined k few ws within w small (λ r l v. h r 0 l (pow_pos k) (same_block ws r 0 (λ j g. v j g ∙ sym (none-odd (get_or ws j 0)))) ∙ none-odd w) in
    by c.0 c.1 c.2
  where
    by : (c : ℕ) → c < 2 ^ length ws → combined 0 c ws ≡ w → (w ≡ 0) ⊎ (some_combination ws (λ v. eqb v w) ≡ true)
    by zero l e = inl (sym e ∙ combined-none ws)
    by (suc c) l e = inr (chosen ws (λ v. eqb v w) (suc c) (zero-lt-suc c) l (eq-eqb (combined 0 (suc c) ws) w e))
