-- The lists as the code makes, tests and writes them.
--
--   short, fits        a product of small numbers
--   lists-few          there are few lists
--   word_small         a word of at most five letters fits 16 bits
--   falls, rises       what the comparison of neighbours finds
--   accepted-by        the plan check of a plan that has the words in its first places
--   blocking-by, not-blocking    a list whose words rise blocks a plan where that check accepts it, and no other list does
--   the-list           the list with the number i, in the first places of four
--   placed_by          and in the column from a place on
--   counted-lists, room_for, written-lists    what the loops over all numbers leave, and need, in terms of the lists
use mathlib.Core.Path.{◌≡◌, refl, sym, ap, ◌∙◌}
use mathlib.Core.Bool.{Bool, true, false, not}
use mathlib.Core.List.{List, ◌++◌, flatten}
use Prim.Native.Nat.{ℕ, ◌+◌, ◌-◌, ◌*◌, ◌%◌, ◌^◌, ◌<◌, ◌≤◌}
use native.Mathlib.Nat.{mul-le-mul, mod-lt, lt_of_lt_of_le}
use native.Mathlib.Omega.{arith}
use mir.Syntax.{w64}
use mir.Val.{Fits}
use lib.Dec.{eqb, leb}
use lib.ListN.{length, get_or, take, drop, replicate}
use lib.Pow.{pow_mono, pow_pos}
use lib.Seq.{take_at, drop-drop, length-take-le, take-append_seam}
use Rattle.algebra.specs.Tab.{tab}
use Rattle.algebra.specs.Those.{those}
use Rattle.algebra.specs.Laws.Tab.{length-tab}
use Rattle.algebra.proofs.Laws.Parts.{length_part}
use Rattle.algebra.specs.Laws.Searching.{Unfound, found, nowhere}
use Rattle.algebra.specs.Laws.Collected.{placed, Room}
use Rattle.plan.specs.Check.{plan_refused}
use Rattle.plan.proofs.Laws.Alike.{same-refused}
use Rattle.blockings.specs.Blockings.{strictly_rising, blocked_plan, is_blocking, blockings_of, blocking_words}
use Rattle.blockings.specs.Inner.Numbered.{word_at, words_at}
use Rattle.blockings.proofs.Laws.Numbered.{blockings-tab}

pub short : (a b : ℕ) → a ≤ 5 → b ≤ 3 → a * b < 64
short a b h l = omega (arith, mul-le-mul h l)

pub lists-few : (k b : ℕ) → k ≤ 5 → b ≤ 3 → 2 ^ (k * b) ≤ 32768
lists-few k b h l = pow_mono {j = 15} (mul-le-mul h l)

pub fits : (a b : ℕ) → a ≤ 32768 → b ≤ 255 → Fits w64 (a * b)
fits a b h l = record { fits = omega (arith, mul-le-mul h l) }

pub word_small : (k n : ℕ) → k ≤ 5 → n % 2 ^ k < 65536
word_small k n h = lt_of_lt_of_le (mod-lt n (pow_pos k)) (omega (arith, pow_mono h))

module _ (words : List ℕ) {j : ℕ} (w : Unfound (λ i. leb (get_or words (i + 1) 0) (get_or words i 0)) (length words - 1) j) where
  pub falls : j + 1 < length words → leb (get_or words (j + 1) 0) (get_or words j 0) ≡ true → false ≡ strictly_rising words
  unfolding strictly_rising
  falls h e = ap not (found w (omega arith) e)

  pub rises : length words ≤ j + 1 → true ≡ strictly_rising words
  unfolding strictly_rising
  rises h = ap not (nowhere w (omega arith))

module _ (k b : ℕ) (list : List ℕ) (short : b ≤ length list) where
  pub accepted-by : (words signs : List ℕ) {n : ℕ}
      → n ≡ plan_refused (record { levels = 2; k = k; added = 0; words = words; signs = signs; blocks = b; blockwords = list; repeats = 1 })
      → eqb n 0 ≡ eqb (plan_refused (blocked_plan k (take b list))) 0
  accepted-by words signs e = ap (λ (m : ℕ). eqb m 0) (e ∙ same-refused (record {
    levels = refl;
    k = refl;
    added = refl;
    words = refl;
    signs = refl;
    blocks = sym (length-take-le b list short);
    blockwords = sym (take-append_seam (take b list) (replicate (4 - length (take b list)) 0));
    numbers = refl;
    repeats = refl;
  }))

module _ (k : ℕ) (ws : List ℕ) where
  pub blocking-by : {a : Bool} → strictly_rising ws ≡ true → a ≡ eqb (plan_refused (blocked_plan k ws)) 0 → a ≡ is_blocking k ws
  unfolding is_blocking
  blocking-by r e = rw r e

  pub not-blocking : strictly_rising ws ≡ false → false ≡ is_blocking k ws
  unfolding is_blocking
  not-blocking r = rw r refl

module _ (k b i : ℕ) (old : List ℕ) (short : b ≤ length old) where
  pub the-list : {zs : List ℕ} → zs ≡ words_at k (length (take b old)) i → take b (zs ++ drop b old) ≡ words_at k b i
  the-list e = rw (e, length-take-le b old short) (take_at (words_at k b i) (drop b old) b (length-tab b (word_at k b i)))

pub placed_by : (k b i at : ℕ) (old : List ℕ) → at + b ≤ length old
    → {zs : List ℕ} → zs ≡ words_at k (length (take (at + b - at) (drop at old))) i
    → take at old ++ (zs ++ drop (at + b - at) (drop at old)) ≡ placed at (words_at k b i) old
placed_by k b i at old h e =
    let width : at + b - at ≡ b = omega arith in
    let long : length (take b (drop at old)) ≡ b = length_part b at old h in
    rw (e, width, long, length-tab b (word_at k b i), drop-drop) refl

module _ (k b : ℕ) {all : ℕ} (a : all ≡ 2 ^ (k * b)) where
  as-numbered : those (is_blocking k) (tab all (words_at k b)) ≡ blockings_of k b
  as-numbered = rw (a, ← (blockings-tab k b)) refl

  pub counted-lists : {n : ℕ} → n ≡ length (those (is_blocking k) (tab all (words_at k b))) → n ≡ length (blockings_of k b)
  counted-lists e = rw (← as-numbered) e

  module _ (old : List ℕ) where
    pub room_for : length (blocking_words k b) ≤ length old → Room b (is_blocking k) (words_at k b) all old
    room_for h = record { wide = λ i. length-tab b (word_at k b i); fits = rw as-numbered h }

    pub written-lists : {ys : List ℕ}
        → ys ≡ flatten (those (is_blocking k) (tab all (words_at k b))) ++ drop (length (flatten (those (is_blocking k) (tab all (words_at k b))))) old
        → ys ≡ blocking_words k b ++ drop (length (blocking_words k b)) old
    written-lists e = rw (← as-numbered) e
