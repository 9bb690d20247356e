-- What is refused of the call, as the code judges it.
--
--   in-range           where neither 3 nor 17 applies, k and the count of words are in their ranges
--   by-factors, by_count, by-room, nothing    the number, refusal by refusal
--   admitted           what holds where there is no number
--   answered           the answer there, and the column
use mathlib.Core.Path.{◌≡◌, refl}
use mathlib.Core.Bool.{true, false}
use mathlib.Core.List.{List, ◌++◌}
use Prim.Native.Nat.{ℕ, ◌*◌, ◌<◌, ◌≤◌}
use native.Mathlib.Omega.{arith}
use borrow.Author.Tests.{lt-ltb, le-ltb, ltb-false}
use lib.Dec.{ltb}
use lib.ListN.{length, drop}
use Rattle.algebra.specs.Laws.Tests.{neither}
use Rattle.plan.specs.Outcome.{given, outcome}
use Rattle.plan.proofs.Laws.Answers.{passed, completed}
use Rattle.blockings.specs.Blockings.{blockings_of, blocking_words, bad_factor_count, bad_word_count, blockings_refused, blockings_column}
use Rattle.blockings.specs.Inner.Ready.{InRange}
use Rattle.blockings.proofs.Laws.Members.{word-count}

module _ (k b : ℕ) where
  pub in-range : bad_factor_count k ≡ false → bad_word_count b ≡ false → InRange k b
  unfolding bad_factor_count bad_word_count
  in-range e f =
      let x = neither (ltb k 2) (ltb 5 k) e in
      let y = neither (ltb b 1) (ltb 3 b) f in
      record { factors = (ltb-false k 2 x.0, ltb-false 5 k x.1); words = (ltb-false b 1 y.0, ltb-false 3 b y.1) }

  module _ (room : ℕ) where
    pub by-factors : bad_factor_count k ≡ true → 3 ≡ blockings_refused k b room
    unfolding blockings_refused
    by-factors e = rw e refl

    module _ (fine : bad_factor_count k ≡ false) where
      pub by_count : bad_word_count b ≡ true → 17 ≡ blockings_refused k b room
      unfolding blockings_refused
      by_count e = rw (fine, e) refl

      module _ (few : bad_word_count b ≡ false) {n : ℕ} (all : n ≡ length (blockings_of k b)) where
        words : n * b ≡ length (blocking_words k b)
        words = rw (all, word-count k b) refl

        pub by-room : room < n * b → 18 ≡ blockings_refused k b room
        unfolding blockings_refused
        by-room h = rw (fine, few, ← words, lt-ltb room (n * b) h) refl

        pub nothing : n * b ≤ room → 0 ≡ blockings_refused k b room
        unfolding blockings_refused
        nothing h = rw (fine, few, ← words, le-ltb room (n * b) h) refl

    pub admitted : blockings_refused k b room ≡ 0 → InRange k b × (length (blocking_words k b) ≤ room)
    unfolding blockings_refused
    admitted e =
        let x = passed (bad_factor_count k) 3 _ (omega arith) e in
        let y = passed (bad_word_count b) 17 _ (omega arith) x.1 in
        let z = passed (ltb room (length (blocking_words k b))) 18 _ (omega arith) y.1 in
        (in-range x.0 y.0, ltb-false room (length (blocking_words k b)) z.0)

pub answered : (k b : ℕ) (old : List ℕ) → blockings_refused k b (length old) ≡ 0
    → {n : ℕ} → n ≡ length (blockings_of k b) → {new : List ℕ} → new ≡ blocking_words k b ++ drop (length (blocking_words k b)) old
    → (given n ≡ outcome (blockings_refused k b (length old)) (length (blockings_of k b))) × (new ≡ blockings_column k b old)
unfolding blockings_column
answered k b old z e f = rw e (completed (length (blockings_of k b)) (blocking_words k b ++ drop (length (blocking_words k b)) old) old z f)
