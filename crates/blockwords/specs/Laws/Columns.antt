-- The lists of a column, one after the other.
--
--   list-fits       the places of list i are in the column
--   list-words      list i, as a part of the column
--   list-ready      its words are block words
--   column-ready    a column that the blocking call has written
use Rattle.std.specs.Prelude.{Result, Ok, ◌≡◌, List, [], ◌++◌, ℕ, ◌+◌, ◌*◌, ◌-◌, ◌<◌, ◌≤◌, ltb, length, take, get_or}
use Rattle.std.proofs.Math.Path.{refl, sym, ap}
use Rattle.std.proofs.Common.{◌∙◌, suc-mul, mul-le-mul_right, arith, length-take, take-append-drop}
use borrow.Author.Tests.{ltb-false}
use Rattle.std.proofs.Math.ListN.{drop}
use Rattle.std.proofs.Math.Seq.{take_at}
use Rattle.algebra.specs.Laws.Among.{in-at}
use Rattle.algebra.specs.Laws.Joined.{flat-part}
use Rattle.algebra.specs.Laws.Tests.{neither}
use Rattle.plan.specs.declared.refusals.Refusal.{Refusal}
use Rattle.plan.specs.Outcome.{outcome}
use Rattle.plan.proofs.Laws.Answers.{passed, given_is, written_new}
use Rattle.blockings.specs.Blockings.{blockings_of, blocking_words, bad_factor_count, blockings_refused, blockings_column, blockings_outcome}
use Rattle.blockings.proofs.Laws.Members.{only, wide, word-count}
use Rattle.blockwords.specs.Inner.Ready.{Blocked, ListsIn}

-- ---- the column

module _ {k b n : ℕ} {column : List ℕ} (c : ListsIn k b n column) where
  places : n * b ≤ length column
  places =
      omega (
        arith,
        ap length c.begins,
        length-take (length (blocking_words k b)) column,
        word-count k b,
        ap (λ m. m * b) c.all,
      )

  module _ (i : ℕ) (h : i < n) where
    pub list-fits : i * b + b ≤ length column
    list-fits = omega (arith, places, suc-mul i b, mul-le-mul_right b h)

    its-words : take b (drop (i * b) column) ≡ get_or (blockings_of k b) i []
    its-words =
        let rest = drop (length (blocking_words k b)) column in
        let parts : column ≡ blocking_words k b ++ rest =
        sym (take-append-drop (length (blocking_words k b)) column) ∙ ap (λ l. l ++ rest) c.begins in
        ap (λ l. take b (drop (i * b) l)) parts ∙ flat-part b (blockings_of k b) (wide k b) rest i (omega (arith, c.all))

    pub list-words : take (i * b + b - i * b) (drop (i * b) column) ≡ get_or (blockings_of k b) i []
    list-words = let width : i * b + b - i * b ≡ b = omega arith in rw width its-words

    pub list-ready : Blocked k (take (i * b + b - i * b) (drop (i * b) column))
    list-ready =
        let width : i * b + b - i * b ≡ b = omega arith in
        let there = in-at [] (blockings_of k b) i (omega (arith, c.all)) in
        rw (width, its-words) (record { small = c.small; accepted = (only k b there).3 })

-- ---- what the blocking call leaves

module _ (k b : ℕ) (old : List ℕ) {answer : Result ℕ Refusal}
    (told : blockings_outcome answer ≡ outcome (blockings_refused k b (length old)) (length (blockings_of k b))) {n : ℕ} (is : answer ≡ Ok n) where
  done : (blockings_refused k b (length old) ≡ 0) × (n ≡ length (blockings_of k b))
  done = given_is (blockings_refused k b (length old)) (length (blockings_of k b)) (ap blockings_outcome (sym is) ∙ told)

  few-factors : k ≤ 5
  unfolding blockings_refused bad_factor_count
  few-factors = ltb-false 5 k (neither (ltb k 2) (ltb 5 k) (passed (bad_factor_count k) 3 _ (omega arith) done.0).0).1

  pub column-ready : {column : List ℕ} → column ≡ blockings_column k b old → ListsIn k b n column
  unfolding blockings_column
  column-ready left =
      let ws = blocking_words k b in
      let rest = drop (length ws) old in
      let made = left ∙ sym (written_new (blockings_refused k b (length old)) (ws ++ rest) old done.0) in
      record { small = few-factors; all = done.1; begins = ap (take (length ws)) made ∙ take_at ws rest (length ws) refl }
