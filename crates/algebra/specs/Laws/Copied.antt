-- A loop that copies a list to another of the same length.
--
--   Copying z xs old i ys                      the first i entries are copied; z is what a read past the end of a list gives
--   copying-none, copying-more, copying-all    before the first, after one more, after the last
--   copying-long                               the length
use Rattle.std.specs.Prelude.{◌≡◌, refl, List, ℕ, ◌+◌, ◌<◌, ◌≤◌, length, get_or, set}
use Rattle.std.proofs.Common.{sym, ◌∙◌}
use Rattle.algebra.specs.Laws.Fill.{Filled, filled_none, filled-long, filled_more, filled-all}
use Rattle.algebra.specs.Laws.Tab.{is-tab}

module _ {A : Type 0} where
  pub record Copying (z : A) (xs old : List A) (i : ℕ) (ys : List A) : Type 0 where
    pub so : Filled (length xs) (λ j. get_or xs j z) (λ j. get_or old j z) i ys

  pub copying-none : (z : A) (xs old : List A) → length xs ≡ length old → Copying z xs old 0 old
  copying-none z xs old e = record { so = filled_none z (length xs) (λ j. get_or xs j z) (λ j. get_or old j z) old (sym e) (λ j h. refl) }

  module _ {z : A} {xs old : List A} {i : ℕ} {ys : List A} (w : Copying z xs old i ys) where
    pub copying-long : length ys ≡ length xs
    copying-long = filled-long z w.so

    pub copying-more : i < length xs → {v : A} → v ≡ get_or xs i z → Copying z xs old (i + 1) (set ys i v)
    copying-more h e = record { so = filled_more z w.so h e }

    pub copying-all : length xs ≤ i → ys ≡ xs
    copying-all h = filled-all z w.so h ∙ sym (is-tab z xs (length xs) (λ j. get_or xs j z) refl (λ j k. refl))
