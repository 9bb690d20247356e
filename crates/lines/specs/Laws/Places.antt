-- Lines from their parts, by a buffer and a place, for programs that keep these two themselves. `Lines` has the same laws of texts as values.
--
--   next-value                                       a value after a space
--   mean-label, letters-label                        the label of a row
--   error-text, blocks-text, no_text                 what a row is marked as, by the number of its kind
--   named-made, source-made, check-made, row_made    the lines
use Rattle.std.specs.Prelude.{◌≡◌, Bool, true, false, cond, List, [], ◌∷◌, ◌++◌, ℕ, eqb, ℤ}
use Rattle.std.proofs.Common.{eq-eqb, ne_eqb, SFits}
use Rattle.std.specs.Int.{w64}
use Rattle.algebra.specs.Laws.Machine.{wrap}
use Rattle.text.specs.Text.{ascii, Wrote}
use Rattle.text.specs.Spelled.{letters_of, decimal, signed}
use Rattle.text.specs.Laws.Places.{as_writes, nothing}
use Rattle.rows.specs.Kinds.{Kind, mean_row, kept_row, kind_in}
use Rattle.lines.specs.Lines.{space, newline, label_of, row_line, named_line, source_line, check_line}
use Rattle.lines.specs.Inner.Written.{kind_text}
use Rattle.lines.specs.Laws.Lines as lines

-- ---- fields

module _ {a b c : List ℕ} {at next last : ℕ} where
  pub next-value : {z : ℤ} → SFits w64 z → Wrote a at (space ∷ []) b next → Wrote b next (signed (wrap z)) c last → Wrote a at (space ∷ signed z) c last
  next-value f s w = (lines.next-value f (as_writes s) (as_writes w)).wrote

module _ {a b : List ℕ} {at next : ℕ} where
  module _ (w : ℕ) where
    pub mean-label : w ≡ 0 → Wrote a at (ascii "mean") b next → Wrote a at (label_of w) b next
    unfolding label_of
    mean-label e f = rw (eq-eqb w 0 e) f

    pub letters-label : (w ≡ 0 → ⊥) → Wrote a at (letters_of w) b next → Wrote a at (label_of w) b next
    unfolding label_of
    letters-label h f = rw (ne_eqb w 0 h) f

  module _ (c : ℕ) where
    pub error-text : c ≡ 1 → Wrote a at (ascii " error") b next → Wrote a at (kind_text (kind_in c)) b next
    unfolding kind_text kind_in
    error-text e f = rw (eq-eqb c 1 e) f

    pub blocks-text : c ≡ 3 → Wrote a at (ascii " blocks") b next → Wrote a at (kind_text (kind_in c)) b next
    unfolding kind_text kind_in
    blocks-text e f = rw e f

pub no_text : (a : List ℕ) (at c : ℕ) → (c ≡ 1 → ⊥) → (c ≡ 3 → ⊥) → Wrote a at (kind_text (kind_in c)) a at
unfolding kind_text kind_in
no_text a at c h k = rw (ne_eqb c 1 h, ne_eqb c 3 k) (by (eqb c 2))
  where
    by : (m : Bool) → Wrote a at (kind_text (cond m mean_row kept_row)) a at
    by true = nothing a at
    by false = nothing a at

-- ---- lines

module _ {a b c d : List ℕ} {at p q r : ℕ} where
  pub named-made : {name : List ℕ} (n : ℕ) → Wrote a at name b p → Wrote b p (space ∷ decimal n) c q → Wrote c q (newline ∷ []) d r
      → Wrote a at (named_line name n) d r
  named-made n w x y = (lines.named-made n (as_writes w) (as_writes x) (as_writes y)).wrote

  pub source-made : {name : List ℕ} (m n : ℕ) → Wrote a at name b p → Wrote b p ((space ∷ decimal m) ++ (space ∷ decimal n)) c q
      → Wrote c q (newline ∷ []) d r → Wrote a at (source_line name m n) d r
  source-made m n w x y = (lines.source-made m n (as_writes w) (as_writes x) (as_writes y)).wrote

module _ {a b c d e : List ℕ} {at p q r s : ℕ} where
  pub check-made : {x y : ℤ} → SFits w64 x → SFits w64 y → Wrote a at (ascii "check") b p
      → Wrote b p (space ∷ signed (wrap x)) c q → Wrote c q (space ∷ signed (wrap y)) d r → Wrote d r (newline ∷ []) e s
      → Wrote a at (check_line x y) e s
  check-made f g w x y z = (lines.check-made f g (as_writes w) (as_writes x) (as_writes y) (as_writes z)).wrote

  pub row_made : (w m n : ℕ) (k : Kind) → Wrote a at (label_of w) b p → Wrote b p ((space ∷ decimal m) ++ (space ∷ decimal n)) c q
      → Wrote c q (kind_text k) d r → Wrote d r (newline ∷ []) e s → Wrote a at (row_line w m n k) e s
  row_made w m n k u v x y = (lines.row_made w m n k (as_writes u) (as_writes v) (as_writes x) (as_writes y)).wrote
