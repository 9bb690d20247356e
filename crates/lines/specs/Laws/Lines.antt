-- Lines, from their parts as the code writes them one after the other.
--
--   next-value                                       a value after a space
--   named-long, source-long, check-long, row-long    how long lines are at the most
--   named-made, source-made, check-made, row_made    the lines
use Rattle.std.specs.Prelude.{◌≡◌, refl, Bool, true, false, cond, List, [], ◌∷◌, ◌++◌, ℕ, ◌+◌, ◌≤◌, eqb, ℤ, length}
use Rattle.std.proofs.Math.Path.{ap}
use Rattle.std.proofs.Common.{◌∙◌, append_assoc, le_refl, arith, length-append, SFits}
use Rattle.std.specs.Int.{w64}
use Rattle.algebra.specs.Laws.Machine.{wrap}
use Rattle.text.specs.declared.bytes.Text.{Text}
use Rattle.text.specs.Text.{ascii, Writes}
use Rattle.text.specs.Spelled.{letters_of, decimal, signed}
use Rattle.text.specs.Laws.Decimal.{signed-kept, decimal-long, signed-long}
use Rattle.text.specs.Laws.Writing.{then, retext, letters-long}
use Rattle.rows.specs.Kinds.{Kind, mean_row, blocks_row, error_row, kept_row}
use Rattle.lines.specs.Lines.{space, newline, line_of, label_of, kind_words, row_line, named_line, source_line, check_line}
use Rattle.lines.specs.Inner.Written.{kind_text}

-- ---- fields

module _ {a b c : Text} where
  pub next-value : {z : ℤ} → SFits w64 z → Writes a (space ∷ []) b → Writes b (signed (wrap z)) c → Writes a (space ∷ signed z) c
  next-value f s w = then s (retext (signed-kept f) w)

-- ---- lines

-- the last fields of a row's line
ends_with : (c : Kind) (n : List ℕ) → n ++ (kind_text c ++ (newline ∷ [])) ≡ line_of (n ∷ kind_words c)
unfolding kind_text kind_words line_of
ends_with mean_row n = refl
ends_with blocks_row n = refl
ends_with error_row n = refl
ends_with kept_row n = refl

module _ {a b c d : Text} where
  pub named-made : {name : List ℕ} (n : ℕ) → Writes a name b → Writes b (space ∷ decimal n) c → Writes c (newline ∷ []) d
      → Writes a (named_line name n) d
  unfolding named_line line_of
  named-made n w x y = then w (then x y)

  pub source-made : {name : List ℕ} (m n : ℕ) → Writes a name b → Writes b ((space ∷ decimal m) ++ (space ∷ decimal n)) c
      → Writes c (newline ∷ []) d → Writes a (source_line name m n) d
  unfolding source_line line_of
  source-made {name} m n w x y =
      retext (ap (λ l. name ++ (space ∷ l)) (append_assoc (decimal m) (space ∷ decimal n) (newline ∷ []))) (then w (then x y))

module _ {a b c d e : Text} where
  pub check-made : {x y : ℤ} → SFits w64 x → SFits w64 y → Writes a (ascii "check") b
      → Writes b (space ∷ signed (wrap x)) c → Writes c (space ∷ signed (wrap y)) d → Writes d (newline ∷ []) e
      → Writes a (check_line x y) e
  unfolding check_line line_of
  check-made f g w x y z =
      then w (then (retext (ap (λ t. space ∷ t) (signed-kept f)) x) (then (retext (ap (λ t. space ∷ t) (signed-kept g)) y) z))

  pub row_made : (w m n : ℕ) (k : Kind) → Writes a (label_of w) b → Writes b ((space ∷ decimal m) ++ (space ∷ decimal n)) c
      → Writes c (kind_text k) d → Writes d (newline ∷ []) e → Writes a (row_line w m n k) e
  unfolding row_line line_of
  row_made w m n k u v x y =
      retext
      (ap (λ l. label_of w ++ (space ∷ l))
      (append_assoc (decimal m) (space ∷ decimal n) (kind_text k ++ (newline ∷ [])) ∙ ap (λ l. decimal m ++ (space ∷ l)) (ends_with k (decimal n))))
      (then u (then v (then x y)))

-- ---- how long they are

-- a field, a space and what follows
joined : (f rest : List ℕ) {m n : ℕ} → length f ≤ m → length rest ≤ n → length (f ++ (space ∷ rest)) ≤ m + n + 1
joined f rest h k = rw (length-append f (space ∷ rest)) (omega (arith, h, k))

ended : (f : List ℕ) {m : ℕ} → length f ≤ m → length (f ++ (newline ∷ [])) ≤ m + 1
ended f h = rw (length-append f (newline ∷ [])) (omega (arith, h))

pub named-long : (name : List ℕ) (n : ℕ) → length (named_line name n) ≤ length name + 22
unfolding named_line line_of
named-long name n = omega (arith, joined name (decimal n ++ (newline ∷ [])) (le_refl (length name)) (ended (decimal n) (decimal-long n)))

pub source-long : (name : List ℕ) (m n : ℕ) → length (source_line name m n) ≤ length name + 43
unfolding source_line line_of
source-long name m n =
    omega (
      arith,
      joined name (decimal m ++ (space ∷ (decimal n ++ (newline ∷ [])))) (le_refl (length name))
          (joined (decimal m) (decimal n ++ (newline ∷ [])) (decimal-long m) (ended (decimal n) (decimal-long n))),
    )

pub check-long : (x y : ℤ) → length (check_line x y) ≤ 50
unfolding check_line line_of
check-long x y =
    omega (
      arith,
      joined (ascii "check") (signed x ++ (space ∷ (signed y ++ (newline ∷ [])))) (le_refl 5)
          (joined (signed x) (signed y ++ (newline ∷ [])) (signed-long x) (ended (signed y) (signed-long y))),
    )

label-long : (w : ℕ) → length (label_of w) ≤ 16
unfolding label_of
label-long w = by (eqb w 0)
  where
    by : (b : Bool) → length (cond b (ascii "mean") (letters_of w)) ≤ 16
    by true = omega arith
    by false = letters-long w

kind-long : (c : Kind) → length (kind_text c) ≤ 7
unfolding kind_text
kind-long mean_row = omega arith
kind-long blocks_row = omega arith
kind-long error_row = omega arith
kind-long kept_row = omega arith

pub row-long : (w m n : ℕ) (c : Kind) → length (row_line w m n c) ≤ 66
unfolding row_line line_of
row-long w m n c =
    let last : length (line_of (decimal n ∷ kind_words c)) ≤ 28 =
    rw (← (ends_with c (decimal n)), length-append (decimal n) (kind_text c ++ (newline ∷ []))) (omega (arith, decimal-long n, ended (kind_text c) (kind-long c))) in
    omega (
      arith,
      joined (label_of w) (decimal m ++ (space ∷ line_of (decimal n ∷ kind_words c))) (label-long w)
          (joined (decimal m) (line_of (decimal n ∷ kind_words c)) (decimal-long m) last),
    )
