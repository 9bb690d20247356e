-- The text of what a program has read of its input.
--
--   first-bytes    the first bytes of an input have its text, where they are more than a sheet can have
--   full-buffer    the text of all bytes, where the count is beyond them
--   promised       the call's promises, from those on the text and from the buffer's length
use Rattle.std.specs.Prelude.{◌≡◌, refl, List, ◌++◌, ℕ, suc, ◌<◌, ◌≤◌, length, take, drop}
use Rattle.std.proofs.Common.{sym, ap, ◌∙◌, arith, lt-ltb, take_all, length-take-le}
use Rattle.std.proofs.Math.Decide.{dec_le}
use Rattle.text.specs.Text.{ascii}
use Rattle.lines.specs.Lines.{named_line}
use Rattle.printing.specs.Input.{DecidesFor}
use Rattle.printing.specs.Printed.{printed, longest_sheet, print_refused, text_of}

-- ---- the input

refused-long : (sheet : List ℕ) → longest_sheet < length sheet → text_of sheet ≡ named_line (ascii "refused") 1
unfolding text_of printed print_refused
refused-long sheet h = rw (lt-ltb longest_sheet (length sheet) h) refl

pub first-bytes : (n : ℕ) (whole : List ℕ) → longest_sheet < n → text_of (take n whole) ≡ text_of whole
first-bytes n whole h = by (dec_le (length whole) n)
  where
    by : Dec (length whole ≤ n) → text_of (take n whole) ≡ text_of whole
    by (yes short) = ap text_of (take_all n whole short)
    by (no long) = refused-long (take n whole) (rw (length-take-le n whole (omega (arith, long))) h) ∙ sym (refused-long whole (omega (arith, h, long)))

-- ---- the buffer, of any text that a sheet has

module _ (text : List ℕ → List ℕ) (buffer : List ℕ) (count : ℕ) where
  -- a count beyond the buffer is that of a full one
  pub full-buffer : (before : List ℕ) → length buffer ≤ count → {r : ℕ} {after : List ℕ}
      → (r ≡ length (text buffer)) × (after ≡ text buffer ++ drop r before)
      → (r ≡ length (text (take count buffer))) × (after ≡ text (take count buffer) ++ drop r before)
  full-buffer before h t = rw (take_all count buffer h) t

  -- a buffer of n bytes, one more than the longest sheet has
  pub promised : ((n : ℕ) (whole : List ℕ) → longest_sheet < n → text (take n whole) ≡ text whole) → {n : ℕ} → length buffer ≡ n → n ≡ suc longest_sheet
      → {A B : Type 0} → A × B → A × (B × (DecidesFor text buffer count × (length buffer ≡ suc longest_sheet)))
  promised first long more t = (t.0, (t.1, ((λ whole held. ap text held ∙ first (length buffer) whole (omega (arith, long, more))), long ∙ more)))
