-- The line of a refusal, by a buffer and a place, for programs that keep these two themselves. `Sheets` has the same law of texts as values.
--
--   line-text    the text of a sheet whose number is not 0
use Rattle.std.specs.Prelude.{◌≡◌, refl, List, ◌++◌, ℕ, length, drop}
use Rattle.text.specs.Text.{ascii, Wrote}
use Rattle.text.specs.Laws.Places.{as_writes}
use Rattle.lines.specs.Lines.{named_line}
use Rattle.screentab.specs.Screened.{screened_text}
use Rattle.screentab.specs.Inner.Lent.{accepted_refused}
use Rattle.screentab.specs.Laws.Sheets as sheets

module _ (sheet : List ℕ) {n : ℕ} (is : n ≡ accepted_refused sheet) where
  pub line-text : (n ≡ 0 → ⊥) → {a b : List ℕ} {next : ℕ} → length a ≡ 69632 → Wrote a 0 (named_line (ascii "refused") n) b next
      → (next ≡ length (screened_text sheet)) × (b ≡ screened_text sheet ++ drop next a)
  line-text h long w = sheets.line-text sheet is h refl refl long (as_writes w) refl
