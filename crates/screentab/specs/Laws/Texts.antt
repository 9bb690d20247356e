-- The text is that of the printing call, or the line of the screening call's number.
--
--   refused-alike     what the printing call refuses has its text
--   made_alike        and so has what the screening call does not refuse
--   screened-line     else it is the line of the screening call's number
use Rattle.std.specs.Prelude.{◌≡◌, List, ℕ}
use Rattle.std.proofs.Math.Path.{refl}
use Rattle.std.proofs.Math.Decide.{ℕ_discrete}
use borrow.Author.Tests.{eq-eqb, ne_eqb}
use Rattle.text.specs.Text.{ascii}
use Rattle.lines.specs.Lines.{named_line}
use Rattle.printing.specs.Printed.{printed, print_refused, text_of}
use Rattle.screentab.specs.Screened.{screen_number, screened_refused, screened_text}

module _ (sheet : List ℕ) where
  pub refused-alike : (print_refused sheet ≡ 0 → ⊥) → screened_text sheet ≡ text_of sheet
  unfolding screened_text screened_refused text_of
  refused-alike h = rw (ne_eqb (print_refused sheet) 0 h) refl

  pub made_alike : screen_number sheet ≡ 0 → screened_text sheet ≡ text_of sheet
  unfolding screened_text screened_refused text_of
  made_alike z = by (ℕ_discrete (print_refused sheet) 0)
    where
      by : Dec (print_refused sheet ≡ 0) → screened_text sheet ≡ text_of sheet
      by (yes e) = rw (eq-eqb (print_refused sheet) 0 e, z, e) refl
      by (no h) = refused-alike h

  pub screened-line : print_refused sheet ≡ 0 → (screen_number sheet ≡ 0 → ⊥) → screened_text sheet ≡ named_line (ascii "refused") (screen_number sheet)
  unfolding screened_text screened_refused printed
  screened-line e h = rw (eq-eqb (print_refused sheet) 0 e, ne_eqb (screen_number sheet) 0 h) refl
