-- The text of what the program has read of its input.
--
--   screen-first    the first bytes of an input have its text, where they are more than a sheet can have
use Rattle.std.specs.Prelude.{◌≡◌, refl, List, ℕ, ◌<◌, ◌≤◌, length, take}
use Rattle.std.proofs.Common.{sym, ap, ◌∙◌, arith, lt-ltb, take_all, length-take-le}
use Rattle.std.proofs.Math.Decide.{dec_le}
use Rattle.printing.specs.Printed.{longest_sheet, print_refused}
use Rattle.printing.specs.Laws.Inputs.{first-bytes}
use Rattle.screentab.specs.Screened.{screened_text}
use Rattle.screentab.specs.Laws.Texts.{refused-alike}

too_long : (sheet : List ℕ) → longest_sheet < length sheet → print_refused sheet ≡ 0 → ⊥
unfolding print_refused
too_long sheet h z = let one : print_refused sheet ≡ 1 = rw (lt-ltb longest_sheet (length sheet) h) refl in omega (arith, one, z)

pub screen-first : (n : ℕ) (whole : List ℕ) → longest_sheet < n → screened_text (take n whole) ≡ screened_text whole
screen-first n whole h = by (dec_le (length whole) n)
  where
    by : Dec (length whole ≤ n) → screened_text (take n whole) ≡ screened_text whole
    by (yes short) = ap screened_text (take_all n whole short)
    by (no long) =
        refused-alike (take n whole) (too_long (take n whole) (rw (length-take-le n whole (omega (arith, long))) h))
        ∙ first-bytes n whole h
        ∙ sym (refused-alike whole (too_long whole (omega (arith, h, long))))
