-- The text of a sheet, as code writes it.
--
--   column-ready                   what is known of a sheet that the reader accepts
--   number-given, number_passed    the screening call's number of such a sheet, and 0 of one that the reader refuses
--   text-made, line-text           the text where that number is 0, and the line where it is not
use Rattle.std.specs.Prelude.{Result, Ok, Err, ◌≡◌, refl, List, ◌++◌, ℕ, ◌≤◌, ℤ, length, take, drop}
use Rattle.std.proofs.Math.Path.{sym, ap}
use Rattle.std.proofs.Common.{◌∙◌, arith, eq-eqb, ne_eqb}
use Rattle.std.proofs.Math.Decide.{ℕ_discrete}
use Rattle.plan.specs.declared.types.Plan.{Plan}
use Rattle.plan.specs.declared.refusals.Refusal.{Refusal}
use Rattle.plan.specs.Outcome.{outcome}
use Rattle.plan.specs.Plan.{all_readings}
use Rattle.plan.proofs.Laws.Answers.{given_is, refused-is}
use Rattle.sheet.specs.Sheet.{sheet_outcome, read_refused, read_plan, read_column, marks_refused, marks_of}
use Rattle.sheet.specs.Laws.Marks.{same-refused, accepted-without}
use Rattle.text.specs.declared.bytes.Text.{Text}
use Rattle.text.specs.Text.{ascii, Writes}
use Rattle.text.specs.Laws.Writing.{retext, from_start}
use Rattle.lines.specs.Lines.{named_line}
use Rattle.lines.specs.Laws.Lines.{named-long}
use Rattle.printing.specs.Printed.{print_refused, text_of}
use Rattle.printing.specs.Laws.Sheets.{own-plan, own-readings, own-marks, sheet-ready}
use Rattle.screentab.specs.Screened.{lent_refused, screen_number, screened_text}
use Rattle.screentab.specs.Inner.Lent.{ColumnReady, accepted_refused}
use Rattle.screentab.specs.Laws.Numbers.{accepted-alike}
use Rattle.screentab.specs.Laws.Texts.{refused-alike, made_alike, screened-line}

-- ---- the number

-- a sheet that is accepted has the screening call's number
the_number : (sheet : List ℕ) → marks_refused sheet ≡ 0 → accepted_refused sheet ≡ screen_number sheet
unfolding accepted_refused
the_number sheet z = rw (eq-eqb (marks_refused sheet) 0 z) refl

pub number_passed : (sheet : List ℕ) (room : ℕ) → 1024 ≤ room → {answer : Result Plan Refusal} → sheet_outcome answer ≡ outcome (read_refused sheet room) tt
    → {r : Refusal} → answer ≡ Err r → 0 ≡ accepted_refused sheet
unfolding accepted_refused
number_passed sheet room wide told is =
    let s = refused-is (read_refused sheet room) tt (ap sheet_outcome (sym is) ∙ told) in
    rw (ne_eqb (marks_refused sheet) 0 (λ z. s.1 (same-refused sheet room wide ∙ z))) refl

module _ (sheet : List ℕ) (before : List ℤ) (long : length before ≡ 1024) {answer : Result Plan Refusal}
    (told : sheet_outcome answer ≡ outcome (read_refused sheet (length before)) tt) {p : Plan} (is : answer ≡ Ok p)
    {column : List ℤ} {marks : List ℕ}
    (plan-is : p ≡ read_plan sheet (length before)) (column-is : column ≡ read_column sheet before) (marks-are : marks ≡ marks_of sheet) where
  pub column-ready : ColumnReady p column
  column-ready =
      let ready = sheet-ready sheet before long told is plan-is column-is marks-are in
      record { plan = ready.plan; wide = ready.wide }

  pub number-given : {n : ℕ} → n ≡ lent_refused p (take (all_readings p) column) marks → n ≡ accepted_refused sheet
  unfolding screen_number
  number-given e =
      let z = accepted-without sheet (length before) (given_is (read_refused sheet (length before)) tt (ap sheet_outcome (sym is) ∙ told)).0 in
      e
      ∙ rw (
        own-readings sheet before long told is plan-is column-is marks-are,
        own-plan sheet before long told is plan-is column-is marks-are,
        own-marks sheet before long told is plan-is column-is marks-are,
      )
      (sym (the_number sheet z))

-- ---- the text

module _ (sheet : List ℕ) {n : ℕ} (is : n ≡ accepted_refused sheet) where
  as-printed : n ≡ 0 → screened_text sheet ≡ text_of sheet
  as-printed z = by (ℕ_discrete (print_refused sheet) 0)
    where
      by : Dec (print_refused sheet ≡ 0) → screened_text sheet ≡ text_of sheet
      by (yes e) = made_alike sheet (sym (the_number sheet ((accepted-alike sheet).0 e)) ∙ sym is ∙ z)
      by (no h) = refused-alike sheet h

  pub text-made : n ≡ 0 → (a : List ℕ) {b : List ℕ} {next : ℕ} → (next ≡ length (text_of sheet)) × (b ≡ text_of sheet ++ drop next a)
      → (next ≡ length (screened_text sheet)) × (b ≡ screened_text sheet ++ drop next a)
  text-made z a t = rw (as-printed z) t

  -- a number that is not 0 is that of a sheet which the reader accepts
  its-line : (n ≡ 0 → ⊥) → named_line (ascii "refused") n ≡ screened_text sheet
  unfolding accepted_refused
  its-line h = by (ℕ_discrete (marks_refused sheet) 0)
    where
      by : Dec (marks_refused sheet ≡ 0) → named_line (ascii "refused") n ≡ screened_text sheet
      by (yes z) =
          let e : n ≡ screen_number sheet = is ∙ the_number sheet z in
          ap (named_line (ascii "refused")) e ∙ sym (screened-line sheet ((accepted-alike sheet).1 z) (λ d. h (e ∙ d)))
      by (no z) = absurd (h (is ∙ rw (ne_eqb (marks_refused sheet) 0 z) refl))

  pub line-text : (n ≡ 0 → ⊥) → {a b : Text} {before : List ℕ} {next : ℕ} → a.at ≡ 0 → a.buffer.now ≡ before → length before ≡ 69632
      → Writes a (named_line (ascii "refused") n) b → next ≡ b.at
      → (next ≡ length (screened_text sheet)) × (b.buffer.now ≡ screened_text sheet ++ drop next before)
  line-text h {a} {b} start lent long w end =
      let line = its-line h in
      let s = from_start (retext line w) start (rw (← line, lent) (omega (arith, long, named-long (ascii "refused") n))) in
      let whole = end ∙ s.0 in
      (whole, s.1 ∙ rw (lent, whole) refl)
