-- How long a text is, and so that the buffer has room for it.
--
--   text-fits              no text of a sheet is over 69,632 bytes long
--   text-written           the text of a sheet from the buffer's first place on
--   too_long, long-enough  the text of a sheet by its length, as code writes it
use Rattle.std.specs.Prelude.{◌≡◌, refl, Bool, true, false, cond, List, ◌++◌, ℕ, zero, suc, ◌+◌, ◌*◌, ◌<◌, ◌≤◌, ltb, length, get_or, drop}
use Rattle.std.proofs.Common.{◌∙◌, suc-mul, arith, eq-eqb, ne_eqb, lt-ltb, le-ltb, length-append}
use Rattle.std.proofs.Math.Decide.{ℕ_discrete}
use Rattle.plan.specs.declared.types.Plan.{Plan}
use Rattle.plan.specs.Check.{plan_refused}
use Rattle.plan.specs.Plan.{run_sums_of}
use Rattle.rows.specs.Kinds.{rows_in, kind_of}
use Rattle.rows.proofs.Laws.Rows.{rows_few}
use Rattle.fields.specs.Fields.{fields_of}
use Rattle.contents.specs.Contents.{plan_in, readings_in, marks_in}
use Rattle.sheet.specs.Sheet.{marks_refused}
use Rattle.sheet.specs.Laws.Admitted.{marks-admitted}
use Rattle.text.specs.declared.bytes.Text.{Text}
use Rattle.text.specs.Text.{ascii, Writes}
use Rattle.text.specs.Laws.Writing.{from_start}
use Rattle.lines.specs.Lines.{named_line, source_line, check_line}
use Rattle.lines.specs.Laws.Lines.{named-long, source-long, check-long, row-long}
use Rattle.anova.specs.declared.types.Figures.{Figures}
use Rattle.anova.specs.Table.{row_degrees, table_figures, rows_of}
use Rattle.printing.specs.Printed.{line_of_row, row_lines, table_text, printed, sheet_table, longest_sheet, print_refused, text_of}

-- ---- the table

rows_long : (p : Plan) (marks rows : List ℕ) (n : ℕ) → length (row_lines p marks rows n) ≤ n * 66
unfolding row_lines
rows_long p marks rows zero = omega arith
rows_long p marks rows (suc w) =
    rw (length-append (row_lines p marks rows w) (line_of_row p marks rows w), suc-mul w 66)
    (omega (arith, rows_long p marks rows w, row-long w (row_degrees p w) (get_or rows w 0) (kind_of p marks w)))

-- two texts, one after the other
both : (t u : List ℕ) {m n : ℕ} → length t ≤ m → length u ≤ n → length (t ++ u) ≤ m + n
both t u h k = rw (length-append t u) (omega (arith, h, k))

table-long : (p : Plan) (marks : List ℕ) (f : Figures) (rows : List ℕ) → length (table_text p marks f rows) ≤ rows_in p * 66 + 222
unfolding table_text
table-long p marks f rows =
    let over = named_line (ascii "over") f.denominator in
    let lines = row_lines p marks rows (rows_in p) in
    let blocks = source_line (ascii "blocks") f.blocks.degrees f.blocks.numerator in
    let error = source_line (ascii "error") f.error.degrees f.error.numerator in
    let total = source_line (ascii "total") f.total.degrees f.total.numerator in
    let check = check_line f.checks.totals f.checks.readings in
    let h5 = both total check (source-long (ascii "total") f.total.degrees f.total.numerator) (check-long f.checks.totals f.checks.readings) in
    let h4 = both error (total ++ check) (source-long (ascii "error") f.error.degrees f.error.numerator) h5 in
    let h3 = both blocks (error ++ (total ++ check)) (source-long (ascii "blocks") f.blocks.degrees f.blocks.numerator) h4 in
    let h2 = both lines (blocks ++ (error ++ (total ++ check))) (rows_long p marks rows (rows_in p)) h3 in
    omega (arith, both over (lines ++ (blocks ++ (error ++ (total ++ check)))) (named-long (ascii "over") f.denominator) h2)

-- ---- the sheet

-- a sheet that is not refused is not too long, and has a plan that is accepted
within-length : (b : Bool) (n : ℕ) → cond b 1 n ≡ 0 → n ≡ 0
within-length true n e = absurd (omega (arith, e))
within-length false n e = e

accepted-plan : (sheet : List ℕ) → print_refused sheet ≡ 0 → plan_refused (plan_in (fields_of sheet)) ≡ 0
unfolding print_refused
accepted-plan sheet z = (marks-admitted sheet (within-length (ltb longest_sheet (length sheet)) (marks_refused sheet) z)).plan

pub text-fits : (sheet : List ℕ) → length (text_of sheet) ≤ 69632
unfolding text_of printed sheet_table
text-fits sheet = by (ℕ_discrete (print_refused sheet) 0)
  where
    by : Dec (print_refused sheet ≡ 0) → length (printed (print_refused sheet) (sheet_table sheet)) ≤ 69632
    by (yes z) =
        let p = plan_in (fields_of sheet) in
        let readings = readings_in (fields_of sheet) in
        let marks = marks_in (fields_of sheet) in
        let long = table-long p marks (table_figures p readings marks) (rows_of p (run_sums_of p readings)) in
        rw (eq-eqb (print_refused sheet) 0 z) (omega (arith, long, rows_few p (accepted-plan sheet z)))
    by (no z) = rw (ne_eqb (print_refused sheet) 0 z) (omega (arith, named-long (ascii "refused") (print_refused sheet)))

-- what it is in the buffer
pub text-written : (sheet : List ℕ) {a b : Text} {before : List ℕ} {n : ℕ} → a.at ≡ 0 → a.buffer.now ≡ before → length before ≡ 69632 → Writes a (text_of sheet) b
    → n ≡ b.at → (n ≡ length (text_of sheet)) × (b.buffer.now ≡ text_of sheet ++ drop n before)
text-written sheet {a} {b} {before} {n} start lent long w end =
    let s = from_start w start (rw lent (omega (arith, long, text-fits sheet))) in
    let whole = end ∙ s.0 in
    (whole, s.1 ∙ rw (lent, whole) refl)

module _ (sheet : List ℕ) {a b : Text} where
  pub too_long : Writes a (named_line (ascii "refused") 1) b → longest_sheet < length sheet → Writes a (text_of sheet) b
  unfolding text_of printed print_refused
  too_long w h = rw (lt-ltb longest_sheet (length sheet) h) w

  pub long-enough : Writes a (printed (marks_refused sheet) (sheet_table sheet)) b → length sheet ≤ longest_sheet → Writes a (text_of sheet) b
  unfolding text_of print_refused
  long-enough w h = rw (le-ltb longest_sheet (length sheet) h) w
