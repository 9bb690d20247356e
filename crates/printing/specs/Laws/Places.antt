-- The text of a sheet from its parts, by a buffer and a place, for programs that keep these two themselves. `Rows`, `Tables`, `Sheets` and
-- `Lengths` have the same laws of texts as values.
--
--   no_rows, row_more, all-rows  the lines of rows: no row yet, one more, all
--   table-lines                  the lines of a table, one after the other
--   refused-text, given-text     what is printed with a number, and with none
--   made-text, stopped-text      the text of a table that is made, and of one that is refused
--   lent-text                    the text of an accepted sheet's table
--   sheet-made, sheet-stopped    the text of an accepted sheet, and of one that is refused
--   text-written                 the text of a sheet from the buffer's first place on
--   too_long, long-enough        the text of a sheet by its length
use Rattle.std.specs.Prelude.{Result, Ok, Err, ◌≡◌, refl, List, ◌++◌, ℕ, ◌+◌, ◌^◌, ◌<◌, ◌≤◌, ℤ, length, take, drop, get_or}
use Rattle.std.specs.Int.Signed.{mag}
use Rattle.algebra.specs.Laws.Machine.{wrap}
use Rattle.plan.specs.declared.types.Plan.{Plan}
use Rattle.plan.specs.declared.refusals.Refusal.{Refusal}
use Rattle.plan.specs.Outcome.{outcome}
use Rattle.plan.specs.Refusals.{number}
use Rattle.plan.specs.Check.{run_count, reading_count, used_row}
use Rattle.plan.specs.Plan.{all_readings}
use Rattle.rows.specs.Kinds.{Kind, kept_row, row_count, kinds_of}
use Rattle.sheet.specs.Sheet.{sheet_outcome, read_refused, read_plan, read_column, marks_refused, marks_of}
use Rattle.text.specs.Text.{ascii, Wrote}
use Rattle.text.specs.Laws.Places.{text_at, as_writes}
use Rattle.lines.specs.Lines.{row_line, named_line, source_line, check_line}
use Rattle.anova.specs.declared.types.Figures.{Figures}
use Rattle.anova.specs.Table.{table_refused, table_figures, table_rows, table_outcome}
use Rattle.printing.specs.Inner.Ready.{RowsReady, SheetReady}
use Rattle.printing.specs.Inner.Written.{degrees_left, rows_by, made_text, answer_text}
use Rattle.printing.specs.Printed.{row_lines, table_text, printed, sheet_table, longest_sheet, text_of}
use Rattle.printing.specs.Laws.Rows as by_row
use Rattle.printing.specs.Laws.Tables as tables
use Rattle.printing.specs.Laws.Sheets as sheets
use Rattle.printing.specs.Laws.Lengths as lengths

-- ---- rows

pub no_rows : (a : List ℕ) (at levels used : ℕ) (kinds : List Kind) (rows : List ℕ) → Wrote a at (rows_by levels used kinds rows 0) a at
no_rows a at levels used kinds rows = (by_row.no_rows (text_at a at) levels used kinds rows).wrote

module _ {a b c : List ℕ} {at next last : ℕ} (levels used : ℕ) (kinds : List Kind) (rows : List ℕ) (w : ℕ) where
  pub row_more : {d : ℕ} → d ≡ degrees_left levels used w → Wrote a at (rows_by levels used kinds rows w) b next
      → Wrote b next (row_line w d (get_or rows w 0) (get_or kinds w kept_row)) c last → Wrote a at (rows_by levels used kinds rows (w + 1)) c last
  row_more e f g = (by_row.row_more levels used kinds rows w e (as_writes f) (as_writes g)).wrote

module _ {p : Plan} {rows : List ℕ} (ready : RowsReady p rows) (marks : List ℕ) where
  pub all-rows : {a b : List ℕ} {at next i used : ℕ} {kinds : List Kind} → used ≡ used_row p → kinds ≡ kinds_of p marks → i ≡ length rows
      → Wrote a at (rows_by p.levels used kinds rows i) b next → Wrote a at (row_lines p marks rows (length rows)) b next
  all-rows d e n w = (by_row.all-rows ready marks d e n (as_writes w)).wrote

-- ---- the lines of a table

module _ {a b c d e g h : List ℕ} {at p1 p2 p3 p4 p5 p6 : ℕ} where
  pub table-lines : {p : Plan} {rows : List ℕ} → RowsReady p rows → (marks : List ℕ) (f : Figures)
      → Wrote a at (named_line (ascii "over") f.denominator) b p1
      → Wrote b p1 (row_lines p marks rows (length rows)) c p2
      → Wrote c p2 (source_line (ascii "blocks") f.blocks.degrees f.blocks.numerator) d p3
      → Wrote d p3 (source_line (ascii "error") f.error.degrees f.error.numerator) e p4
      → Wrote e p4 (source_line (ascii "total") f.total.degrees f.total.numerator) g p5
      → mag f.checks.totals < 2 ^ 63 → mag f.checks.readings < 2 ^ 63
      → Wrote g p5 (check_line (wrap f.checks.totals) (wrap f.checks.readings)) h p6
      → Wrote a at (table_text p marks f rows) h p6
  table-lines ready marks f u v w x y m n z =
      (tables.table-lines ready marks f (as_writes u) (as_writes v) (as_writes w) (as_writes x) (as_writes y) m n (as_writes z)).wrote

-- ---- with a number, or with none

module _ {a b : List ℕ} {at next n : ℕ} (t : List ℕ) where
  pub given-text : n ≡ 0 → Wrote a at t b next → Wrote a at (printed n t) b next
  given-text z w = (tables.given-text t z (as_writes w)).wrote

  pub refused-text : {m : ℕ} → m ≡ n → (n ≡ 0 → ⊥) → Wrote a at (named_line (ascii "refused") m) b next → Wrote a at (printed n t) b next
  refused-text e h w = (tables.refused-text t e h (as_writes w)).wrote

-- ---- what the table call answers

module _ (p : Plan) (readings : List ℤ) (marks : List ℕ) (totals : List ℤ) (rows : List ℕ) where
  abbrev refused_by : ℕ
  refused_by = table_refused p readings marks totals rows

  module _ {r : Result Figures Refusal} (told : table_outcome r ≡ outcome refused_by (table_figures p readings marks)) where
    pub made-text : {f : Figures} → r ≡ Ok f → {after : List ℕ} → after ≡ table_rows p readings marks totals rows
        → {a b : List ℕ} {at next : ℕ} → Wrote a at (table_text p marks f after) b next → Wrote a at (answer_text p readings marks totals rows) b next
    made-text is leaves w = (tables.made-text p readings marks totals rows told is leaves (as_writes w)).wrote

    pub stopped-text : {q : Refusal} {n : ℕ} → r ≡ Err q → n ≡ number q → {a b : List ℕ} {at next : ℕ} (t : List ℕ)
        → Wrote a at (named_line (ascii "refused") n) b next → Wrote a at (printed refused_by t) b next
    stopped-text is own t w = (tables.stopped-text p readings marks totals rows told is own t (as_writes w)).wrote

-- ---- an accepted sheet

module _ {p : Plan} {column : List ℤ} {marks : List ℕ} (ready : SheetReady p column marks) where
  pub lent-text : {n m r : ℕ} → n ≡ run_count p → m ≡ reading_count p → r ≡ row_count p → (totals : List ℤ) (rows : List ℕ) {a b : List ℕ} {at next : ℕ}
      → Wrote a at (answer_text p (take m column) marks totals rows) b next
      → length totals ≡ n → length rows ≡ r
      → Wrote a at (made_text p (take (all_readings p) column) marks) b next
  lent-text d f e totals rows w l k = (tables.lent-text ready d f e totals rows (as_writes w) l k).wrote

module _ (sheet : List ℕ) (before : List ℤ) (long : length before ≡ 1024) {answer : Result Plan Refusal}
    (told : sheet_outcome answer ≡ outcome (read_refused sheet (length before)) tt) {p : Plan} (is : answer ≡ Ok p)
    {column : List ℤ} {marks : List ℕ}
    (plan-is : p ≡ read_plan sheet (length before)) (column-is : column ≡ read_column sheet before) (marks-are : marks ≡ marks_of sheet) where
  pub sheet-made : {a b : List ℕ} {at next : ℕ}
      → Wrote a at (made_text p (take (all_readings p) column) marks) b next
      → Wrote a at (printed (marks_refused sheet) (sheet_table sheet)) b next
  sheet-made w = (sheets.sheet-made sheet before long told is plan-is column-is marks-are (as_writes w)).wrote

-- ---- a sheet that is refused

pub sheet-stopped : (sheet : List ℕ) (room : ℕ) → 1024 ≤ room → {answer : Result Plan Refusal} → sheet_outcome answer ≡ outcome (read_refused sheet room) tt
    → {r : Refusal} {n : ℕ} → answer ≡ Err r → n ≡ number r → {a b : List ℕ} {at next : ℕ} → Wrote a at (named_line (ascii "refused") n) b next
    → Wrote a at (printed (marks_refused sheet) (sheet_table sheet)) b next
sheet-stopped sheet room wide told is own w = (sheets.sheet-stopped sheet room wide told is own (as_writes w)).wrote

-- ---- the whole text

pub text-written : (sheet : List ℕ) {a b : List ℕ} {next : ℕ} → length a ≡ 69632 → Wrote a 0 (text_of sheet) b next
    → (next ≡ length (text_of sheet)) × (b ≡ text_of sheet ++ drop next a)
text-written sheet long w = lengths.text-written sheet refl refl long (as_writes w) refl

module _ (sheet : List ℕ) {a b : List ℕ} {next : ℕ} (long : length a ≡ 69632) where
  pub too_long : Wrote a 0 (named_line (ascii "refused") 1) b next → longest_sheet < length sheet
      → (next ≡ length (text_of sheet)) × (b ≡ text_of sheet ++ drop next a)
  too_long w h = text-written sheet long (lengths.too_long sheet (as_writes w) h).wrote

  pub long-enough : Wrote a 0 (printed (marks_refused sheet) (sheet_table sheet)) b next → length sheet ≤ longest_sheet
      → (next ≡ length (text_of sheet)) × (b ≡ text_of sheet ++ drop next a)
  long-enough w h = text-written sheet long (lengths.long-enough sheet (as_writes w) h).wrote
