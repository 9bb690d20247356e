-- The text of a table, and of what the table call answers.
--
--   table-lines                  the lines of a table, one after the other
--   refused-text, given-text     what is printed with a number, and with none
--   rows-ready                   the rows that the table call writes
--   made-text, stopped-text      the text of a table that is made, and of one that is refused
--   runs-are, readings-are, rows-count
--                                runs, readings and rows of an accepted plan, as code counts them
--   few-runs, readings-long, few-rows
--                                the parts that are lent to the table call
--   lent-text                    the text of an accepted sheet's table
use Rattle.std.specs.Prelude.{Result, Ok, Err, ◌≡◌, refl, List, ℕ, ◌^◌, ◌<◌, ◌≤◌, ℤ, take}
use Rattle.std.proofs.Math.Path.{sym, ap, ap₂}
use Rattle.std.proofs.Common.{◌∙◌, arith, eq-eqb, ne_eqb, length-take-le}
use Rattle.std.proofs.Math.ListN.{length}
use Rattle.std.specs.Int.Signed.{mag}
use Rattle.algebra.specs.Laws.Machine.{wrap}
use Rattle.algebra.proofs.Laws.Machine.{kept}
use Rattle.algebra.specs.Laws.Tab.{length-tab}
use Rattle.plan.specs.declared.types.Plan.{Plan}
use Rattle.plan.specs.declared.refusals.Refusal.{Refusal}
use Rattle.plan.specs.Outcome.{outcome}
use Rattle.plan.specs.Refusals.{number as number_of}
use Rattle.plan.specs.Check.{run_count, reading_count, plan_refused}
use Rattle.plan.specs.Plan.{runs_of, all_readings, run_sums_of}
use Rattle.plan.proofs.Laws.Answers.{written_new, given_is, refused-is}
use Rattle.plan.proofs.Laws.Sizes.{run-count, reading-count, runs-few, readings-few}
use Rattle.rows.specs.Kinds.{rows_in, row_count}
use Rattle.rows.proofs.Laws.Rows.{row-count, rows_few}
use Rattle.text.specs.declared.bytes.Text.{Text}
use Rattle.text.specs.Text.{ascii, Writes}
use Rattle.text.specs.Laws.Writing.{then, retext}
use Rattle.lines.specs.Lines.{named_line, source_line, check_line}
use Rattle.anova.specs.declared.types.Figures.{Figures}
use Rattle.anova.specs.Table.{row_left, table_refused, table_figures, table_rows, table_outcome, rows_of}
use Rattle.anova.specs.Laws.Admitted.{table-admitted, table-admits}
use Rattle.printing.specs.Inner.Ready.{RowsReady, SheetReady}
use Rattle.printing.specs.Inner.Written.{made_text, answer_text}
use Rattle.printing.specs.Printed.{row_lines, table_text, printed}

-- ---- the lines

module _ {a b c d e g h : Text} where
  pub table-lines : {p : Plan} {rows : List ℕ} → RowsReady p rows → (marks : List ℕ) (f : Figures)
      → Writes a (named_line (ascii "over") f.denominator) b
      → Writes b (row_lines p marks rows (length rows)) c
      → Writes c (source_line (ascii "blocks") f.blocks.degrees f.blocks.numerator) d
      → Writes d (source_line (ascii "error") f.error.degrees f.error.numerator) e
      → Writes e (source_line (ascii "total") f.total.degrees f.total.numerator) g
      → mag f.checks.totals < 2 ^ 63 → mag f.checks.readings < 2 ^ 63
      → Writes g (check_line (wrap f.checks.totals) (wrap f.checks.readings)) h
      → Writes a (table_text p marks f rows) h
  unfolding table_text
  table-lines {p} {rows} ready marks f u v w x y m n z =
      let both = ap₂ check_line (kept f.checks.totals m) (kept f.checks.readings n) in
      then u (then (retext (ap (row_lines p marks rows) ready.long) v) (then w (then x (then y (retext both z)))))

-- ---- with a number, or with none

module _ {a b : Text} {n : ℕ} (t : List ℕ) where
  pub given-text : n ≡ 0 → Writes a t b → Writes a (printed n t) b
  unfolding printed
  given-text z w = rw (eq-eqb n 0 z) w

  pub refused-text : {m : ℕ} → m ≡ n → (n ≡ 0 → ⊥) → Writes a (named_line (ascii "refused") m) b → Writes a (printed n t) b
  unfolding printed
  refused-text e h w = rw (ne_eqb n 0 h) (retext (ap (named_line (ascii "refused")) e) w)

-- ---- what the table call answers

module _ (p : Plan) (readings : List ℤ) (marks : List ℕ) (totals : List ℤ) (rows : List ℕ) where
  abbrev number : ℕ
  number = table_refused p readings marks totals rows

  module _ {r : Result Figures Refusal} (told : table_outcome r ≡ outcome number (table_figures p readings marks)) where
    module _ {f : Figures} (is : r ≡ Ok f) where
      made : (number ≡ 0) × (f ≡ table_figures p readings marks)
      made = given_is number (table_figures p readings marks) (ap table_outcome (sym is) ∙ told)

      module _ {after : List ℕ} (leaves : after ≡ table_rows p readings marks totals rows) where
        rows_are : after ≡ rows_of p (run_sums_of p readings)
        unfolding table_rows
        rows_are = leaves ∙ sym (written_new number (rows_of p (run_sums_of p readings)) rows made.0)

        pub rows-ready : RowsReady p after
        unfolding rows_of
        rows-ready =
            record {
              plan = (table-admitted p readings marks totals rows made.0).plan;
              long = ap length rows_are ∙ length-tab (rows_in p) (row_left p (run_sums_of p readings));
            }

        pub made-text : {a b : Text} → Writes a (table_text p marks f after) b
            → Writes a (answer_text p readings marks totals rows) b
        made-text w =
            given-text (made_text p readings marks) made.0
            (retext (ap (λ g. table_text p marks g after) made.1 ∙ ap (table_text p marks (table_figures p readings marks)) rows_are) w)

    pub stopped-text : {q : Refusal} {n : ℕ} → r ≡ Err q → n ≡ number_of q → {a b : Text} (t : List ℕ) → Writes a (named_line (ascii "refused") n) b
        → Writes a (printed number t) b
    stopped-text is own t w =
        let s = refused-is number (table_figures p readings marks) (ap table_outcome (sym is) ∙ told) in
        refused-text t (own ∙ s.0) s.1 w

-- ---- an accepted sheet

module _ (p : Plan) (ok : plan_refused p ≡ 0) where
  pub runs-are : {n : ℕ} → n ≡ run_count p → n ≡ runs_of p
  runs-are is = is ∙ run-count p ok

  pub few-runs : {n : ℕ} → n ≡ run_count p → n ≤ 1024
  few-runs is = rw (runs-are is) (runs-few p ok)

  pub readings-are : {m : ℕ} → m ≡ reading_count p → m ≡ all_readings p
  readings-are is = is ∙ reading-count p ok

  pub readings-long : {m : ℕ} → m ≡ reading_count p → (column : List ℤ) → length column ≡ 1024 → length (take m column) ≡ m
  readings-long {m} is column wide = length-take-le m column (omega (arith, readings-are is, readings-few p ok, wide))

  pub rows-count : {r : ℕ} → r ≡ row_count p → r ≡ rows_in p
  rows-count is = is ∙ row-count p ok

  pub few-rows : {r : ℕ} → r ≡ row_count p → r ≤ 1024
  few-rows is = rw (rows-count is) (rows_few p ok)

module _ {p : Plan} {column : List ℤ} {marks : List ℕ} (ready : SheetReady p column marks) where
  pub lent-text : {n m r : ℕ} → n ≡ run_count p → m ≡ reading_count p → r ≡ row_count p → (totals : List ℤ) (rows : List ℕ) {a b : Text}
      → Writes a (answer_text p (take m column) marks totals rows) b
      → length totals ≡ n → length rows ≡ r
      → Writes a (made_text p (take (all_readings p) column) marks) b
  unfolding printed
  lent-text {n} {m} {r} d f e totals rows w l k =
      let ok = ready.plan in
      let all = readings-are p ok f in
      let z =
      table-admits p (take m column) marks totals rows ok (readings-long p ok f column ready.wide ∙ all) (l ∙ runs-are p ok d) (k ∙ rows-count p ok e) ready.marks-long
      (rw all ready.within) ready.lawful in
      retext (rw (z, all) refl) w
