-- Rows of the table: their kinds, and the marks that are refused.
--
--   rows_in p, row_count p       how many rows there are; for any plan, 0 where k is beyond every plan's
--   wrong_rows p n               refusal 11: rows or marks are not R
--   Kind                         the four kinds of rows, the code's own type
--   marked marks w               row w has mark 1
--   kind_by_mark, kind_of         what a row is, by its mark alone and in a plan
--   code_of, kind_in              the number of a kind, and the kind that a number stands for
--   same c d                     two kinds are one
--   kinds_of p marks             the kinds of as many rows as the largest plan has
--   bad_mark, bad_marks          refusal 13, of one row and of all
use Rattle.std.specs.Prelude.{Bool, not, cond, ◌&&◌, ◌||◌, List, ℕ, ◌^◌, eqb, ltb, length, get_or}
use Rattle.algebra.specs.Search.{some}
use Rattle.algebra.specs.Tab.{tab}
use Rattle.contrasts.specs.Limits.{most_two}
use Rattle.plan.specs.declared.types.Plan.{Plan}
use Rattle.plan.specs.Plan.{confounded_in}
use Rattle.rows.specs.declared.kind.Kind.{Kind as RowKind}
use Rattle.rows.specs.declared.kind.Kind.TheVariants.{Mean, Blocks, Error, Kept}

-- V1: "There are R rows, 2 to the power k, numbered by their set of base letters."
abbrev pub rows_in : Plan → ℕ
rows_in p = 2 ^ p.k

unfoldable pub row_count : Plan → ℕ
row_count p = cond (ltb most_two p.k) 0 (rows_in p)

-- N11: "[..] rows or marks not [..] R, R long"
unfoldable pub wrong_rows : Plan → ℕ → Bool
wrong_rows p n = not (eqb n (rows_in p))

-- ---- kinds

-- V6 to V9: "Row 0 is the mean. Confounded rows are blocks. Rows with mark 1 are error; mark 0 keeps any other row." The code's own type
abbrev pub Kind : Type 0
Kind = RowKind

pattern abbrev pub mean_row : Kind
mean_row = Mean

pattern abbrev pub blocks_row : Kind
blocks_row = Blocks

pattern abbrev pub error_row : Kind
error_row = Error

pattern abbrev pub kept_row : Kind
kept_row = Kept

-- V8: "Rows with mark 1 are error"; past the end of the marks there is none
abbrev pub marked : List ℕ → ℕ → Bool
marked marks w = eqb (get_or marks w 0) 1

-- V8, V9: "Rows with mark 1 are error; mark 0 keeps any other row."
unfoldable pub kind_by_mark : ℕ → Kind
kind_by_mark m = cond (eqb m 1) error_row kept_row

-- V6, V7: "Row 0 is the mean. Confounded rows are blocks." At three levels no effect is confounded (V19)
unfoldable pub kind_of : Plan → List ℕ → ℕ → Kind
kind_of p marks w = cond (eqb w 0) mean_row (cond (confounded_in p w) blocks_row (kind_by_mark (get_or marks w 0)))

-- the numbers that the type has for kinds; those of kept and error are the marks
abbrev pub code_of : Kind → ℕ
code_of kept_row = 0
code_of error_row = 1
code_of mean_row = 2
code_of blocks_row = 3

-- any other number is taken as that of a kept row
unfoldable pub kind_in : ℕ → Kind
kind_in n = cond (eqb n 1) error_row (cond (eqb n 2) mean_row (cond (eqb n 3) blocks_row kept_row))

-- as no two kinds have one number: `one-kind`
abbrev pub same : Kind → Kind → Bool
same c d = eqb (code_of c) (code_of d)

unfoldable pub kinds_of : Plan → List ℕ → List Kind
kinds_of p marks = tab 1024 (kind_of p marks)

-- ---- refusal 13

-- N13: "mark over 1, or mark 1 on the mean or a blocks row"
unfoldable pub bad_mark : Plan → ℕ → ℕ → Bool
bad_mark p w m = ltb 1 m || (eqb m 1 && (eqb w 0 || confounded_in p w))

-- N13
unfoldable pub bad_marks : Plan → List ℕ → Bool
bad_marks p marks = some (length marks) (λ w. bad_mark p w (get_or marks w 0))
