-- The lines of rows where the kinds are held as their numbers, by a buffer and a place. `Places` has the same laws of kinds.
--
--   kind-at                      the kind at a place of a list of numbers
--   no_rows, row_more, all-rows  the lines of rows: no row yet, one more, all
use Rattle.std.specs.Prelude.{◌≡◌, refl, List, [], ◌∷◌, map, ℕ, zero, suc, ◌+◌, length, get_or}
use Rattle.std.proofs.Common.{ap, ◌∙◌}
use Rattle.plan.specs.declared.types.Plan.{Plan}
use Rattle.plan.specs.Check.{used_row}
use Rattle.rows.specs.Kinds.{Kind, kept_row, code_of, kind_in, kinds_of}
use Rattle.rows.proofs.Laws.Kinds.{kind-in}
use Rattle.text.specs.Text.{Wrote}
use Rattle.lines.specs.Lines.{row_line}
use Rattle.printing.specs.Inner.Ready.{RowsReady}
use Rattle.printing.specs.Inner.Written.{degrees_left, rows_by}
use Rattle.printing.specs.Printed.{row_lines}
use Rattle.printing.specs.Laws.Places as places

-- a number that is not there is that of a kept row
pub kind-at : (kinds : List ℕ) (w : ℕ) → get_or (map kind_in kinds) w kept_row ≡ kind_in (get_or kinds w 0)
unfolding kind_in
kind-at [] w = refl
kind-at (c ∷ kinds) zero = refl
kind-at (c ∷ kinds) (suc w) = kind-at kinds w

back : (kinds : List Kind) → map kind_in (map code_of kinds) ≡ kinds
back [] = refl
back (c ∷ kinds) = rw (kind-in c, back kinds) refl

pub no_rows : (a : List ℕ) (at levels used : ℕ) (kinds rows : List ℕ) → Wrote a at (rows_by levels used (map kind_in kinds) rows 0) a at
no_rows a at levels used kinds rows = places.no_rows a at levels used (map kind_in kinds) rows

module _ {a b c : List ℕ} {at next last : ℕ} (levels used : ℕ) (kinds rows : List ℕ) (w : ℕ) where
  pub row_more : {d : ℕ} → d ≡ degrees_left levels used w → Wrote a at (rows_by levels used (map kind_in kinds) rows w) b next
      → Wrote b next (row_line w d (get_or rows w 0) (kind_in (get_or kinds w 0))) c last
      → Wrote a at (rows_by levels used (map kind_in kinds) rows (w + 1)) c last
  row_more e f g = places.row_more levels used (map kind_in kinds) rows w e f (rw (kind-at kinds w) g)

module _ {p : Plan} {rows : List ℕ} (ready : RowsReady p rows) (marks : List ℕ) where
  pub all-rows : {a b : List ℕ} {at next i used : ℕ} {kinds : List ℕ} → used ≡ used_row p → kinds ≡ map code_of (kinds_of p marks) → i ≡ length rows
      → Wrote a at (rows_by p.levels used (map kind_in kinds) rows i) b next → Wrote a at (row_lines p marks rows (length rows)) b next
  all-rows d e n w = places.all-rows ready marks d (ap (map kind_in) e ∙ back (kinds_of p marks)) n w
