-- A table of a sheet.
--
--   sheet-number             the number of the call, as the code forms it
--   room_for                 the readings of an accepted sheet have room in a column of 1,024
--   sheet-made               the table call on what the sheet holds
--   filled-long              a column whose first places were filled with readings has so many
--   filled-readings          and these are its first
use mathlib.Core.Path.{◌≡◌, refl, sym, ap, ◌∙◌}
use mathlib.Core.Bool.{Bool}
use mathlib.Core.List.{List, ◌++◌}
use Prim.Native.Nat.{ℕ, ◌/◌, ◌≤◌}
use native.Mathlib.Omega.{arith}
use lib.IntN.{ℤ}
use lib.ListN.{length, take, length-append}
use lib.Seq.{take_at}
use Rattle.algebra.specs.Laws.Tests.{neither}
use Rattle.plan.specs.declared.types.Plan.{Plan}
use Rattle.plan.specs.Check.{plan_refused}
use Rattle.plan.specs.Plan.{factors_of, all_readings}
use Rattle.plan.proofs.Laws.Sizes.{run-count, readings-few}
use Rattle.columns.specs.Refusals.{wrong_length}
use Rattle.columns.specs.Laws.Admitted.{all-readings, as_long}
use Rattle.rows.specs.Kinds.{wrong_rows}
use Rattle.rows.proofs.Laws.Rows.{row-count, rows-as-long}
use Rattle.fields.specs.Fields.{fields_of, body_at}
use Rattle.contents.specs.Contents.{plan_in, readings_of, readings_in, marks_in}
use Rattle.contents.specs.Held.{held}
use Rattle.contents.specs.Laws.Holding.{held_all}
use Rattle.contents.specs.Laws.Readings.{readings-long}
use Rattle.sheet.specs.Sheet.{refused_with}
use Rattle.sheet.specs.Laws.Admitted.{Admitted, admitted}
use Rattle.sheet.specs.Laws.Holding.{held_with, narrow-by}
use Rattle.anova.specs.Table.{table_refused}
use Rattle.anova.specs.Laws.Admitted.{table-admits}
use Rattle.figures.specs.Numbers.{TableLeft}
use Rattle.tables.specs.Sheets.{wrong_slices, sheet_table_refused}
use Rattle.tables.specs.Inner.Slices.{other_slices}
use Rattle.figures.specs.Laws.Roomed.{same-call}

-- ---- the number

as-wrong : (p : Plan) (totals rows : ℕ) → plan_refused p ≡ 0 → other_slices p totals rows ≡ wrong_slices p totals rows
unfolding other_slices wrong_slices wrong_length wrong_rows
as-wrong p totals rows ok = rw (run-count p ok, row-count p ok) refl

pub sheet-number : (sheet : List ℕ) (totals rows : ℕ) {p : Plan} → p ≡ held (plan_in (fields_of sheet)) → {other : Bool} → other ≡ other_slices p totals rows
    → {n : ℕ} → n ≡ refused_with (fields_of sheet) p other → n ≡ sheet_table_refused sheet totals rows
unfolding sheet_table_refused wrong_slices wrong_length wrong_rows held factors_of
sheet-number sheet totals rows {p} is found e =
    let fs = fields_of sheet in
    e
    ∙ ap (refused_with fs p) found
    ∙ narrow-by fs p (other_slices p totals rows) (wrong_slices p totals rows) (as-wrong p totals rows)
    ∙ ap (λ q. refused_with fs q (wrong_slices q totals rows)) is
    ∙ held_with fs (plan_in fs) (wrong_slices (plan_in fs) totals rows)

-- ---- a sheet that is accepted

module _ (sheet : List ℕ) (totals : List ℤ) (rows : List ℕ) (z : sheet_table_refused sheet (length totals) (length rows) ≡ 0) where
  known : Admitted (fields_of sheet) (plan_in (fields_of sheet)) (wrong_slices (plan_in (fields_of sheet)) (length totals) (length rows))
  unfolding sheet_table_refused
  known = admitted (fields_of sheet) (plan_in (fields_of sheet)) (wrong_slices (plan_in (fields_of sheet)) (length totals) (length rows)) z

  readings-are : length (readings_in (fields_of sheet)) ≡ all_readings (plan_in (fields_of sheet))
  readings-are = all-readings (plan_in (fields_of sheet)) (length (readings_in (fields_of sheet))) known.readings

  pub room_for : {body : List ℕ} → body ≡ body_at 4 0 (fields_of sheet) → length body / 4 ≤ 1024
  room_for {body} is =
      let n : length (readings_of body) ≡ all_readings (plan_in (fields_of sheet)) = rw is readings-are in
      rw (← (readings-long body), n) (readings-few (plan_in (fields_of sheet)) known.plan)

  -- the table call's number of what the sheet holds
  all_right : table_refused (plan_in (fields_of sheet)) (readings_in (fields_of sheet)) (marks_in (fields_of sheet)) totals rows ≡ 0
  unfolding wrong_slices
  all_right =
      let p = plan_in (fields_of sheet) in
      let wide = neither (wrong_length p (length totals)) (wrong_rows p (length rows)) known.wide in
      table-admits p (readings_in (fields_of sheet)) (marks_in (fields_of sheet)) totals rows known.plan readings-are (as_long p (length totals) wide.0)
      (rows-as-long p (length rows) wide.1) (rows-as-long p (length (marks_in (fields_of sheet))) known.marks) known.within known.lawful

  pub sheet-made : {p : Plan} {xs : List ℤ} {ms : List ℕ} → p ≡ held (plan_in (fields_of sheet)) → xs ≡ readings_in (fields_of sheet) → ms ≡ marks_in (fields_of sheet)
      → {figures : List ℕ} {checks : List ℤ} {n : ℕ} {ts : List ℤ} {rs fs : List ℕ} {cs : List ℤ}
      → TableLeft (table_refused p xs ms totals rows) p xs ms totals rows figures checks n ts rs fs cs
      → TableLeft (sheet_table_refused sheet (length totals) (length rows)) (plan_in (fields_of sheet)) (readings_in (fields_of sheet)) (marks_in (fields_of sheet))
      totals rows figures checks n ts rs fs cs
  sheet-made is values kinds h =
      let own = is ∙ held_all (plan_in (fields_of sheet)) known.plan in
      same-call (rw (own, values, kinds) all_right ∙ sym z) own values kinds h

-- ---- a column whose first places were filled

module _ (body : List ℕ) {part : List ℤ} (rest : List ℤ) (put : part ≡ readings_of body) where
  part-long : length part ≡ length body / 4
  part-long = ap length put ∙ readings-long body

  pub filled-long : length body / 4 ≤ length (part ++ rest)
  filled-long = omega (arith, length-append part rest, part-long)

  pub filled-readings : take (length body / 4) (part ++ rest) ≡ readings_of body
  filled-readings = take_at part rest (length body / 4) part-long ∙ put
