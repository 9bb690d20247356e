-- What the reader says of a sheet's first bytes: so many of them are a plan in bytes, which the plan check accepts, and it is the plan of the sheet.
--
--   head-of-sheet     the first `head_length` bytes of a sheet that is accepted are a head that is accepted, with the sheet's plan
--   length-of-head    and `read_span`, which the reader leaves, is their number
use Rattle.std.specs.Prelude.{◌≡◌, refl, List, ℕ, take}
use Rattle.std.proofs.Math.Path.{sym}
use Rattle.std.proofs.Common.{ap, ◌∙◌}
use Rattle.plan.specs.Check.{plan_refused}
use Rattle.plan.proofs.Laws.Answers.{after-plan, written_new}
use Rattle.fields.specs.Fields.{fields_of}
use Rattle.contents.specs.Contents.{plan_in}
use Rattle.sheet.specs.Sheet.{read_refused}
use Rattle.sheet.specs.Laws.Admitted.{read-admitted}
use Rattle.heads.specs.Heads.{head_plan, head_refusals, head_refused, head_length}
use Rattle.heads.specs.Laws.Sheets.{head-fine, head-plan, head-needless}
use Rattle.handed.specs.Sheets.{read_span}

module _ (sheet : List ℕ) (room : ℕ) (z : read_refused sheet room ≡ 0) where
  abbrev head : List ℕ
  head = take (head_length sheet) sheet

  pub head-of-sheet : (head_refused (take (head_length sheet) sheet) ≡ 0) × (head_plan (take (head_length sheet) sheet) ≡ plan_in (fields_of sheet))
  unfolding head_refused
  head-of-sheet =
      let a = read-admitted sheet room z in
      let is = head-plan sheet a.fields in
      let needed = head-needless sheet a.fields ∙ a.needed in
      (rw (head-fine sheet a.fields) (after-plan (head_plan head) (head_refusals (fields_of head)) (ap plan_refused is ∙ a.plan) ∙ rw needed refl), is)

  pub length-of-head : (old : ℕ) → read_span sheet room old ≡ head_length sheet
  unfolding read_span
  length-of-head old = sym (written_new (read_refused sheet room) (head_length sheet) old z)
