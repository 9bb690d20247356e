-- How long a sheet is that is accepted, and which part of it the marks are.
--
--   longest       it has at most 5,187 bytes
--   marks-last    "the part of the sheet that holds them": the marks are its last bytes
use Rattle.std.specs.Prelude.{◌≡◌, false, List, [], ◌⊎◌, ℕ, ◌+◌, ◌*◌, ◌≤◌, length}
use Rattle.std.proofs.Common.{inl, inr, mul-le-mul_left, arith}
use Rattle.std.proofs.Math.Nat.{pow-le-pow_left}
use Rattle.plan.specs.declared.types.Plan.{Plan}
use Rattle.plan.specs.Check.{plan_refused}
use Rattle.plan.specs.Plan.{runs_of, all_readings}
use Rattle.plan.proofs.Laws.Accepted.{accepted, sizes}
use Rattle.plan.proofs.Laws.Answers.{written_new}
use Rattle.plan.proofs.Laws.Sizes.{runs-power, readings-few, some-repeat}
use Rattle.columns.specs.Laws.Admitted.{all-readings}
use Rattle.rows.specs.Kinds.{rows_in}
use Rattle.rows.proofs.Laws.Rows.{rows-as-long, rows_few}
use Rattle.fields.specs.Fields.{Fields, fields_of, bodies, body_at}
use Rattle.fields.specs.Laws.Passed.{counted}
use Rattle.fields.specs.Laws.Lengths.{span-of-sheet, four-whole}
use Rattle.fields.specs.Laws.Last.{Ends, five-last}
use Rattle.contents.specs.Contents.{repeats_in, plan_in, readings_in, marks_in}
use Rattle.contents.specs.Laws.Readings.{readings-long}
use Rattle.contents.specs.Laws.Repeats.{without-or-more}
use Rattle.sheet.specs.Sheet.{marks_refused, marks_of}
use Rattle.sheet.specs.Laws.Admitted.{Admitted, marks-admitted}

-- P13: runs that are made twice or more are at most 512, and there are no more rows than runs
rows-half : (p : Plan) → plan_refused p ≡ 0 → (p.repeats ≡ 1 → ⊥) → rows_in p ≤ 512
rows-half p ok h =
    let rows : rows_in p ≤ runs_of p = rw (runs-power p (accepted p ok).levels) (pow-le-pow_left (two-or-more (accepted p ok).levels) p.k) in
    let twice : runs_of p * 2 ≤ all_readings p = mul-le-mul_left (runs_of p) (omega (arith, (some-repeat p ok).0, h)) in
    omega (arith, rows, twice, readings-few p ok)
  where
    two-or-more : (p.levels ≡ 2) ⊎ (p.levels ≡ 3) → 2 ≤ p.levels
    two-or-more (inl e) = omega (arith, e)
    two-or-more (inr e) = omega (arith, e)

pub longest : (s : List ℕ) → marks_refused s ≡ 0 → length s ≤ 5187
unfolding plan_in
longest s z = by (without-or-more fs a.needed)
  where
    fs : Fields
    fs = fields_of s

    a : Admitted fs (plan_in fs) false
    a = marks-admitted s z

    readings : length (readings_in fs) ≤ 1024
    readings = rw (all-readings (plan_in fs) (length (readings_in fs)) a.readings) (readings-few (plan_in fs) a.plan)

    marks : length (marks_in fs) ≡ rows_in (plan_in fs)
    marks = rows-as-long (plan_in fs) (length (marks_in fs)) a.marks

    -- field 6 and the marks together take no more bytes than the most marks
    shorter : 4 * length (bodies 6 fs) + length (marks_in fs) ≤ 1024 → length s ≤ 5187
    shorter h =
        let few = sizes (plan_in fs) a.plan in
        omega (arith, span-of-sheet s a.fields, few.1, few.2, readings, h, readings-long (body_at 4 0 fs), four-whole s a.fields)

    by : (length (bodies 6 fs) ≡ 0) ⊎ (repeats_in fs ≡ 1 → ⊥) → length s ≤ 5187
    by (inl e) = shorter (omega (arith, e, marks, rows_few (plan_in fs) a.plan))
    by (inr h) = shorter (omega (arith, (counted fs a.fields).sixes, marks, rows-half (plan_in fs) a.plan h))

pub marks-last : (s : List ℕ) → marks_refused s ≡ 0 → Ends (marks_of s) s
unfolding marks_of
marks-last s z = rw (← (written_new (marks_refused s) (marks_in (fields_of s)) [] z)) (five-last s (marks-admitted s z).fields)
