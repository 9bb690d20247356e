-- A sheet that is written from a plan, readings and marks is read back as the same.
--
--   round_trip    both calls give the plan with 0 beyond its counts, the readings and the marks
--   same_back     and the plan itself where it has 0 there
--   all-bytes     the sheet that is written has bytes only
use Rattle.std.specs.Prelude.{◌≡◌, Bool, false, eqb, ltb, ℤ, nat_abs}
use Rattle.std.proofs.Math.Path.{refl, sym, ap}
use Rattle.std.proofs.Common.{◌∙◌, eq-eqb, le-ltb}
use Rattle.std.proofs.Math.Bool.{not}
use mathlib.Core.List.{List, [], ◌∷◌, ◌++◌}
use Prim.Native.Nat.{ℕ, ◌*◌, ◌%◌, ◌^◌, ◌≤◌, ◌<◌}
use native.Mathlib.Omega.{arith}
use Rattle.std.proofs.Math.ListN.{length, get_or, drop}
use Rattle.algebra.specs.Laws.Tests.{none}
use Rattle.contrasts.specs.Columns.{read}
use Rattle.plan.specs.declared.types.Plan.{Plan}
use Rattle.plan.specs.Plan.{factors_of, all_readings}
use Rattle.plan.specs.Limits.{reading_limit}
use Rattle.plan.proofs.Laws.Accepted.{sizes}
use Rattle.plan.proofs.Laws.Alike.{Alike, same-refused, same-factors, same-limit}
use Rattle.plan.proofs.Laws.Answers.{written_new}
use Rattle.plan.proofs.Laws.Limits.{reading-fits}
use Rattle.plan.proofs.Laws.Sizes.{readings-few, some-repeat}
use Rattle.columns.specs.Refusals.{wrong_readings}
use Rattle.columns.specs.Laws.Admitted.{all-within}
use Rattle.rows.specs.Kinds.{rows_in, wrong_rows}
use Rattle.rows.proofs.Laws.Rows.{rows_few, same-marks}
use Rattle.fields.specs.Fields.{Fields, end, field, fields_of, bodies, body_at}
use Rattle.fields.specs.Tags.{tag_rules, bad_from, any_wrong_count, bad_fields}
use Rattle.contents.specs.Contents.{plan_in, readings_of, readings_in, marks_in}
use Rattle.sheet.specs.Sheet.{sheet_refused, read_refused, no_plan, read_plan, read_column, marks_refused, marks_of}
use Rattle.sheet.specs.Laws.Admitted.{Admitted, admits}
use Rattle.sheet.specs.Laws.Marks.{small-marks, accepted-without}
use Rattle.writing.specs.Writer.{bytes, reading_bytes, added_body, block_body, repeats_fields, sheet_fields, sheet_of, settled}
use Rattle.writing.proofs.Laws.Back.{read_back}
use Rattle.writing.proofs.Laws.Each.{each-whole, each-fine}
use Rattle.writing.proofs.Laws.Heads.{sign_small, levels-small}
use Rattle.writing.proofs.Laws.Plans.{settled-alike, settled_same, six_bodies, After, Bodies, the_bodies, at_most_one, not-needless, plan-back}
use Rattle.writing.specs.RoundTrip.{Clean, AllBytes, Sheetable, ReadBack}
use Rattle.writing.proofs.Laws.Plain.{plain-append, plain-list, plain-bytes, plain-readings, plain-fields, plain-each}
use Rattle.writing.proofs.Laws.Readings.{reading-bytes-length, readings-back}

module _ {p : Plan} {xs : List ℤ} {marks : List ℕ} (g : Sheetable p xs marks) where
  abbrev fs : Fields
  fs = sheet_fields p xs marks

  abbrev last-fields : Fields
  last-fields = field 4 (reading_bytes xs) (field 5 marks end)

  after : After last-fields
  unfolding bodies
  after = record { no_ones = refl; no-twos = refl; no-threes = refl; no-sixes = refl }

  b : Bodies p last-fields
  b = the_bodies p last-fields after

  ones : bodies 1 fs ≡ (p.levels ∷ p.k ∷ []) ∷ []
  unfolding sheet_fields
  ones = b.ones

  sixes : bodies 6 fs ≡ six_bodies (eqb p.repeats 1) p.repeats
  unfolding sheet_fields
  sixes = b.sixes

  fours : bodies 4 fs ≡ reading_bytes xs ∷ []
  unfolding sheet_fields bodies
  fours = b.fours

  fives : bodies 5 fs ≡ marks ∷ []
  unfolding sheet_fields bodies
  fives = b.fives

  alike : Alike (settled p) p
  alike = let s = sizes p g.accepted in settled-alike p g.shaped s.1 s.2

  -- ---- the fields

  fields_back : fields_of (sheet_of p xs marks) ≡ fs
  unfolding sheet_of sheet_fields bytes
  fields_back =
      read_back fs (
        omega arith,
        each-whole 2 p.added (added_body p) _ (λ i. omega arith)
            (each-whole 3 p.blocks (block_body p) _ (λ i. omega arith)
            (each-whole 6 _ (λ i. p.repeats ∷ []) _ (λ i. omega arith)
            (omega (arith, reading-bytes-length xs, g.whole, readings-few p g.accepted), (omega (arith, g.rows, rows_few p g.accepted), tt)))),
      )

  last-two : (last : ℕ) → last ≤ 5 → bad_from last (field 4 (reading_bytes xs) (field 5 marks end)) ≡ false
  unfolding bad_from
  last-two last h =
      let e : (4 * length xs) % 4 ≡ 0 = omega arith in
      rw (le-ltb 5 last h, reading-bytes-length xs, e) refl

  last-three : (last : ℕ) → last ≤ 4 → bad_from last (repeats_fields p (field 4 (reading_bytes xs) (field 5 marks end))) ≡ false
  last-three last h = each-fine 6 _ (λ i. p.repeats ∷ []) _ (λ i. refl) (λ l k. last-two l (omega arith)) last h

  no-bad : bad_from 0 fs ≡ false
  unfolding bad_from sheet_fields bytes
  no-bad =
      each-fine 2 p.added (added_body p) _ (λ i. refl) (λ m h. each-fine 3 p.blocks (block_body p) _ (λ i. refl) (λ l k. last-three l (omega arith)) m (omega arith)) 1 (omega arith)

  counts-right : any_wrong_count tag_rules fs ≡ false
  counts-right = rw (ones, fours, fives, at_most_one fs p.repeats sixes) refl

  fine : bad_fields fs ≡ false
  unfolding bad_fields
  fine = none no-bad counts-right

  -- ---- what they say

  plan-is : plan_in fs ≡ settled p
  unfolding sheet_fields
  plan-is = plan-back p last-fields after g.shaped

  small : (j : ℕ) → nat_abs (read xs j) < 2 ^ 31
  small j = omega (arith, all-within (reading_limit p) xs g.within j, reading-fits p)

  readings-are : readings_in fs ≡ xs
  unfolding body_at
  readings-are = ap (λ bs. readings_of (get_or bs 0 [])) fours ∙ readings-back xs small

  marks-are : marks_in fs ≡ marks
  unfolding body_at
  marks-are = ap (λ bs. get_or bs 0 []) fives

  -- ---- that they are accepted

  readings-right : wrong_readings (settled p) (length xs) ≡ false
  unfolding wrong_readings settled factors_of
  readings-right = ap not (eq-eqb (length xs) (all_readings p) g.whole)

  rows_right : wrong_rows (settled p) (length marks) ≡ false
  unfolding wrong_rows settled
  rows_right = ap not (eq-eqb (length marks) (rows_in p) g.rows)

  asked : (narrow : Bool) → narrow ≡ false → Admitted fs (plan_in fs) narrow
  asked narrow w = record {
    fields = fine;
    plan = rw plan-is (same-refused alike ∙ g.accepted);
    needed = not-needless fs p.repeats sixes;
    wide = w;
    readings = rw (readings-are, plan-is) readings-right;
    marks = rw (marks-are, plan-is) rows_right;
    within = rw (readings-are, plan-is, same-limit alike) g.within;
    lawful = rw (marks-are, plan-is) (same-marks alike marks ∙ g.lawful);
  }

  refused-back : (room : ℕ) → read_refused (sheet_of p xs marks) room ≡ sheet_refused fs (ltb room (all_readings (plan_in fs)))
  unfolding read_refused
  refused-back room = ap (λ f. sheet_refused f (ltb room (all_readings (plan_in f)))) fields_back

  pub round_trip : (column : List ℤ) → all_readings p ≤ length column → ReadBack p xs marks column
  unfolding read_plan read_column marks_of
  round_trip column room =
      record {
        accepted = accepted;
        plan-read = sym (written_new number (plan_in (fields_of sheet)) no_plan accepted) ∙ ap plan_in fields_back ∙ plan-is;
        readings-read =
            sym (written_new number (readings_in (fields_of sheet) ++ drop (length (readings_in (fields_of sheet))) column) column accepted)
            ∙ rw (fields_back, readings-are) refl;
        marks-read = sym (written_new (marks_refused sheet) (marks_in (fields_of sheet)) [] (accepted-without sheet (length column) accepted)) ∙ ap marks_in fields_back ∙ marks-are;
      }
    where
      sheet : List ℕ
      sheet = sheet_of p xs marks

      number : ℕ
      number = read_refused sheet (length column)

      wide : ltb (length column) (all_readings (plan_in fs)) ≡ false
      wide = rw plan-is (le-ltb (length column) (all_readings (settled p)) (rw (same-factors alike, alike.repeats) room))

      accepted : number ≡ 0
      accepted = refused-back (length column) ∙ admits fs (plan_in fs) (ltb (length column) (all_readings (plan_in fs))) (asked (ltb (length column) (all_readings (plan_in fs))) wide)

  pub same_back : Clean p → (column : List ℤ) → all_readings p ≤ length column → read_plan (sheet_of p xs marks) (length column) ≡ p
  same_back c column room = (round_trip column room).plan-read ∙ settled_same p g.shaped c

  -- ---- bytes only

  pub all-bytes : AllBytes (sheet_of p xs marks)
  unfolding sheet_of sheet_fields
  all-bytes =
      plain-fields fs (
        omega arith,
        (levels-small p g.shaped g.accepted, (omega (arith, (sizes p g.accepted).0), tt)),
        plain-each 2 p.added (added_body p) _ (omega arith)
            (λ i h. plain-append (bytes 2 (get_or p.words i 0)) (get_or p.signs i 0 ∷ []) (plain-bytes 2 (get_or p.words i 0)) (sign_small p g.shaped g.accepted i h, tt))
            (plain-each 3 p.blocks (block_body p) _ (omega arith) (λ i h. plain-bytes 2 (get_or p.blockwords i 0))
            (plain-each 6 _ (λ i. p.repeats ∷ []) _ (omega arith) (λ i h. (omega (arith, (some-repeat p g.accepted).1), tt))
            (omega arith, plain-readings xs, (omega arith, plain-list marks (λ w h. omega (arith, small-marks p marks g.lawful w h)), tt)))),
      )
