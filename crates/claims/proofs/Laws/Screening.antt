-- That the claims of `Screening.antt` hold.
--
--   reduces, reduced-is        the base word of an effect of a plan's letters, and that it is the alias call's
--   meet-true, meet-there      two effects meet by the alias call exactly where they do by the definition
--   marked-true, marked-there  and so a main effect is marked
--   screened                   what the screening call answers and leaves
--   zeros-answered             the call answers readings of 0 without a mark
--   screening, admits, above-three     the proofs
use Rattle.std.specs.Prelude.{◌≡◌, ◌⊎◌, Bool, true, false, cond, List, ℕ, ◌+◌, ◌^◌, ◌<◌, eqb, ℤ, pos, length, get_or, replicate}
use Rattle.std.proofs.Math.Path.{refl, sym, ap}
use Rattle.std.proofs.Common.{◌∙◌, subst, inl, inr, pow-suc, arith, pow_mono}
use Rattle.std.proofs.Math.Bool.{true≢false}
use Rattle.std.proofs.Math.Decide.{dec_lt}
use borrow.Author.Tests.{eq-eqb, ne_eqb, eqb-true}
use Rattle.std.proofs.lemmas.List.{length-replicate, get_or-replicate}
use Rattle.std.proofs.Math.Pow.{pow-lt}
use Rattle.algebra.specs.Laws.Search.{some-false}
use Rattle.algebra.specs.Laws.Tab.{get_d_past}
use Rattle.algebra.specs.Laws.Tests.{fails}
use Rattle.words.specs.Laws.Letters.{beyond-none}
use Rattle.plan.specs.declared.types.Plan.{Plan}
use Rattle.plan.specs.Check.{plan_refused}
use Rattle.plan.specs.Outcome.{given, refused, outcome}
use Rattle.plan.specs.Limits.{reading_limit}
use Rattle.plan.specs.Plan.{all_letters, runs_of, all_readings}
use Rattle.plan.proofs.Laws.Accepted.{accepted, sizes}
use Rattle.plan.proofs.Laws.Answers.{given-with, refused-with, given_is, refused-is, plan-first, plan-passed, unwritten}
use Rattle.aliases.specs.Alias.{alias_refused, alias_values}
use Rattle.aliases.specs.Laws.Counted.{alias-two}
use Rattle.columns.specs.Laws.Admitted.{none-beyond}
use Rattle.rows.specs.Kinds.{rows_in, bad_mark, bad_marks}
use Rattle.anova.specs.declared.types.Figures.{Figures}
use Rattle.anova.specs.Table.{table_refusals, table_refused, table_figures, table_totals, table_rows}
use Rattle.anova.specs.Laws.Admitted.{table-admits}
use Rattle.screening.specs.Screening.{main_word, meet, marked_main, screen_refusals, screen_refused, screen_totals, screen_rows}
use Rattle.screening.proofs.Laws.Admitted.{table-made, by-table}
use Rattle.screening.proofs.Laws.Meeting as test
use Rattle.screening.proofs.Laws.Resolution as three
use Rattle.promises.specs.Promised.{Tabled, promised_check, promised_table, promised_screen}
use Rattle.claims.specs.Screening.{ReducesTo, Meet, MarkedMain, Screens, Admitted, Admits, Screened, Screening, ThreeCombine, AboveThree}

-- ---- base words by the alias call

pub reduced-is : (p : Plan) (e w : ℕ) → ReducesTo p e w → w ≡ (alias_values p e).0
reduced-is p e w r = ap (λ (v : ℕ × Bool). v.0) (given_is (alias_refused p e) (alias_values p e) (sym r.1)).1

-- the letters of two factors, and of three, are of the plan
two-below : {i j n : ℕ} → i < j → j < n → 2 ^ i + 2 ^ j < 2 ^ n
two-below {j = j} h g = omega (arith, pow-lt h, pow-suc 2 j, pow_mono g)

three-below : {i j l n : ℕ} → i < j → j < l → l < n → 2 ^ i + 2 ^ j + 2 ^ l < 2 ^ n
three-below {l = l} h g f = omega (arith, two-below h g, pow-suc 2 l, pow_mono f)

meet-true : (p : Plan) → Meet p → meet p ≡ true
meet-true p (m, i, j, s) =
    let w = s.same.0 in
    test.meets p m i j (record {
      main = s.main;
      pair = s.pair;
      same = sym (reduced-is p (2 ^ m) w s.same.1) ∙ reduced-is p (2 ^ i + 2 ^ j) w s.same.2;
    })

marked-true : (p : Plan) (marks : List ℕ) → MarkedMain p marks → marked_main p marks ≡ true
marked-true p marks (m, w, s) =
    test.marked_by p marks m (record { factor = s.main; mark = ap (λ (v : ℕ). get_or marks v 0) (sym (reduced-is p (2 ^ m) w s.word)) ∙ s.mark })

-- an accepted plan of two levels
module _ (p : Plan) (ok : plan_refused p ≡ 0) (two : p.levels ≡ 3 → ⊥) where
  pub reduces : (e : ℕ) → e < 2 ^ all_letters p → ReducesTo p e (alias_values p e).0
  reduces e h =
      ((alias_values p e).1, given-with (alias_refused p e) (alias_values p e) (alias-two p e ok two ∙ rw (beyond-none (all_letters p) e h) refl))

  meet-there : meet p ≡ true → Meet p
  meet-there e =
      let s = test.met p e in
      let m = s.0 in
      let i = s.1 in
      let j = s.2 in
      let t = s.3 in
      let pair = reduces (2 ^ i + 2 ^ j) (two-below t.pair.0 t.pair.1) in (
        m,
        i,
        j,
        record {
          main = t.main;
          pair = t.pair;
          same = (main_word p m, reduces (2 ^ m) (pow-lt t.main), subst (ReducesTo p (2 ^ i + 2 ^ j)) (sym t.same) pair);
        },
      )

  marked-there : (marks : List ℕ) → marked_main p marks ≡ true → MarkedMain p marks
  marked-there marks e =
      let s = test.marked-at p marks e in
      let m = s.0 in
      (m, main_word p m, record { main = s.1.factor; word = reduces (2 ^ m) (pow-lt s.1.factor); mark = s.1.mark })

-- ---- the plan check

ok-by : (p : Plan) → promised_check p ≡ given tt → plan_refused p ≡ 0
ok-by p e = (given_is (plan_refused p) tt (sym e)).0

two-levels : (p : Plan) → plan_refused p ≡ 0 → (p.levels ≡ 3 → ⊥) → p.levels ≡ 2
two-levels p ok h = by (accepted p ok).levels
  where
    by : (p.levels ≡ 2) ⊎ (p.levels ≡ 3) → p.levels ≡ 2
    by (inl e) = e
    by (inr e) = absurd (h e)

not_three : (p : Plan) → p.levels ≡ 2 → p.levels ≡ 3 → ⊥
not_three p two e = omega (arith, two, e)

-- ---- the screening call

module _ (p : Plan) (readings : List ℤ) (marks : List ℕ) (totals : List ℤ) (rows : List ℕ) where
  abbrev number : ℕ
  number = screen_refused p readings marks totals rows

  abbrev of-table : ℕ
  of-table = table_refused p readings marks totals rows

  abbrev figures : Figures
  figures = table_figures p readings marks

  -- the number of a plan that the profile admits
  of-screens : Screens p → number ≡ cond (eqb of-table 0) (cond (marked_main p marks) 13 0) of-table
  of-screens s =
      let ok = ok-by p s.accepted in
      let levels = not_three p s.two in
      by-table p readings marks totals rows ok
      ∙ rw (fails (meet p) (λ e. s.nothing-meets (meet-there p ok levels e)), ne_eqb p.levels 3 levels) refl

  table-stops : Screens p → (n : ℕ) → (promised_table p readings marks totals rows).answer ≡ refused n
      → (promised_screen p readings marks totals rows).answer ≡ refused n
  table-stops s n e =
      let t = refused-is of-table figures (sym e) in
      let is : number ≡ of-table = of-screens s ∙ rw (ne_eqb of-table 0 t.1) refl in
      ap (λ (m : ℕ). outcome m figures) is ∙ e

  same_number : Screens p → (MarkedMain p marks → ⊥) → number ≡ of-table
  same_number s h =
      let ok = ok-by p s.accepted in
      let none = fails (marked_main p marks) (λ e. h (marked-there p ok (not_three p s.two) marks e)) in
      of-screens s ∙ rw none (own of-table)
    where
      own : (t : ℕ) → cond (eqb t 0) 0 t ≡ t
      own t = by (eqb t 0) refl
        where
          by : (b : Bool) → eqb t 0 ≡ b → cond b 0 t ≡ t
          by true e = sym (eqb-true t 0 e)
          by false e = refl

  whole : number ≡ of-table → promised_screen p readings marks totals rows ≡ promised_table p readings marks totals rows
  unfolding screen_totals screen_rows table_totals table_rows
  whole e = rw e refl

  answers : (f : Figures) → (promised_screen p readings marks totals rows).answer ≡ given f
      → Screens p × (MarkedMain p marks → ⊥) × ((promised_table p readings marks totals rows).answer ≡ given f)
  unfolding table_refused
  answers f e =
      let z = given_is number figures (sym e) in
      let a = table-made p readings marks totals rows z.0 in
      let ok = (plan-passed p (table_refusals p readings marks totals rows) a.made).0 in (
        record {
          two = two-levels p ok a.not_three;
          accepted = given-with (plan_refused p) tt ok;
          nothing-meets = λ s. true≢false (sym (meet-true p s) ∙ a.nothing-meets);
        },
        λ s. true≢false (sym (marked-true p marks s) ∙ a.none-marked),
        given-with of-table figures a.made ∙ ap given (sym z.1),
      )

  meets-nothing : plan_refused p ≡ 0 → p.levels ≡ 3 → meet p ≡ false
  meets-nothing ok e =
      let none = ((accepted p ok).counts.2 e).0 in
      test.whole-none p (omega (arith, (sizes p ok).0)) none

  stops : {n : ℕ} → (n ≡ 0 → ⊥) → number ≡ n → (promised_screen p readings marks totals rows).answer ≡ refused n
  stops {n} h e = ap (λ (m : ℕ). outcome m figures) e ∙ refused-with n figures h

  pub screened : Screened p readings marks totals rows
  unfolding screen_refused screen_totals screen_rows
  screened = record {
    only = answers;
    ordinary = λ s h. whole (same_number s h);
    marked = λ s h f e.
        let t = (given_is of-table figures (sym e)).0 in
        stops (λ z. omega (arith, z)) (of-screens s ∙ rw (t, marked-true p marks h) refl);
    table-refusals = table-stops;
    plan-first = λ n e.
        let t = refused-is (plan_refused p) tt (sym e) in
        let other : n ≡ 0 → ⊥ = λ z. t.1 (sym t.0 ∙ z) in
        stops other (sym (plan-first p (screen_refusals p readings marks totals rows) t.0 other));
    meeting = λ e s. stops (λ z. omega (arith, z)) (by-table p readings marks totals rows (ok-by p e) ∙ rw (meet-true p s) refl);
    three-levels = λ e l.
        let ok = ok-by p e in
        stops (λ z. omega (arith, z)) (by-table p readings marks totals rows ok ∙ rw (meets-nothing ok l, eq-eqb p.levels 3 l) refl);
    unwritten = λ n e.
        let other = (refused-is number figures (sym e)).1 in
        (sym (unwritten number _ totals other), sym (unwritten number _ rows other));
  }

pub screening : Screening
screening = screened

-- ---- the plans that are admitted

module _ (p : Plan) (s : Screens p) where
  abbrev readings : List ℤ
  readings = replicate (all_readings p) (pos 0)

  -- totals and rows may hold anything
  abbrev totals : List ℤ
  totals = replicate (runs_of p) (pos 0)

  abbrev unmarked : List ℕ
  unmarked = replicate (rows_in p) 0

  -- a place past the end reads 0 too
  reads-zero : {A : Type 0} (n i : ℕ) (a : A) → get_or (replicate n a) i a ≡ a
  reads-zero n i a = by (dec_lt i n)
    where
      by : Dec (i < n) → get_or (replicate n a) i a ≡ a
      by (yes h) = get_or-replicate n i a a h
      by (no h) = get_d_past a (replicate n a) i (omega (arith, length-replicate n a))

  zeros-answered : table_refused p (replicate (all_readings p) (pos 0)) (replicate (rows_in p) 0) (replicate (runs_of p) (pos 0)) (replicate (rows_in p) 0) ≡ 0
  unfolding bad_marks bad_mark
  zeros-answered =
      table-admits p readings unmarked totals unmarked (ok-by p s.accepted) (length-replicate (all_readings p) (pos 0)) (length-replicate (runs_of p) (pos 0))
      (length-replicate (rows_in p) 0) (length-replicate (rows_in p) 0)
      (none-beyond (reading_limit p) readings (λ i. rw (reads-zero (all_readings p) i (pos 0)) (omega arith)))
      (some-false (length unmarked) _ (λ w h. rw (reads-zero {A = ℕ} (rows_in p) w 0) refl))

  none-marked : MarkedMain p (replicate (rows_in p) 0) → ⊥
  none-marked (m, w, t) = omega (arith, t.mark, reads-zero {A = ℕ} (rows_in p) w 0)

pub admits : Admits
admits p = (λ (readings, marks, totals, rows, f, e). (answers p readings marks totals rows f e).0, λ s. made s)
  where
    made : Screens p → Admitted p
    made s = (
      readings p s,
      unmarked p s,
      totals p s,
      unmarked p s,
      table_figures p (readings p s) (unmarked p s),
      ap (λ (t : Tabled). t.answer) ((screened p (readings p s) (unmarked p s) (totals p s) (unmarked p s)).ordinary s (none-marked p s))
          ∙ given-with (table_refused p (readings p s) (unmarked p s) (totals p s) (unmarked p s)) (table_figures p (readings p s) (unmarked p s)) (zeros-answered p s),
    )

-- ---- resolution above III

pub above-three : AboveThree
above-three p e two = (to, from)
  where
    ok : plan_refused p ≡ 0
    ok = ok-by p e

    levels : p.levels ≡ 3 → ⊥
    levels = not_three p two

    same : meet p ≡ three.three_combine p
    same = three.meet-three p (accepted p ok)

    to : Meet p → ThreeCombine p
    to s =
        let c = three.combined-at p (sym same ∙ meet-true p s) in
        let i = c.0 in
        let j = c.1 in
        let l = c.2 in
        let t = c.3 in
        let e = 2 ^ i + 2 ^ j + 2 ^ l in (
          i,
          j,
          l,
          record {
            factors = t.factors;
            nothing = subst (ReducesTo p e) t.nothing (reduces p ok levels e (three-below t.factors.0 t.factors.1 t.factors.2));
          },
        )

    from : ThreeCombine p → Meet p
    from (i, j, l, s) =
        meet-there p ok levels
        (same ∙ three.combined-by p i j l (record { factors = s.factors; nothing = sym (reduced-is p (2 ^ i + 2 ^ j + 2 ^ l) 0 s.nothing) }))
