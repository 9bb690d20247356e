-- What the table by its effects hands to the squares, the check and the sums, and the figures that it makes of what they give.
--
--   squares-ready                 the sum of squared readings
--   spread-ready                  the squares of readings about their run's mean
--   on-used                       a table on a column that one of them has used
--   column-long                   the column of totals is as long as the one that was lent
--   check-ready                   the check number
--   lengths-few, denominator-is   the denominator of runs made once, from the numbers of runs and rows
--   figures-ready, figures-made   the figures
use mathlib.Core.Path.{◌≡◌, refl, sym, ◌∙◌, ap}
use mathlib.Core.Bool.{cond}
use mathlib.Core.List.{List}
use Prim.Native.Nat.{ℕ, ◌-◌, ◌*◌, ◌^◌, ◌<◌, ◌≤◌}
use native.Mathlib.Nat.{one-mul, mul_comm, mul-le-mul_right}
use native.Mathlib.Decide.{ℕ_discrete}
use native.Mathlib.Omega.{arith}
use borrow.Author.Tests.{eq-eqb, ne_eqb}
use lib.Dec.{eqb}
use lib.IntN.{ℤ}
use lib.ListN.{length, replicate}
use Rattle.std.specs.List.{sum_by}
use Rattle.algebra.specs.Laws.Products.{mul-pow}
use Rattle.algebra.specs.Laws.Tab.{length-tab}
use Rattle.contrasts.specs.Columns.{read, totals_of, run_sums_in, squares_of}
use Rattle.contrasts.proofs.Factors.{of_levels}
use Rattle.contrasts.specs.Repeats.{within_runs}
use Rattle.contrasts.specs.Totals.{total, denominator}
use Rattle.contrasts.specs.Checks.{rounds}
use Rattle.contrasts.proofs.Laws.Divisors.{denominator-pos}
use Rattle.contrasts.proofs.Laws.Levels.{the-three}
use Rattle.contrasts.proofs.Laws.Repeats.{sums-least, within-is}
use Rattle.contrasts.proofs.Laws.ThreeLevels.{denominator-three}
use Rattle.contrasts.proofs.Laws.TwoLevels.{denominator-two}
use Rattle.plan.specs.declared.types.Plan.{Plan}
use Rattle.plan.specs.Limits.{reading_limit}
use Rattle.plan.specs.Plan.{factors_of, runs_of, all_readings, run_sums_of, denominator_of}
use Rattle.plan.proofs.Laws.Limits.{plan-rounds, reading-fits, numerator-fits}
use Rattle.plan.proofs.Laws.Sizes.{as-power, plan-kind, factors-two, factors-three, runs-few, readings-few, some-repeat}
use Rattle.rows.specs.Kinds.{rows_in, Kind, mean_row, blocks_row, error_row, kept_row}
use Rattle.rows.proofs.Laws.Rows.{rows_few}
use Rattle.walks.specs.declared.types.Sums.{Sums}
use Rattle.walks.specs.After.{sums_after}
use Rattle.anova.specs.declared.types.Figures.{Figures}
use Rattle.anova.specs.Inner.Effects.{effect_source, effect_figures}
use Rattle.anova.specs.Inner.Figures.{line_in, figures_from}
use Rattle.anova.specs.Inner.Ready.{RunSquares, Checkable, Joinable, Figurable}
use Rattle.anova.specs.Inner.Readings.{about_means, squared}
use Rattle.anova.proofs.Squared.{squares-summed}
use Rattle.anova.specs.Laws.Admitted.{TableReady, sums-ready}
use Rattle.anova.specs.Laws.After.{numerator-after-all, degrees-after-all, totals-after-all}
use Rattle.anova.specs.Laws.Within.{fit, effect-within, total-source-within, within-source-within, effect-error-within}
use Rattle.anova.specs.Table.{within_source, joined, total_source, checks_of}

module _ {p : Plan} {readings : List ℤ} {marks : List ℕ} {totals : List ℤ} {rows : List ℕ} (a : TableReady p readings marks totals rows) where
  abbrev sums : List ℤ
  sums = run_sums_of p readings

  some : 0 < p.repeats
  some = (some-repeat p a.plan).0

  -- ---- squares

  total-small : denominator_of p * squares_of readings < 2 ^ 63
  unfolding total_source
  total-small = omega (arith, (total-source-within a).numerator, numerator-fits p)

  -- the squares are no more than r times themselves, and these than the total
  repeated-small : p.repeats * squares_of readings < 2 ^ 63
  repeated-small =
      let d = mul-le-mul_right (p.repeats * squares_of readings) (denominator-pos (factors_of p)) in
      omega (arith, total-small, one-mul (p.repeats * squares_of readings), d)

  pub squares-ready : sum_by squared readings < 2 ^ 63
  squares-ready = rw (squares-summed readings) (omega (arith, repeated-small, one-mul (squares_of readings), mul-le-mul_right (squares_of readings) some))

  pub spread-ready : {s : ℕ} → s ≡ squares_of readings → RunSquares p.repeats s readings totals
  spread-ready e =
      record {
        few = (some-repeat p a.plan).1;
        whole = a.whole ∙ rw a.same refl;
        squares = e;
        all_fit = rw e repeated-small;
        sums-least = rw (e, a.same) (sums-least (factors_of p) p.repeats some readings a.whole);
      }

  pub on-used : {ts : List ℤ} → length ts ≡ length totals → TableReady p readings marks ts rows
  on-used e = record { plan = a.plan; whole = a.whole; same = e ∙ a.same; rows_long = a.rows_long; marks-long = a.marks-long; within = a.within }

  pub column-long : {ts : List ℤ} → ts ≡ totals_of (factors_of p) sums → length ts ≡ length totals
  unfolding totals_of
  column-long e = ap length e ∙ length-tab (runs_of p) (total (factors_of p) (read sums)) ∙ sym a.same

  -- ---- the check

  pub check-ready : Checkable p.levels p.k p.repeats readings totals
  check-ready =
      record {
        kind = plan-kind p a.plan;
        limit = reading_limit p;
        limit-fits = reading-fits p;
        rounds-roomy = λ h. plan-rounds p a.plan (the-three p.levels (plan-kind p a.plan) h);
        some = some;
        few = (some-repeat p a.plan).1;
        column-few = rw a.same (runs-few p a.plan);
        column-whole = as-power p a.plan a.same;
        whole = a.whole ∙ rw a.same refl;
        within = a.within;
      }

  -- ---- the denominator

  pub lengths-few : (length totals ≤ 1024) × (length rows ≤ 1024)
  lengths-few = (rw a.same (runs-few p a.plan), rw a.rows_long (rows_few p a.plan))

  pub denominator-is : {d : ℕ} → d ≡ cond (eqb p.levels 2) (length totals) (length totals * length rows) → d ≡ denominator (factors_of p)
  denominator-is h = h ∙ rw (a.same, a.rows_long) (by (ℕ_discrete p.levels 2))
    where
      power : runs_of p ≡ p.levels ^ p.k
      power = as-power p a.plan refl

      by : Dec (p.levels ≡ 2) → cond (eqb p.levels 2) (runs_of p) (runs_of p * rows_in p) ≡ denominator (factors_of p)
      by (yes h) = rw (eq-eqb p.levels 2 h, power, factors-two p h, h) (sym (denominator-two p.k))
      by (no h) =
          let l = the-three p.levels (plan-kind p a.plan) h in
          rw (ne_eqb p.levels 2 h, power, factors-three p l, l) (sym (mul-pow 3 2 p.k) ∙ sym (denominator-three p.k))

  -- ---- the figures

  module _ {d s w : ℕ} (once : d ≡ denominator (factors_of p)) (squares : s ≡ squares_of readings) (about : w ≡ about_means (length totals) p.repeats readings)
      {held : Sums} (made : held ≡ sums_after p (total (factors_of p) (read sums)) marks (runs_of p)) where
    over-is : d * p.repeats ≡ denominator_of p
    over-is = ap (λ n. n * p.repeats) once ∙ mul_comm (denominator (factors_of p)) p.repeats

    total-is : d * p.repeats * s ≡ denominator_of p * squares_of readings
    total-is = rw (over-is, squares) refl

    within-are : d * w ≡ within_runs (factors_of p) p.repeats (read readings)
    unfolding about_means
    within-are = rw (once, about, a.same) (sym (within-is (factors_of p) p.repeats some readings a.whole))

    line-is : (c : Kind) → line_in held c ≡ effect_source p sums marks c
    line-is c =
        let degrees-are : (line_in held c).degrees ≡ (effect_source p sums marks c).degrees = rw made (degrees-after-all p sums marks c) in
        let numerator-is : (line_in held c).numerator ≡ (effect_source p sums marks c).numerator = rw made (numerator-after-all p sums marks c) in
        λ i. record { degrees = degrees-are i; numerator = numerator-is i }

    join-ready : Joinable (line_in held error_row) (length totals) p.repeats (d * w)
    unfolding effect_figures joined within_source
    join-ready =
        rw (line-is error_row)
        (record {
          some = some;
          few = (some-repeat p a.plan).1;
          runs-few = lengths-few.0;
          degrees-fit = omega (arith, (effect-within (sums-ready a) marks error_row).degrees, numerator-fits p);
          numerator-fits = rw within-are (omega (arith, (effect-error-within a).numerator, numerator-fits p));
        })

    pub figures-ready : Figurable d (length totals) p.repeats s w held
    unfolding within_source
    figures-ready =
        record {
          over-fits = rw over-is (omega (arith, (fit (sums-ready a)).0, numerator-fits p));
          total-fits = rw total-is total-small;
          within-fits = rw within-are (omega (arith, (within-source-within a).numerator, numerator-fits p));
          readings-few = rw a.same (readings-few p a.plan);
          joinable = join-ready;
        }

    error-is : joined (line_in held error_row) (record { degrees = length totals * (p.repeats - 1); numerator = d * w })
        ≡ joined (effect_source p sums marks error_row) (within_source p readings)
    unfolding within_source
    error-is = rw (line-is error_row, a.same, within-are) refl

    pub figures-made : {f : Figures} {z : ℤ} → z ≡ rounds (replicate p.k (of_levels p.levels)) (read (run_sums_in (length totals) p.repeats readings))
        → f ≡ figures_from d (length totals) p.repeats s w held z → f ≡ effect_figures p readings marks
    unfolding figures_from effect_figures total_source checks_of factors_of
    figures-made {z = z} from e =
        let readings-are : z ≡ rounds (factors_of p) (read sums) = from ∙ rw a.same refl in
        let totals-are : held.totals ≡ (checks_of p sums).totals = rw made (totals-after-all p sums marks) in
        let runs-are : length totals * p.repeats ≡ all_readings p = rw a.same refl in
        e
        ∙ (λ i. record {
          denominator = over-is i;
          mean = line-is mean_row i;
          kept = line-is kept_row i;
          blocks = line-is blocks_row i;
          error = error-is i;
          total = record { degrees = runs-are i; numerator = total-is i };
          checks = record { totals = totals-are i; readings = readings-are i };
        })
