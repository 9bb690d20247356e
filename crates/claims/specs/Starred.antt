-- C14: "The starred runs are proved as a single fact over a list of them": each run is stated by what the calls promise: whole answers, and every
-- slice that is lent to write (`Promised.antt`).
--
--   Sum, Divisors            figures that the rules name beside a table: the sum of squares; the divisors, by the rule and as the table has them
--   Said                     what a call gives, by the call
--   StarredRun               what the calls promise of a run, and what the rules say of it
--   source, both             a source with its degrees and numerator; two check numbers that are equal
--   tabled p readings marks  the table call, on slices that hold zeros
--   numerators_of p totals   the numerators of the effects with these totals
--   four_readings, .. , lost_factor   the starred runs, X1 to X8
--   starred_runs             all of them
--   Starred                  THE CLAIM
use Rattle.std.specs.Prelude.{◌≡◌, Bool, true, false, List, [], ◌∷◌, map, ℕ, ℤ, pos, length, get_or, take, replicate}
use Rattle.std.specs.Float.{fin}
use Rattle.algebra.specs.Naturals.{Σℕ}
use Rattle.algebra.specs.Tab.{tab}
use Rattle.contrasts.specs.Columns.{read, squares_of}
use Rattle.contrasts.specs.Codings.{neg}
use Rattle.contrasts.specs.Totals.{numerator_of}
use Rattle.plan.specs.declared.types.Plan.{Plan}
use Rattle.plan.specs.Examples.{plan, A, AB, BC, ABC, AD, BCD}
use Rattle.plan.specs.Outcome.{Outcome, given, refused}
use Rattle.plan.specs.Plan.{factors_of, runs_of, denominator_of, divisor_of}
use Rattle.plan.specs.Check.{confounded_accepted}
use Rattle.effects.specs.Effects.{effect_divisors}
use Rattle.rows.specs.Kinds.{Kind, mean_row, blocks_row, kept_row, rows_in, kind_of}
use Rattle.estimates.specs.Estimate.{Value, difference, lost}
use Rattle.anova.specs.declared.types.Source.{Source}
use Rattle.anova.specs.declared.types.Checks.{Checks}
use Rattle.promises.specs.Promised.{Tabled, promised_check, promised_alias, promised_table, promised_estimate}

-- ---- what a run is

-- the row numerators that a table writes, added up; its denominator; the sum of the squared readings
pub record Sum : Type 0 where
  pub rows : ℕ
  pub denominator : ℕ
  pub squares : ℕ

-- the divisors by the rule, by which numerators are defined, and those by which the table call divides
pub record Divisors : Type 0 where
  pub by_digits : List ℕ
  pub divided-by : List ℕ

pub data Said : Type 0 where
  check : Outcome Unit → Said
  confounded : Bool → Said
  table : Tabled → Said
  kinds : List Kind → Said
  numerators : List ℕ → Said
  sum : Sum → Said
  divisors : Divisors → Said
  estimate : Outcome Value → Said
  alias : Outcome (ℕ × Bool) → Said

pub record StarredRun : Type 0 where
  pub gives : List Said
  pub says : List Said

-- ---- what the calls promise

abbrev source : ℕ → ℕ → Source
source degrees numerator = record { degrees = degrees; numerator = numerator }

abbrev both : ℤ → Checks
both n = record { totals = n; readings = n }

abbrev tabled : Plan → List ℤ → List ℕ → Tabled
tabled p readings marks = promised_table p readings marks (replicate (runs_of p) (pos 0)) (replicate (rows_in p) 0)

-- T19: "A numerator is a total squared times (denominator over divisor)."
abbrev numerators_of : Plan → List ℤ → List ℕ
numerators_of p totals = tab (runs_of p) (λ e. numerator_of (factors_of p) e (read totals e))

abbrev sum_in : Plan → List ℤ → List ℕ → Sum
sum_in p readings rows = record {
  rows = Σℕ (length rows) (λ w. get_or rows w 0);
  denominator = denominator_of p;
  squares = squares_of readings;
}

-- ---- the runs

-- X1: "Readings 3, 5, 4, 8: totals 20, -6, -4, 2; numerators 400, 36, 16, 4; sum 456, which is 4 times 114; check 12."
abbrev four : Tabled
four = tabled (plan 2 2 [] [] []) (pos 3 ∷ pos 5 ∷ pos 4 ∷ pos 8 ∷ []) (replicate 4 0)

abbrev four_said : Tabled
four_said = record {
  answer = given (record {
    denominator = 4;
    mean = source 1 400;
    kept = source 3 56;
    blocks = source 0 0;
    error = source 0 0;
    total = source 4 456;
    checks = both (pos 12);
  });
  totals = pos 20 ∷ neg 6 ∷ neg 4 ∷ pos 2 ∷ [];
  rows = 400 ∷ 36 ∷ 16 ∷ 4 ∷ [];
}

abbrev four_readings : StarredRun
four_readings = record {
  gives = table four
      ∷ numerators (numerators_of (plan 2 2 [] [] []) four.totals)
      ∷ sum (sum_in (plan 2 2 [] [] []) (pos 3 ∷ pos 5 ∷ pos 4 ∷ pos 8 ∷ []) four.rows)
      ∷ [];
  says = table four_said
      ∷ numerators (400 ∷ 36 ∷ 16 ∷ 4 ∷ [])
      ∷ sum (record { rows = 456; denominator = 4; squares = 114 })
      ∷ [];
}

-- X2: "Three levels, 2, 5, 3: totals 10, -1, -5; numerators 200, 3, 25; row A 28 with 2 degrees; check 4." Row A is the one row that is kept.
abbrev three_readings : Tabled
three_readings = tabled (plan 3 1 [] [] []) (pos 2 ∷ pos 5 ∷ pos 3 ∷ []) (replicate 2 0)

abbrev three_said : Tabled
three_said = record {
  answer = given (record {
    denominator = 6;
    mean = source 1 200;
    kept = source 2 28;
    blocks = source 0 0;
    error = source 0 0;
    total = source 3 228;
    checks = both (pos 4);
  });
  totals = pos 10 ∷ neg 1 ∷ neg 5 ∷ [];
  rows = 200 ∷ 28 ∷ [];
}

abbrev three_levels : StarredRun
three_levels = record {
  gives = table three_readings ∷ numerators (numerators_of (plan 3 1 [] [] []) three_readings.totals) ∷ [];
  says = table three_said ∷ numerators (200 ∷ 3 ∷ 25 ∷ []) ∷ [];
}

-- X3: "Readings 1 to 8, block word ABC: totals 36, -4, -8, 0, -16, 0, 0, 0; row ABC is blocks." So its degree is one of blocks, its effect is lost,
-- and a mark on it is refused.
abbrev eight_readings : List ℤ
eight_readings = pos 1 ∷ pos 2 ∷ pos 3 ∷ pos 4 ∷ pos 5 ∷ pos 6 ∷ pos 7 ∷ pos 8 ∷ []

abbrev eight : Tabled
eight = tabled (plan 2 3 [] [] (ABC ∷ [])) eight_readings (replicate 8 0)

abbrev eight_said : Tabled
eight_said = record {
  answer = given (record {
    denominator = 8;
    mean = source 1 1296;
    kept = source 6 336;
    blocks = source 1 0;
    error = source 0 0;
    total = source 8 1632;
    checks = both (pos 8);
  });
  totals = pos 36 ∷ neg 4 ∷ neg 8 ∷ pos 0 ∷ neg 16 ∷ pos 0 ∷ pos 0 ∷ pos 0 ∷ [];
  rows = 1296 ∷ 16 ∷ 64 ∷ 0 ∷ 256 ∷ 0 ∷ 0 ∷ 0 ∷ [];
}

abbrev in_blocks : StarredRun
in_blocks = record {
  gives = table eight
      ∷ kinds (tab 8 (kind_of (plan 2 3 [] [] (ABC ∷ [])) (replicate 8 0)))
      ∷ estimate (promised_estimate (plan 2 3 [] [] (ABC ∷ [])) ABC (read eight.totals ABC))
      ∷ table (tabled (plan 2 3 [] [] (ABC ∷ [])) eight_readings (0 ∷ 0 ∷ 0 ∷ 0 ∷ 0 ∷ 0 ∷ 0 ∷ 1 ∷ []))
      ∷ [];
  says = table eight_said
      ∷ kinds (mean_row ∷ kept_row ∷ kept_row ∷ kept_row ∷ kept_row ∷ kept_row ∷ kept_row ∷ blocks_row ∷ [])
      ∷ estimate (given lost)
      ∷ table (record { answer = refused 13; totals = replicate 8 (pos 0); rows = replicate 8 0 })
      ∷ [];
}

-- X4: "k = 1, -100,000 and 100,000: totals 0, -200,000"; "The k = 1 reference difference becomes 200,000." The difference is that of the total
-- which the table writes; 3,125 times 2 to the power 6 is 200,000.
abbrev two_readings : Tabled
two_readings = tabled (plan 2 1 [] [] []) (neg 100_000 ∷ pos 100_000 ∷ []) (replicate 2 0)

abbrev two_said : Tabled
two_said = record {
  answer = given (record {
    denominator = 2;
    mean = source 1 0;
    kept = source 1 40_000_000_000;
    blocks = source 0 0;
    error = source 0 0;
    total = source 2 40_000_000_000;
    checks = both (neg 200_000);
  });
  totals = pos 0 ∷ neg 200_000 ∷ [];
  rows = 0 ∷ 40_000_000_000 ∷ [];
}

abbrev one_factor : StarredRun
one_factor = record {
  gives = table two_readings ∷ estimate (promised_estimate (plan 2 1 [] [] []) A (read two_readings.totals A)) ∷ [];
  says = table two_said ∷ estimate (given (difference (fin false 3125 (pos 6)))) ∷ [];
}

-- X5: "k = 3, D = ABC: AD reduces to BC, unturned; with sign 1, turned."
abbrev reduced : StarredRun
reduced = record {
  gives = alias (promised_alias (plan 2 3 (ABC ∷ []) (0 ∷ []) []) AD) ∷ alias (promised_alias (plan 2 3 (ABC ∷ []) (1 ∷ []) []) AD) ∷ [];
  says = alias (given (BC, false)) ∷ alias (given (BC, true)) ∷ [];
}

-- X6: "Two three-level factors: divisors 9, 6, 18, 6, 4, 12, 18, 12, 36."
abbrev nine : List ℕ
nine = 9 ∷ 6 ∷ 18 ∷ 6 ∷ 4 ∷ 12 ∷ 18 ∷ 12 ∷ 36 ∷ []

abbrev divisors_in : Plan → Divisors
divisors_in p = record { by_digits = tab (runs_of p) (divisor_of p); divided-by = take (runs_of p) (effect_divisors p) }

abbrev nine_divisors : StarredRun
nine_divisors = record {
  gives = divisors (divisors_in (plan 3 2 [] [] [])) ∷ [];
  says = divisors (record { by_digits = nine; divided-by = nine }) ∷ [];
}

-- X7: "k = 4, block words AD, ABC: accepted, BCD confounded too.": its estimate is lost, as those of the block words are
abbrev two_block_words : Plan
two_block_words = plan 2 4 [] [] (AD ∷ ABC ∷ [])

abbrev combination : StarredRun
combination = record {
  gives = check (promised_check two_block_words)
      ∷ estimate (promised_estimate two_block_words AD (pos 0))
      ∷ estimate (promised_estimate two_block_words ABC (pos 0))
      ∷ estimate (promised_estimate two_block_words BCD (pos 0))
      ∷ confounded (confounded_accepted two_block_words BCD)
      ∷ [];
  says = check (given tt) ∷ estimate (given lost) ∷ estimate (given lost) ∷ estimate (given lost) ∷ confounded true ∷ [];
}

-- X8: the small inputs of N7 and N8, AB with AB and AB with ABC, with k = 3
abbrev lost_factor : StarredRun
lost_factor = record {
  gives = check (promised_check (plan 2 3 [] [] (AB ∷ AB ∷ []))) ∷ check (promised_check (plan 2 3 [] [] (AB ∷ ABC ∷ []))) ∷ [];
  says = check (refused 7) ∷ check (refused 8) ∷ [];
}

abbrev pub starred_runs : List StarredRun
starred_runs = four_readings ∷ three_levels ∷ in_blocks ∷ one_factor ∷ reduced ∷ nine_divisors ∷ combination ∷ lost_factor ∷ []

-- ---- the claim

abbrev pub Starred : Type 0
Starred = map (λ r. r.gives) starred_runs ≡ map (λ r. r.says) starred_runs
