-- Both check numbers of a table (T21, T22), in the rules' own words, whatever readings and marks the table call accepts.
--
--   threes x                          a round: every successive set of three becomes one number
--   left_by k x                       what k rounds leave
--   Checked p readings totals c       what is claimed of the check numbers c, beside the totals that the call writes
--   CheckNumbers                      THE CLAIM
use Rattle.std.specs.Prelude.{◌≡◌, List, ℕ, zero, suc, ◌+◌, ◌*◌, ℤ, pos, ◌+ℤ◌, ◌*ℤ◌, ◌-ℤ◌}
use Rattle.algebra.specs.Sum.{Σ}
use Rattle.contrasts.specs.Columns.{read}
use Rattle.contrasts.specs.Repeats.{run_sums}
use Rattle.contrasts.specs.Totals.{Column}
use Rattle.plan.specs.declared.types.Plan.{Plan}
use Rattle.plan.specs.Plan.{runs_of, run_sums_of}
use Rattle.anova.specs.declared.types.Checks.{Checks}
use Rattle.anova.specs.Table.{table_refused, table_figures, table_totals}

-- T22: "each turning every successive set of three, in order, into 3 times first minus middle plus third"
abbrev pub threes : Column → Column
threes x q = pos 3 *ℤ x (q * 3) -ℤ x (q * 3 + 1) +ℤ x (q * 3 + 2)

-- T22: "what k rounds leave, [..] beginning with the readings"
unfoldable pub left_by : ℕ → Column → ℤ
left_by zero x = x 0
left_by (suc k) x = left_by k (threes x)

pub record Checked (p : Plan) (readings totals : List ℤ) (c : Checks) : Type 0 where
  -- the first is "the sum of totals", of those that the call writes
  pub sum : c.totals ≡ Σ (runs_of p) (read totals)
  -- T21, T22: the second is "N times the first reading at two levels. At three levels it is what k rounds leave"; T31: "worked from the run
  -- sums", of which the first is that of run 0
  pub two-levels : p.levels ≡ 2 → c.readings ≡ pos (runs_of p) *ℤ run_sums p.repeats (read readings) 0
  pub three-levels : p.levels ≡ 3 → c.readings ≡ left_by p.k (read (run_sums_of p readings))
  -- and the first is the second
  pub equal : c.totals ≡ c.readings

abbrev pub CheckNumbers : Type 0
CheckNumbers =
    (p : Plan) (readings : List ℤ) (marks : List ℕ) (totals : List ℤ) (rows : List ℕ)
    → table_refused p readings marks totals rows ≡ 0
    → Checked p readings (table_totals p readings marks totals rows) (table_figures p readings marks).checks
