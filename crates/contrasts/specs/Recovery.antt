-- Readings back from totals, over any list of factors.
--
--   back_sum Fs t r       the totals, each times its weight and its coefficient for run r, added up
--   readings_back Fs ts   the column of these sums over the denominator
--   no_readings Fs M ts   that column is no column of readings within M that have the totals ts
use Rattle.std.specs.Prelude.{Bool, not, ◌||◌, List, ℕ, ltb, ℤ, pos, nat_abs, ◌*ℤ◌}
use Rattle.std.specs.Int.Signed.{quot_z}
use Rattle.algebra.specs.Search.{some}
use Rattle.algebra.specs.Sum.{Σ}
use Rattle.algebra.specs.Tab.{tab}
use Rattle.algebra.specs.Tests.{eq_z}
use Rattle.contrasts.specs.Columns.{read}
use Rattle.contrasts.specs.Factor.{Factor}
use Rattle.contrasts.specs.Totals.{Column, size, coef*, total, denominator, weight*}

-- T32: of the totals of readings this is the denominator times the reading of run r (law `recover`, Laws/Recovery.antt)
unfoldable pub back_sum : List Factor → Column → Column
back_sum Fs t r = Σ (size Fs) (λ e. pos (weight* Fs e) *ℤ (t e *ℤ coef* Fs e r))

-- T32: "Given a plan and N totals, write the N readings."; a quotient that is not whole is cut off, and then the column has other totals
unfoldable pub readings_back : List Factor → List ℤ → List ℤ
readings_back Fs ts = tab (size Fs) (λ r. quot_z (back_sum Fs (read ts) r) (pos (denominator Fs)))

-- N14, of N totals: "no such readings exist", none "within the limit [..] that have those totals": of the one column that could be it, at some place the
-- reading is beyond the limit, or the total is another
unfoldable pub no_readings : List Factor → ℕ → List ℤ → Bool
no_readings Fs M ts =
    some (size Fs) (λ i. ltb M (nat_abs (read (readings_back Fs ts) i)) || not (eq_z (total Fs (read (readings_back Fs ts)) i) (read ts i)))
