use Rattle.std.proofs.Common.{◌≡◌, ◌≤◌, ℕ, take}
use Rattle.worked.specs.Columns.{kept_from}
use Rattle.worked.proofs.columns.kept.Given as goal

-- The places so far are counted.
abbrev pub invariant-loop-place : goal.invariant-loop-place
invariant-loop-place g l =
    (l.n ≤ l.place)
    × ((f : ℕ → g.row.T.Denot) → ((place : ℕ) (value : g.row.T.Denot) → g.F.Fn.post l.before (place, tt) value → value ≡ f place) → l.n ≡ kept_from g.T.PartialEq.eq f 0 (take l.place l.column))
