use Rattle.std.proofs.Common.{◌≡◌, ◌<◌, ℤ, take}
use Rattle.worked.specs.Columns.{checksum_of}
use Rattle.worked.proofs.columns.checksum.Given as goal

-- The values so far are added.
abbrev pub invariant-loop-value : goal.invariant-loop-value
invariant-loop-value g l =
    (l.sum < l.modulus)
    × ((whole : g.row.T.Denot → ℤ) → ((value : g.row.T.Denot) (n : ℤ) → g.T.Into.converts value n → n ≡ whole value) → l.sum ≡ checksum_of whole l.factor l.modulus (take l.value-index l.values))
