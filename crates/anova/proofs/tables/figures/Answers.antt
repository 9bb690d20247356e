use mathlib.Core.Path.{refl, ◌∙◌}
use Prim.Native.Nat.{◌*◌}
use native.Mathlib.Omega.{arith}
use Rattle.algebra.proofs.Laws.Machine.{kept}
use Rattle.algebra.specs.Laws.Machine.{wrap}
use Rattle.std.proofs.Common.{◌≡◌, rules}
use Rattle.anova.specs.Inner.Figures.{figures_from}
use Rattle.anova.proofs.tables.figures.Goals as goal

pub join-requires : goal.join-requires
join-requires c = rw c.source-4.ensures c.requires.joinable

pub returns : goal.returns
unfolding figures_from
returns c =
    let error-is = c.join.ensures ∙ rw c.source-4.ensures refl in
    let totals-is : wrap c.args.sums.totals ≡ c.args.sums.totals = search rules in
    let check-is = kept c.args.check c.ranges.check.sfits in
    λ i. record {
      denominator = c.args.once * c.args.repeats;
      mean = c.source.ensures i;
      kept = c.source-2.ensures i;
      blocks = c.source-3.ensures i;
      error = error-is i;
      total = record { degrees = c.args.runs * c.args.repeats; numerator = c.args.once * c.args.repeats * c.args.squares };
      checks = record { totals = totals-is i; readings = check-is i };
    }
