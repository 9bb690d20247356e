use mathlib.Core.Path.{◌≡◌, refl, sym, ◌∙◌}
use mathlib.Core.Bool.{false}
use Rattle.plan.specs.Check.{bad_levels, bad_factors, run_count}
use Rattle.plan.proofs.Laws.Accepted.{levels-known, levels-small, factors-known, at-most-ten}
use Rattle.plan.proofs.Laws.Sizes.{runs-power}
use Rattle.algebra.specs.Laws.Tests.{is}
use Rattle.plan.proofs.counts.runs.Goals as goal

pub returns-then-bad_levels : goal.returns-then-bad_levels
unfolding run_count
returns-then-bad_levels c = rw (is c.bad_levels.ensures c.if-bad_levels.true) refl

pub returns-then-bad_factors : goal.returns-then-bad_factors
unfolding run_count
returns-then-bad_factors c =
    let levels-fine : bad_levels c.args.p.levels ≡ false = is c.bad_levels.ensures c.if-bad_levels.false in
    rw (levels-fine, is c.bad_factors.ensures c.if-bad_factors.true) refl

pub to_the_power-requires : goal.to_the_power-requires
unfolding run_count
to_the_power-requires c =
    let levels-fine : bad_levels c.args.p.levels ≡ false = is c.bad_levels.ensures c.if-bad_levels.false in
    let factors-fine : bad_factors c.args.p.levels c.args.p.k ≡ false = is c.bad_factors.ensures c.if-bad_factors.false in
    (levels-small _ levels-fine, at-most-ten _ (factors-known _ _ factors-fine).1)

pub returns : goal.returns
unfolding run_count
returns c =
    let levels-fine : bad_levels c.args.p.levels ≡ false = is c.bad_levels.ensures c.if-bad_levels.false in
    let factors-fine : bad_factors c.args.p.levels c.args.p.k ≡ false = is c.bad_factors.ensures c.if-bad_factors.false in
    let fine = levels-fine in
    rw (fine, factors-fine) (c.to_the_power.ensures ∙ sym (runs-power _ (levels-known _ fine)))
