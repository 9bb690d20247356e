use mathlib.Core.Path.{◌≡◌, refl, sym, ◌∙◌}
use mathlib.Core.Bool.{false}
use native.Mathlib.Omega.{arith}
use borrow.Author.Tests.{le-leb, lt-leb}
use Rattle.plan.specs.Check.{bad_levels, bad_factors, spacing_at}
use Rattle.plan.proofs.Laws.Accepted.{levels-known, levels-small, factors-known, at-most-ten}
use Rattle.plan.proofs.Laws.Sizes.{spacing-power}
use Rattle.algebra.specs.Laws.Tests.{is}
use Rattle.plan.proofs.counts.spacing.Goals as goal

pub returns-then-bad_levels : goal.returns-then-bad_levels
unfolding spacing_at
returns-then-bad_levels c = rw (is c.bad_levels.ensures c.if-bad_levels.true) refl

pub returns-then-bad_factors : goal.returns-then-bad_factors
unfolding spacing_at
returns-then-bad_factors c =
    let levels-fine : bad_levels c.args.p.levels ≡ false = is c.bad_levels.ensures c.if-bad_levels.false in
    rw (levels-fine, is c.bad_factors.ensures c.if-bad_factors.true) refl

pub returns-then-p-factor : goal.returns-then-p-factor
unfolding spacing_at
returns-then-p-factor c =
    let levels-fine : bad_levels c.args.p.levels ≡ false = is c.bad_levels.ensures c.if-bad_levels.false in
    let factors-fine : bad_factors c.args.p.levels c.args.p.k ≡ false = is c.bad_factors.ensures c.if-bad_factors.false in
    rw (levels-fine, factors-fine, le-leb _ _ c.if-p-factor.true) refl

pub to_the_power-requires : goal.to_the_power-requires
unfolding spacing_at
to_the_power-requires c =
    let factors-fine : bad_factors c.args.p.levels c.args.p.k ≡ false = is c.bad_factors.ensures c.if-bad_factors.false in
    let levels-fine : bad_levels c.args.p.levels ≡ false = is c.bad_levels.ensures c.if-bad_levels.false in
    let few = at-most-ten _ (factors-known _ _ factors-fine).1 in
    (levels-small _ levels-fine, omega (arith, c.if-p-factor.false, few))

pub returns : goal.returns
unfolding spacing_at
returns c =
    let levels-fine : bad_levels c.args.p.levels ≡ false = is c.bad_levels.ensures c.if-bad_levels.false in
    let factors-fine : bad_factors c.args.p.levels c.args.p.k ≡ false = is c.bad_factors.ensures c.if-bad_factors.false in
    let fine = levels-fine in
    let a-base = c.if-p-factor.false in
    rw (fine, factors-fine, lt-leb _ _ a-base) (c.to_the_power.ensures ∙ sym (spacing-power _ _ (levels-known _ fine) a-base))
