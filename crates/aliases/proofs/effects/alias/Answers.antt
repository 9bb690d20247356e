use Rattle.std.proofs.Common.{refl, sym, ap, ◌∙◌, length, ◌+◌}
use Rattle.plan.proofs.Laws.Accepted.{sizes}
use Rattle.plan.proofs.Laws.Answers.{after-plan}
use Rattle.algebra.specs.Laws.Tests.{is}
use Rattle.words.specs.Words.{beyond}
use Rattle.aliases.specs.Alias.{alias_refused}
use Rattle.aliases.specs.Laws.Counted.{alias-two}
use Rattle.aliases.proofs.effects.alias.Goals as goal

pub returns-then-p-eq3 : goal.returns-then-p-eq3
unfolding alias_refused
returns-then-p-eq3 c = rw (after-plan _ _ (sym c.in_ok-check.ensures.number), c.if-p-eq3.true) refl

pub returns-then-has_beyond : goal.returns-then-has_beyond
returns-then-has_beyond c =
    let p = c.args.p in
    let far = c.has_beyond.ensures ∙ ap (λ ws. beyond (p.k + length ws) c.args.effect) c.added_words.ensures.value in
    rw (alias-two p c.args.effect (sym c.in_ok-check.ensures.number) c.if-p-eq3.false, is far c.if-has_beyond.true) refl

pub reduced-requires : goal.reduced-requires
reduced-requires c = (sizes c.args.p (sym c.in_ok-check.ensures.number)).0

pub returns : goal.returns
returns c =
    let p = c.args.p in
    let far = c.has_beyond.ensures ∙ ap (λ ws. beyond (p.k + length ws) c.args.effect) c.added_words.ensures.value in
    rw (alias-two p c.args.effect (sym c.in_ok-check.ensures.number) c.if-p-eq3.false, is far c.if-has_beyond.false, c.reduced.ensures) refl
