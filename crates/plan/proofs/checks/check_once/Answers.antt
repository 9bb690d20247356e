use Rattle.std.proofs.Common.{◌≡◌, false}
use Rattle.plan.specs.Check.{bad_factors}
use Rattle.plan.proofs.Laws.Accepted.{factors-known, at-most-ten}
use Rattle.plan.proofs.checks.check_once.Goals as goal

pub check_words-requires : goal.check_words-requires
check_words-requires c =
    let factors-fine : let p = c.args.p.now in bad_factors p.levels p.k ≡ false = (cc) in
    at-most-ten _ (factors-known _ _ factors-fine).1
