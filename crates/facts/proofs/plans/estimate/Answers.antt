use Rattle.std.proofs.Common.{◌≡◌, refl, sym, rules}
use Rattle.std.specs.Prelude.{Err}
use Rattle.estimates.specs.Estimate.{mean, difference, lost}
use Rattle.facts.proofs.Answered.{estimate-stopped, estimate-refused, estimate-given}
use Rattle.facts.proofs.plans.estimate.Goals as goal

pub returns-in_err-p : goal.returns-in_err-p
returns-in_err-p c =
    let first : c.from_residual.result ≡ Err c.in_err-p.field-0.0 = search rules in
    let all = estimate-stopped _ _ _ _ _ _ c.in_err-p.ensures.number in
    record { value = rw first all.0; kind_after = all.1.0; value_after = all.1.1 }

pub returns-in_err-mean : goal.returns-in_err-mean
returns-in_err-mean c =
    let first : c.from_residual-in_err-mean.result ≡ Err c.in_err-mean.field-0.0 = search rules in
    let all = estimate-refused _ _ _ _ _ (sym c.in_ok-p.ensures.number) c.in_ok-p.ensures.plan c.ranges.total _ c.in_err-mean.ensures.result_value in
    record { value = rw first all.0; kind_after = all.1.0; value_after = all.1.1 }

pub returns-in-Mean : goal.returns-in-Mean
returns-in-Mean c =
    let all = estimate-given _ _ _ _ _ (sym c.in_ok-p.ensures.number) c.in_ok-p.ensures.plan c.ranges.total (mean _) (rw c.in-Mean.is at c.in_ok-mean.ensures.result_value) in
    record { value = all.0; kind_after = all.1.0; value_after = all.1.1 }

pub returns-in-Difference : goal.returns-in-Difference
returns-in-Difference c =
    let all = estimate-given _ _ _ _ _ (sym c.in_ok-p.ensures.number) c.in_ok-p.ensures.plan c.ranges.total (difference _) (rw c.in-Difference.is at c.in_ok-mean.ensures.result_value) in
    record { value = all.0; kind_after = all.1.0; value_after = all.1.1 }

pub returns-in-Lost : goal.returns-in-Lost
returns-in-Lost c =
    let all = estimate-given _ _ _ _ _ (sym c.in_ok-p.ensures.number) c.in_ok-p.ensures.plan c.ranges.total lost (rw c.in-Lost.is at c.in_ok-mean.ensures.result_value) in
    record { value = all.0; kind_after = all.1.0; value_after = all.1.1 }
