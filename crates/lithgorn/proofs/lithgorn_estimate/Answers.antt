use Rattle.std.proofs.Common.{◌∙◌}
use Rattle.lithgorn.proofs.Told.{estimate-told}
use Rattle.lithgorn.proofs.lithgorn_estimate.Goals as goal

pub returns : goal.returns
returns c = let all = estimate-told _ _ _ _ _ c.ranges.total (c.number_of.ensures ∙ c.estimate.ensures.value, (c.estimate.ensures.kind_after, c.estimate.ensures.value_after)) in record { value = all.0; kind_after = all.1.0; value_after = all.1.1 }
