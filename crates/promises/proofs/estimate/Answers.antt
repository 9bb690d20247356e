use mathlib.Core.Path.{◌∙◌, ap}
use mir.Facts.{to_z-of_z}
use lib.IntN.{ℤ}
use Rattle.promises.specs.Promised.{promised_estimate}
use Rattle.promises.proofs.estimate.Goals as goal

-- a total is handed on as code holds it, as bits and read again

pub returns : goal.returns
returns c =
    let a = c.args in
    c.estimate.ensures.result_value ∙ ap (λ (t : ℤ). promised_estimate a.p a.effect t) (to_z-of_z c.ranges.total)
