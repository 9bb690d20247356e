use mathlib.Core.Path.{sym, ◌∙◌}
use lib.Seq.{length-take-le}
use Rattle.recovery.proofs.Found.{few}
use Rattle.recovery.proofs.calls.lend.Goals as goal

pub slice_bounds-column-end : goal.slice_bounds-column-end
slice_bounds-column-end c = few c.requires

pub slice_bounds-work-end : goal.slice_bounds-work-end
slice_bounds-work-end c = sym (length-take-le _ _ (few c.requires))

pub work-requires : goal.work-requires
work-requires c =
    let pre = c.requires in
    record { lent = pre; values = length-take-le _ _ (few pre) ∙ pre.whole }
