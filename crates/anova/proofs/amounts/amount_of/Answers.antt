use Rattle.anova.proofs.Moved.{runs-ready, blocks-ready, amount-formed, column-kept}
use Rattle.anova.proofs.amounts.amount_of.Goals as goal

pub sum_runs-requires : goal.sum_runs-requires
sum_runs-requires c = runs-ready c.requires

pub block_amount-requires : goal.block_amount-requires
block_amount-requires c =
    let pre = c.requires in
    blocks-ready pre c.sum_runs.ensures

pub shape_of-column : goal.shape_of-column
shape_of-column c =
    let pre = c.requires in
    column-kept pre c.sum_runs.ensures

pub returns : goal.returns
returns c =
    let pre = c.requires in
    let sums-are = c.sum_runs.ensures in record { value = amount-formed pre sums-are c.block_amount.ensures; column_len_unchanged = column-kept pre sums-are }
