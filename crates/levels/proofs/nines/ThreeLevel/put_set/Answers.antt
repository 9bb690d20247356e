use Rattle.levels.proofs.NineTurns.{first-ready, nine-made}
use Rattle.levels.proofs.nines.ThreeLevel.put_set.Goals as goal

pub put_rows-requires : goal.put_rows-requires
put_rows-requires c =
    let pre = c.requires in
    first-ready pre c.rows_from-low.ensures c.rows_from-middle.ensures c.rows_from-high.ensures

pub returns : goal.returns
returns c =
    let pre = c.requires in
    let low = c.rows_from-low.ensures in
    let middle = c.rows_from-middle.ensures in
    let high = c.rows_from-high.ensures in
    nine-made pre low middle high c.put_rows.ensures
