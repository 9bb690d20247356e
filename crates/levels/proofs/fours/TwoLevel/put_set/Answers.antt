use Rattle.levels.proofs.FourTurns.{first-ready, four-made}
use Rattle.levels.proofs.fours.TwoLevel.put_set.Goals as goal

pub put_rows-requires : goal.put_rows-requires
put_rows-requires c =
    let pre = c.requires in
    first-ready pre c.rows_from-low.ensures c.rows_from-high.ensures

pub returns : goal.returns
returns c =
    let pre = c.requires in
    let low = c.rows_from-low.ensures in
    let high = c.rows_from-high.ensures in
    four-made pre low high c.put_rows.ensures
