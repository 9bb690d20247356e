use Rattle.walks.proofs.Planned.{two_ready, two_made, three-ready, three_made}
use Rattle.walks.proofs.walking.walk.Goals as goal

pub walk_two-requires : goal.walk_two-requires
walk_two-requires c = two_ready c.requires _ c.clear.ensures c.kinds-kinds.ensures c.if-p-eq2.true

pub returns-then-p-eq2 : goal.returns-then-p-eq2
returns-then-p-eq2 c = let all = two_made c.requires _ c.clear.ensures c.kinds-kinds.ensures c.if-p-eq2.true c.walk_two.ensures in record { value = all.0; rows_after = all.1 }

pub walk_three-requires : goal.walk_three-requires
walk_three-requires c = three-ready c.requires _ c.clear.ensures c.kinds-kinds.ensures c.put_rows.ensures c.put_weights.ensures

pub returns : goal.returns
returns c =
    let all = three_made c.requires _ c.clear.ensures c.kinds-kinds.ensures c.put_rows.ensures c.put_weights.ensures
    c.walk_three.ensures in record { value = all.0; rows_after = all.1 }
