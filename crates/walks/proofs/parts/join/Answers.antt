use mathlib.Core.Path.{refl}
use native.Mathlib.Omega.{arith}
use lib.Dec.{lit<}
use Rattle.walks.proofs.Parted.{joinable, joins}
use Rattle.walks.proofs.parts.join.Goals as goal

pub both-requires : goal.both-requires
both-requires c = let pre = c.requires in joinable pre.0 pre.1 0 (lit< tt) _ (omega arith)

pub both-requires-2 : goal.both-requires-2
both-requires-2 c = let pre = c.requires in joinable pre.0 pre.1 1 (lit< tt) _ refl

pub both-requires-3 : goal.both-requires-3
both-requires-3 c = let pre = c.requires in joinable pre.0 pre.1 2 (lit< tt) _ refl

pub both-requires-4 : goal.both-requires-4
both-requires-4 c = let pre = c.requires in joinable pre.0 pre.1 3 (lit< tt) _ refl

pub returns : goal.returns
returns c =
    let pre = c.requires in
    joins pre.0 pre.1 c.both.ensures c.both-2.ensures c.both-3.ensures c.both-4.ensures
