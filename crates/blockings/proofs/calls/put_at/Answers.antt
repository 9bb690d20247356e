use Rattle.blockings.proofs.Listing.{placed_by}
use Rattle.blockings.proofs.calls.put_at.Goals as goal

pub returns : goal.returns
returns c = placed_by _ _ _ _ _ c.requires.2 c.put_list.ensures
