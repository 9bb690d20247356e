use Rattle.levels.proofs.TripleRows.{put-made}
use Rattle.levels.proofs.triples.put_rows.Goals as goal

pub returns : goal.returns
returns c = put-made c.requires c.rows_of-sums.ensures c.rows_of-gaps.ensures c.rows_of-curves.ensures
