-- The plan as the code holds it: a byte for each count.
--
--   held p    p, with counts of one more than a plan holds where they are more
use Rattle.std.specs.Prelude.{suc, min}
use Rattle.contrasts.specs.Limits.{most_added, most_blocks}
use Rattle.plan.specs.declared.types.Plan.{Plan}

-- N4: "over 6 added, over 4 block words" stays so
unfoldable pub held : Plan → Plan
held p = record {
  levels = p.levels;
  k = p.k;
  added = min p.added (suc most_added);
  words = p.words;
  signs = p.signs;
  blocks = min p.blocks (suc most_blocks);
  blockwords = p.blockwords;
  repeats = p.repeats;
}
