use Rattle.words.specs.Laws.Letters.{odd-ones}
use Rattle.words.proofs.letters.is_odd.Goals as goal

pub returns : goal.returns
returns c = odd-ones c.args.run c.args.word c.ranges.run.fits
