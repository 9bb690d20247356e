use Rattle.words.specs.Laws.Letters.{letters-ones}
use Rattle.words.proofs.letters.count_letters.Goals as goal

pub returns : goal.returns
returns c = letters-ones c.args.word c.ranges.word.fits
