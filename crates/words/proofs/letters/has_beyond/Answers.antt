use mathlib.Core.Path.{sym}
use Rattle.words.specs.Laws.Letters.{beyond-most, beyond-shifted}
use Rattle.words.proofs.letters.has_beyond.Goals as goal

pub returns-then-n-ge16 : goal.returns-then-n-ge16
returns-then-n-ge16 c =
    let args = c.args in
    sym (beyond-most args.n args.word c.ranges.word.fits c.if-n-ge16.true)

pub returns : goal.returns
returns c =
    let args = c.args in
    beyond-shifted args.n args.word c.ranges.word.fits
