use mathlib.Core.Path.{refl}
use Rattle.algebra.specs.Laws.Bits.{bit-none}
use Rattle.words.proofs.letters.has_letter.Goals as goal

pub returns-then-i-ge16 : goal.returns-then-i-ge16
returns-then-i-ge16 c =
    let args = c.args in
    rw (bit-none 16 args.word args.i c.ranges.word.fits c.if-i-ge16.true) refl
