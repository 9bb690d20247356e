use mathlib.Core.Path.{refl}
use Rattle.words.proofs.letters.is_odd_word.Goals as goal

pub returns : goal.returns
returns c = rw c.count_letters.ensures refl
