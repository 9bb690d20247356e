use Rattle.std.proofs.Common.{◌∙◌, ap, replicate}
use borrow.Author.Tests.{le-ltb}
use Rattle.contrasts.proofs.Factors.{three}
use Rattle.contrasts.specs.Limits.{most_three}
use Rattle.contrasts.specs.Rows.{row_of}
use Rattle.plan.specs.Check.{used_row}
use Rattle.plan.proofs.Laws.Words.{row-of-digits}
use Rattle.plan.proofs.blocks.word_row.Goals as goal

pub returns : goal.returns
unfolding used_row most_three
returns c =
    let p = c.args.p in
    rw (le-ltb _ _ c.if-p-gt6.false)
    (c.row_of_digits.ensures ∙ ap (row_of (replicate p.k three)) c.three_word.ensures ∙ row-of-digits p)
