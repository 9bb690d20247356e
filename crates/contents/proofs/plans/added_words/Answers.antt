use Rattle.std.proofs.Common.{rules}
use borrow.Author.Tests.{tests}
use Rattle.contents.proofs.Made.{made}
use Rattle.contents.proofs.plans.added_words.Goals as goal

pub returns : goal.returns
returns c = made _ (λ i y q k. search (rules, tests)) c.from_fn.ensures.items
