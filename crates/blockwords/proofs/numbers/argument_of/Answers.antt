use Rattle.algebra.specs.Laws.Tests.{is}
use Rattle.blockwords.specs.Arguments.{is_digit}
use Rattle.blockwords.specs.Laws.Digits.{read_none, read_more, no_byte, no_digit, all-digits}
use Rattle.blockwords.proofs.numbers.argument_of.Goals as goal

pub returns-then-is_empty : goal.returns-then-is_empty
returns-then-is_empty c = no_byte _ (is c.is_empty.ensures c.if-is_empty.true)

pub loop-byte-init : goal.loop-byte-init
loop-byte-init c = read_none _

pub returns-then-not-is_ascii_digit : goal.returns-then-not-is_ascii_digit
unfolding is_digit
returns-then-not-is_ascii_digit c = no_digit c.loop-byte.invariant c.loop-byte-test.true (is c.is_ascii_digit.ensures.value c.if-not-is_ascii_digit.true)

pub loop-byte-preserved : goal.loop-byte-preserved
unfolding is_digit
loop-byte-preserved c = read_more c.loop-byte.invariant c.loop-byte-test.true (is c.is_ascii_digit.ensures.value c.if-not-is_ascii_digit.false) c.with_digit-n.ensures

pub returns : goal.returns
returns c = all-digits c.loop-byte.invariant (is c.is_empty.ensures c.if-is_empty.false) c.loop-byte-test.false
