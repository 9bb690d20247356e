use Rattle.std.proofs.Common.{◌≡◌, false, arith}
use Rattle.blockings.specs.Blockings.{bad_factor_count, bad_word_count}
use Rattle.blockings.proofs.Listing.{fits}
use Rattle.blockings.proofs.Judging.{in-range, by-room, nothing}
use Rattle.blockings.proofs.refusals.check_blockings.Goals as goal

pub count-requires : goal.count-requires
count-requires c =
    let factors : bad_factor_count c.args.k ≡ false = (cc) in
    let words : bad_word_count c.args.words ≡ false = (cc) in
    in-range _ _ factors words

pub overflow_mul-count : goal.overflow_mul-count
overflow_mul-count c = fits _ _ c.count.ensures.1 (omega arith)

pub returns-then-room-count : goal.returns-then-room-count
returns-then-room-count c =
    let factors : bad_factor_count c.args.k ≡ false = (cc) in
    let words : bad_word_count c.args.words ≡ false = (cc) in
    by-room _ _ _ factors words c.count.ensures.0 (omega arith)

pub returns : goal.returns
returns c =
    let factors : bad_factor_count c.args.k ≡ false = (cc) in
    let words : bad_word_count c.args.words ≡ false = (cc) in
    nothing _ _ _ factors words c.count.ensures.0 (omega arith)
