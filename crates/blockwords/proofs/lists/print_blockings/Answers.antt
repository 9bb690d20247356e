use native.Mathlib.Omega.{arith}
use mathlib.Core.Path.{subst}
use Rattle.std.specs.Io.KnownBytes.{Appends}
use Rattle.std.proofs.KnownBytes.{Appends-trans}
use Rattle.std.proofs.lemmas.Result.{on_ok_weaker}
use Rattle.blockwords.specs.Laws.Columns.{column-ready}
use Rattle.blockwords.specs.Laws.Texts.{text-of_lists, text-refused}
use Rattle.blockwords.proofs.lists.print_blockings.Goals as goal

pub print_lists-requires : goal.print_lists-requires
print_lists-requires g c =
    column-ready _ _ _ c.blockings.ensures.result_value c.in-Ok.is c.blockings.ensures.column_after

pub returns-in_ok-print_number-in-Ok : goal.returns-in_ok-print_number-in-Ok
returns-in_ok-print_number-in-Ok g c =
    let number = c.in_ok-print_number-in-Ok.ensures (omega arith) in
    let whole = text-of_lists c.args.k c.args.words _ c.blockings.ensures.result_value (omega arith) c.in-Ok.is in
    on_ok_weaker c.print_lists.result (λ lists. subst (Appends _ _) whole (Appends-trans _ _ _ _ _ number lists)) c.print_lists.ensures

pub returns-in-Err : goal.returns-in-Err
returns-in-Err g c =
    let whole = text-refused c.args.k c.args.words _ c.blockings.ensures.result_value (omega arith) c.in-Err.is c.number.ensures in
    on_ok_weaker c.print_number-in-Err.result (λ number. subst (Appends _ _) whole number) (c.print_number-in-Err.ensures (omega arith))
