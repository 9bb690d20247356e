use Rattle.std.proofs.Common.{arith, sym, subst, length-take-le}
use Rattle.std.specs.Prelude.{OnOk}
use Rattle.std.specs.Io.KnownBytes.{Appends}
use Rattle.blockwords.specs.Laws.Places.{ends-within, whole-text}
use Rattle.blockwords.proofs.lists.print_list.Goals as goal

pub slice_bounds-text-end : goal.slice_bounds-text-end
slice_bounds-text-end g c = ends-within c.list_line-end.ensures.wrote

pub slice_bounds-write_all-end : goal.slice_bounds-write_all-end
slice_bounds-write_all-end g c = sym (length-take-le _ _ (ends-within c.list_line-end.ensures.wrote))

pub returns : goal.returns
returns g c =
    let line = c.list_line-end.ensures in
    subst (λ t. OnOk c.write_all.result (Appends (g.W.Write.contents c.args.out.now) (g.W.Write.contents c.write_all.new.self) t))
    (whole-text line.wrote (omega (arith, line.wrote.ends, line.value))) c.write_all.ensures.bytes
