use native.Mathlib.Omega.{arith}
use mathlib.Core.Path.{sym, ap, ◌∙◌, subst}
use Rattle.std.specs.Io.KnownBytes.{Appends}
use Rattle.std.proofs.KnownBytes.{Appends-nil, Appends-trans}
use Rattle.blockwords.specs.Laws.Texts.{no_lists, list_more}
use Rattle.std.specs.Prelude.{take, ◌++◌}
use Rattle.std.proofs.Common.{take_all}
use Rattle.blockings.specs.Blockings.{blockings_of}
use Rattle.blockwords.specs.Listed.{list_line}
use Rattle.blockwords.specs.Printed.{list_lines}
use Rattle.blockwords.specs.Laws.Columns.{list-fits, list-ready, list-words}
use Rattle.blockwords.proofs.lists.print_lists.Goals as goal

pub overflow_mul-at : goal.overflow_mul-at
overflow_mul-at g c = record { fits = omega (arith, list-fits c.requires _ c.loop-i-test.true) }

pub overflow_add-at : goal.overflow_add-at
overflow_add-at g c = record { fits = omega (arith, list-fits c.requires _ c.loop-i-test.true) }

pub offset_bounds-column-at : goal.offset_bounds-column-at
offset_bounds-column-at g c = record { fits = omega (arith, list-fits c.requires _ c.loop-i-test.true) }

pub slice_bounds-print_list-end : goal.slice_bounds-print_list-end
slice_bounds-print_list-end g c = list-fits c.requires _ c.loop-i-test.true

pub print_list-requires : goal.print_list-requires
print_list-requires g c = list-ready c.requires _ c.loop-i-test.true

pub loop-i-init : goal.loop-i-init
loop-i-init g c = subst (Appends _ _) (sym (no_lists c.args.k)) (Appends-nil (g.W.Write.contents c.args.out.now))

pub loop-i-preserved : goal.loop-i-preserved
loop-i-preserved g c =
    let there = c.loop-i-test.true in
    let list = list-words c.requires _ there in
    let line = c.in_ok-print_list.ensures in
    subst (Appends _ _)
    (ap (λ ws. list_lines c.args.k (take c.loop-i.i (blockings_of c.args.k c.args.words)) ++ list_line c.args.k ws) list
    ∙ list_more c.args.k (blockings_of c.args.k c.args.words) c.loop-i.i (omega (arith, c.requires.all, there)))
    (Appends-trans _ _ _ _ _ c.loop-i.invariant line)

pub returns : goal.returns
returns g c =
    let every = take_all c.loop-i.i (blockings_of c.args.k c.args.words) (omega (arith, c.requires.all, c.loop-i-test.false)) in
    subst (Appends _ _) (ap (list_lines c.args.k) every) c.loop-i.invariant
