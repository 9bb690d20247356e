use native.Mathlib.Omega.{arith}
use mathlib.Core.Path.{◌∙◌, subst}
use Rattle.std.specs.Prelude.{OnOk}
use Rattle.std.specs.Io.KnownBytes.{Appends}
use Rattle.lines.specs.Laws.Lines.{named-long}
use Rattle.blockwords.specs.Laws.Texts.{whole-text}
use Rattle.blockwords.proofs.lists.print_number.Goals as goal

pub returns : goal.returns
returns g c =
    λ h. let start = c.new-text.ensures in
    let line = whole-text start.empty start.bytes (omega (arith, h, named-long c.args.name.now c.args.n)) c.named_line.ensures in
    subst (λ t. OnOk c.write_all.result (Appends (g.W.Write.contents c.args.out.now) (g.W.Write.contents c.write_all.new.self) t)) (c.bytes.ensures ∙ line) c.write_all.ensures.bytes
