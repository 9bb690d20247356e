use native.Mathlib.Omega.{arith}
use mathlib.Core.Path.{sym, ◌≡◌}
use lib.ListN.{length}
use lib.Seq.{length-take-le}
use Rattle.printing.specs.Laws.Inputs.{full-buffer, promised}
use Rattle.screentab.specs.Screened.{screened_text}
use Rattle.screentab.specs.Laws.Inputs.{screen-first}
use Rattle.screentab.proofs.texts.screened_input.Goals as goal

pub returns-then-bytes-count : goal.returns-then-bytes-count
returns-then-bytes-count c =
    let a = c.args in
    let long : length a.input.now ≡ 5188 = omega arith in
    let text = full-buffer screened_text a.input.now a.count a.text.now c.if-bytes-count.true (c.screened_text.ensures.value, c.screened_text.ensures.text_after) in
    let all = promised screened_text a.input.now a.count screen-first long (omega arith) text in
    record { value = all.0; text_after = all.1.0; decides_for = all.1.1.0; input_len = all.1.1.1 }

pub slice_bounds-screened_text-end : goal.slice_bounds-screened_text-end
slice_bounds-screened_text-end c = sym (length-take-le _ _ (omega arith))

pub returns : goal.returns
returns c =
    let a = c.args in
    let long : length a.input.now ≡ 5188 = omega arith in
    let all = promised screened_text a.input.now a.count screen-first long (omega arith) (c.screened_text-2.ensures.value, c.screened_text-2.ensures.text_after) in
    record { value = all.0; text_after = all.1.0; decides_for = all.1.1.0; input_len = all.1.1.1 }
