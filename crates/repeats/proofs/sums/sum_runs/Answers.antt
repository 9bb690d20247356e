use mathlib.Core.Path.{◌≡◌, sym, ◌∙◌}
use mathlib.Core.List.{List}
use Prim.Native.Nat.{ℕ}
use native.Mathlib.Nat.{mul-one}
use lib.IntN.{ℤ}
use lib.ListN.{length}
use Rattle.columns.specs.Copies.{copied}
use Rattle.columns.specs.Laws.Copies.{copied-over}
use Rattle.contrasts.specs.Columns.{run_sums_in}
use Rattle.contrasts.proofs.Laws.Repeats.{sums-once}
use Rattle.repeats.specs.Ready.{AllRuns}
use Rattle.repeats.proofs.sums.sum_runs.Goals as goal

-- of runs made once the readings are copied
once : {r : ℕ} {xs ys zs : List ℤ} → AllRuns r xs ys → r ≡ 1 → zs ≡ copied xs ys → zs ≡ run_sums_in (length ys) r xs
once {r} {xs} {ys} pre e d =
    let same : length xs ≡ length ys = pre.whole ∙ rw e (mul-one (length ys)) in
    copied-over ys (sym same) d ∙ rw e (sym (sums-once same))

pub put_sums-requires : goal.put_sums-requires
put_sums-requires c = c.requires

pub returns-then-repeats-eq1 : goal.returns-then-repeats-eq1
returns-then-repeats-eq1 c = once c.requires c.if-repeats-eq1.true c.copy.ensures

pub returns-else-repeats-eq1 : goal.returns-else-repeats-eq1
returns-else-repeats-eq1 c = c.put_sums.ensures
