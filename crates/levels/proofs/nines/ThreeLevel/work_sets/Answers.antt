use mathlib.Core.Path.{◌≡◌, refl}
use Prim.Native.Nat.{ℕ, ◌+◌, ◌*◌, ◌<◌}
use native.Mathlib.Omega.{arith}
use lib.Dec.{lit<}
use Rattle.algebra.specs.Laws.Machine.{wrap}
use Rattle.contrasts.specs.Columns.{read}
use Rattle.contrasts.proofs.Factors.{three}
use Rattle.contrasts.proofs.Laws.Both.{both-begun, both-ended}
use Rattle.contrasts.proofs.Laws.Small.{Mild, mild-small, mild-held}
use Rattle.levels.proofs.NineTurns.{value-small, nine-ready, nines-more}
use Rattle.levels.proofs.nines.ThreeLevel.work_sets.Goals as goal

pub loop-i-init : goal.loop-i-init
loop-i-init c = both-begun three c.requires

pub rows_of-low-requires : goal.rows_of-low-requires
rows_of-low-requires c =
    let mild : (d : ℕ) → d < 9 → (p : ℕ) → c.loop-i.i + d * c.args.spacing ≡ p
    → Mild (wrap (read c.loop-i.part p)) = (λ d k p e. mild-held (mild-small (value-small c.requires c.loop-i.invariant c.loop-i-test.true d k p e))) in
    (mild 0 (lit< tt) _ (omega arith), mild 1 (lit< tt) _ (omega arith), mild 2 (lit< tt) _ refl)

pub rows_of-middle-requires : goal.rows_of-middle-requires
rows_of-middle-requires c =
    let mild : (d : ℕ) → d < 9 → (p : ℕ) → c.loop-i.i + d * c.args.spacing ≡ p
    → Mild (wrap (read c.loop-i.part p)) = (λ d k p e. mild-held (mild-small (value-small c.requires c.loop-i.invariant c.loop-i-test.true d k p e))) in
    (mild 3 (lit< tt) _ refl, mild 4 (lit< tt) _ refl, mild 5 (lit< tt) _ refl)

pub rows_of-high-requires : goal.rows_of-high-requires
rows_of-high-requires c =
    let mild : (d : ℕ) → d < 9 → (p : ℕ) → c.loop-i.i + d * c.args.spacing ≡ p
    → Mild (wrap (read c.loop-i.part p)) = (λ d k p e. mild-held (mild-small (value-small c.requires c.loop-i.invariant c.loop-i-test.true d k p e))) in
    (mild 6 (lit< tt) _ refl, mild 7 (lit< tt) _ refl, mild 8 (lit< tt) _ refl)

pub put_rows-requires : goal.put_rows-requires
put_rows-requires c =
    let pre = c.requires in
    let inv = c.loop-i.invariant in
    let low = c.rows_of-low.ensures in
    let middle = c.rows_of-middle.ensures in
    nine-ready pre inv c.loop-i-test.true low middle c.rows_of-high.ensures

pub loop-i-preserved : goal.loop-i-preserved
loop-i-preserved c =
    let pre = c.requires in
    let inv = c.loop-i.invariant in
    let low = c.rows_of-low.ensures in
    nines-more pre inv c.loop-i-test.true low c.rows_of-middle.ensures c.rows_of-high.ensures c.put_rows.ensures

pub returns : goal.returns
returns c = both-ended three c.requires c.loop-i.invariant c.loop-i-test.false
