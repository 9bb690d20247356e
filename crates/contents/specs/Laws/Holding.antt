-- The plan as the code holds it: it has the number of the sheet's plan, and is that plan where it is accepted.
--
--   held_same       a plan whose counts are not over is held as it is
--   held-refused    the number of a plan that is held
--   held_all        a plan that is accepted is held as it is
use Rattle.std.specs.Prelude.{◌≡◌, refl, true, ℕ, min, ◌≤◌, ltb}
use Rattle.std.proofs.Common.{ap, arith, lt-ltb}
use Rattle.std.proofs.Math.Bool.{or-true}
use Rattle.std.proofs.Math.Decide.{dec_le}
use Rattle.plan.specs.declared.types.Plan.{Plan}
use Rattle.plan.specs.Check.{bad_counts, plan_refused}
use Rattle.plan.proofs.Laws.Accepted.{sizes}
use Rattle.contents.specs.Held.{held}

min-small : (n m : ℕ) → n ≤ m → min n m ≡ n
min-small n m h = omega arith

min-large : (n m : ℕ) → m ≤ n → min n m ≡ m
min-large n m h = omega arith

pub held_same : (p : Plan) → p.added ≤ 6 → p.blocks ≤ 4 → held p ≡ p
unfolding held
held_same p h k = λ i. record {
  levels = p.levels;
  k = p.k;
  added = min-small p.added 7 (omega arith) i;
  words = p.words;
  signs = p.signs;
  blocks = min-small p.blocks 5 (omega arith) i;
  blockwords = p.blockwords;
  repeats = p.repeats;
}

over-added : (levels a b : ℕ) → 7 ≤ a → bad_counts levels a b ≡ true
unfolding bad_counts
over-added levels a b h = rw (lt-ltb 6 a h) refl

over-blocks : (levels a b : ℕ) → 5 ≤ b → bad_counts levels a b ≡ true
unfolding bad_counts
over-blocks levels a b h = rw (lt-ltb 4 b h) (or-true (ltb 6 a))

-- both plans are refused by refusal 4 at the latest
pub held-refused : (p : Plan) → plan_refused (held p) ≡ plan_refused p
unfolding plan_refused held
held-refused p = by (dec_le p.added 6) (dec_le p.blocks 4)
  where
    by : Dec (p.added ≤ 6) → Dec (p.blocks ≤ 4) → plan_refused (held p) ≡ plan_refused p
    by (yes h) (yes k) = ap plan_refused (held_same p h k)
    by (no h) k =
        let held-over = over-added p.levels (min p.added 7) (min p.blocks 5) (omega (arith, min-large p.added 7 (omega arith))) in
        let over = over-added p.levels p.added p.blocks (omega arith) in
        rw (held-over, over) refl
    by (yes h) (no k) =
        let held-over = over-blocks p.levels (min p.added 7) (min p.blocks 5) (omega (arith, min-large p.blocks 5 (omega arith))) in
        let over = over-blocks p.levels p.added p.blocks (omega arith) in
        rw (held-over, over) refl

pub held_all : (p : Plan) → plan_refused p ≡ 0 → held p ≡ p
held_all p z = let s = sizes p z in held_same p s.1 s.2
