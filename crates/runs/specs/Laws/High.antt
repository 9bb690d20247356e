-- The letters that are high in a run.
--
--   base-high                the base letters that are high in a run are those of its number
--   added-high               letter k + j is high where added factor j is
--   high-at                  each letter of the set of high letters
--   high-base, high-added    a base letter in it, and the letter of an added factor
--   high-turned              an added factor is high by the parity of its word, turned where its sign is 1
--   run-two, values-two      of an accepted plan of two levels only refusal 10 is left, and the answer is by letters
use Rattle.std.specs.Prelude.{◌≡◌, cond, not, List, ℕ, zero, suc, ◌+◌, ◌-◌, ◌^◌, ◌<◌, ◌≤◌, eqb, leb, get_or}
use Rattle.std.proofs.Math.Path.{refl, sym}
use Rattle.std.proofs.Common.{◌∙◌, lt-ltb, le-ltb, ne_eqb}
use native.Mathlib.Omega.{arith}
use Rattle.std.proofs.Math.ListN.{length}
use Rattle.algebra.specs.Bits.{bits}
use Rattle.algebra.specs.Laws.Bits.{bits_at, bits-all, bits-cong}
use Rattle.words.specs.Words.{has, odd_in}
use Rattle.plan.specs.declared.types.Plan.{Plan}
use Rattle.plan.specs.Plan.{added_words, added_signs, block_words, runs_of}
use Rattle.plan.specs.Check.{plan_refused}
use Rattle.runs.specs.Run.{high_by, high_in, high_letters, block_number, run_values, run_refused}
use Rattle.plan.proofs.Laws.Sizes.{two-levels, runs-two}
use Rattle.plan.proofs.Laws.Answers.{after-plan}

module _ (k : ℕ) (words signs : List ℕ) (r : ℕ) where
  pub base-high : r < 2 ^ k → r ≡ bits k (high_in k words signs r)
  unfolding high_in
  base-high h = sym (bits-all k r h) ∙ bits-cong k (λ i l. rw (lt-ltb i k l))

  pub added-high : (j : ℕ) → high_in k words signs r (k + j) ≡ high_by (get_or signs j 0) (get_or words j 0) r
  unfolding high_in
  added-high j = let e : k + j - k ≡ j = omega arith in rw (le-ltb (k + j) k (omega arith), e)

  pub high-at : (i : ℕ) → i < k + length words → has (high_letters k words signs r) i ≡ high_in k words signs r i
  unfolding high_letters
  high-at i h = bits_at (k + length words) (high_in k words signs r) i h

  pub high-base : (i : ℕ) → i < k → has (high_letters k words signs r) i ≡ has r i
  unfolding high_in
  high-base i h = high-at i (omega arith) ∙ rw (lt-ltb i k h) refl

  pub high-added : (j : ℕ) → j < length words → has (high_letters k words signs r) (k + j) ≡ high_by (get_or signs j 0) (get_or words j 0) r
  high-added j h = high-at (k + j) (omega arith) ∙ added-high j

pub high-turned : (sign w r : ℕ) → sign ≤ 1 → high_by sign w r ≡ cond (eqb sign 1) (not (odd_in r w)) (odd_in r w)
unfolding high_by
high-turned zero w r h = refl
high-turned (suc zero) w r h = refl
high-turned (suc (suc sign)) w r h = absurd (omega (arith, h))

pub run-two : (p : Plan) (r : ℕ) → plan_refused p ≡ 0 → (p.levels ≡ 3 → ⊥) → run_refused p r ≡ cond (leb (2 ^ p.k) r) 10 0
unfolding run_refused
run-two p r z t =
    let e : p.levels ≡ 2 = two-levels p z t in
    let n : runs_of p ≡ 2 ^ p.k = runs-two p e in
    after-plan p _ z ∙ rw n refl

pub values-two : (p : Plan) (r : ℕ) → (p.levels ≡ 3 → ⊥)
    → run_values p r ≡ (high_letters p.k (added_words p) (added_signs p) r, block_number (block_words p) r)
values-two p r t = rw (ne_eqb p.levels 3 t) refl
