-- Runs and blocks of three-level plans.
--
--   run-three, values-three    of an accepted plan of three levels only refusal 10 is left, and the answer is the block alone
--   block-below                there are three blocks
--   without-word               without a block word every run is in block 0
--   third-of-runs              with one each block has a third of the runs
use Rattle.std.specs.Prelude.{◌≡◌, refl, cond, ℕ, ◌*◌, ◌<◌, eqb, leb, replicate}
use Rattle.std.proofs.Common.{◌∙◌, ap, eq-eqb}
use Rattle.algebra.specs.Naturals.{Σℕ}
use Rattle.algebra.specs.Laws.Naturals.{Σℕ-cong}
use Rattle.contrasts.specs.Blocks.{block_of}
use Rattle.contrasts.proofs.Factors.{three}
use Rattle.contrasts.proofs.Laws.Blocks.{block_none, block-lt, block-runs}
use Rattle.plan.specs.declared.types.Plan.{Plan}
use Rattle.plan.specs.Plan.{three_word, word_row, runs_of}
use Rattle.plan.specs.Check.{plan_refused}
use Rattle.plan.proofs.Laws.Accepted.{accepted}
use Rattle.plan.proofs.Laws.Answers.{after-plan}
use Rattle.plan.proofs.Laws.Sizes.{factors-three}
use Rattle.plan.proofs.Laws.Words.{three-levels, uses-letters}
use Rattle.runs.specs.Run.{run_refused, run_values}

module _ (p : Plan) where
  pub run-three : (r : ℕ) → plan_refused p ≡ 0 → run_refused p r ≡ cond (leb (runs_of p) r) 10 0
  unfolding run_refused
  run-three r z = after-plan p _ z

  module _ (t : p.levels ≡ 3) where
    pub values-three : (r : ℕ) → run_values p r ≡ (0, block_of (replicate p.k three) (three_word p) r)
    values-three r = rw (eq-eqb p.levels 3 t, factors-three p t) refl

    pub block-below : (r : ℕ) → (run_values p r).1 < 3
    block-below r = rw (values-three r) (block-lt (replicate p.k three) (three_word p) r)

    -- R12: "the block, 0 without a word"
    pub without-word : three_word p ≡ 0 → (r : ℕ) → run_values p r ≡ (0, 0)
    without-word z r = values-three r ∙ rw (z, block_none (replicate p.k three) r) refl

  pub third-of-runs : plan_refused p ≡ 0 → (three_word p ≡ 0 → ⊥) → (j : ℕ) → j < 3
      → 3 * Σℕ (runs_of p) (λ r. cond (eqb (run_values p r).1 j) 1 0) ≡ runs_of p
  third-of-runs z some j h =
      let t = three-levels p some in
      let used : word_row p ≡ 0 → ⊥ = uses-letters p (accepted p z) some in
      ap (λ n. 3 * n) (Σℕ-cong (runs_of p) (λ r _. ap (λ (v : ℕ × ℕ). cond (eqb v.1 j) 1 0) (values-three t r)))
      ∙ rw (factors-three p t) (block-runs p.k (three_word p) (rw (factors-three p t) at used) j h)
