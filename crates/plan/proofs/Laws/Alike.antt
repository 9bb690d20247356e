-- "Places beyond a plan's counts are ignored": plans that agree as far as their counts reach get the same answers.
--
--   Alike p q       the plans agree so far
--   same-refused    the check gives them the same number
--   same-factors    they have the same base factors
--   same-limit      the same limit of readings
--   same-lost       the same effects are confounded
use Rattle.std.specs.Prelude.{◌≡◌, ℕ}
use Rattle.std.proofs.Math.Path.{refl}
use Rattle.plan.specs.declared.types.Plan.{Plan}
use Rattle.plan.specs.Plan.{added_words, added_signs, block_words, three_words, factors_of, confounded_in}
use Rattle.plan.specs.Check.{plan_refused}
use Rattle.plan.specs.Limits.{reading_limit}

pub record Alike (p q : Plan) : Type 0 where
  pub levels : p.levels ≡ q.levels
  pub k : p.k ≡ q.k
  pub added : p.added ≡ q.added
  pub words : added_words p ≡ added_words q
  pub signs : added_signs p ≡ added_signs q
  pub blocks : p.blocks ≡ q.blocks
  pub blockwords : block_words p ≡ block_words q
  pub numbers : three_words p ≡ three_words q
  pub repeats : p.repeats ≡ q.repeats

module _ {p q : Plan} (a : Alike p q) where
  pub same-refused : plan_refused p ≡ plan_refused q
  unfolding plan_refused factors_of
  same-refused = rw (a.words, a.signs, a.blockwords, a.numbers, a.levels, a.k, a.added, a.blocks, a.repeats) refl

  pub same-factors : factors_of p ≡ factors_of q
  unfolding factors_of
  same-factors = rw (a.levels, a.k) refl

  pub same-limit : reading_limit p ≡ reading_limit q
  unfolding reading_limit
  same-limit = rw a.levels refl

  pub same-lost : (w : ℕ) → confounded_in p w ≡ confounded_in q w
  same-lost w = rw a.blockwords refl
