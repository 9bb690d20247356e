-- What coefficients, added factors, blocks and aliases mean in letters, at two levels, with the report's signs, low minus high, which totals
-- and numerators keep. A run's letters are those that the run call gives as high, base and added factors alike, and its block is that call's;
-- an effect's base word is the alias call's. That call's turn is for the signs that journals print: `HighMinusLow.antt`. Runs and blocks of three-level
-- plans: `ThreeBlocks.antt`.
--
--   TwoLevels p            the plan is accepted and has two levels
--   high p r, block p r    the letters that are high in run r, and its block
--   base p e               the base word of the effect e
--   odd_signs_in p e       whether an odd number of the letters that are replaced in it have sign 1
--   word p j               the word of added factor j
--   has_sign_one p j       whether it has sign 1
--   factor_sign p r i      the sign of run r in the column of factor i: -1 where it is high, and else 1
--   odd_high p r e         an odd number of the letters of e are high in run r
--   sign p r e             the sign of run r in the column of the effect e: -1 there, and else 1
--   contrast_of p x e      the contrast of e: the readings x of the runs with sign 1, less those of the runs with sign -1
--   turn_if t z            z, with its sign turned where t holds
--
--   Coefficients           CLAIM: the coefficient of a run in an effect is that sign
--   BaseFactors            CLAIM: the column of a base factor is the coefficients of its letter
--   AddedFactors           CLAIM: the column of an added factor is the coefficients of its word, turned exactly where it has sign 1
--   SameInBlock            CLAIM: a confounded effect has one coefficient throughout a block
--   OnlyConfounded         CLAIM: an effect with one coefficient throughout every block is confounded, or the mean
--   Aliases                CLAIM: an effect's sign is the coefficient of its base word, turned exactly where an odd number of the replaced
--                          letters have sign 1
--   Totals                 CLAIM: a total is that contrast
--   AliasTotals            CLAIM: the contrast of any effect is the total of its base word, turned as in `Aliases`
--   MainEffects            CLAIM: the total of one letter is the sum where its factor is low, less the sum where it is high
--   AnyFactor              CLAIM: for any factor, base or added, that difference is the total of its base word, turned as in `Aliases`
--   Answered               CLAIM: the runs and effects that the run and alias calls answer are those of the plan
use Rattle.std.specs.Prelude.{◌≡◌, ◌⊎◌, Bool, true, cond, not, ℕ, ◌+◌, ◌^◌, ◌<◌, eqb, ℤ, neg_ℤ, length, get_or}
use Rattle.contrasts.specs.Totals.{Column, coef*, total}
use Rattle.contrasts.specs.Contrast.{sign_of, contrast}
use Rattle.words.specs.Words.{has, odd_in}
use Rattle.plan.specs.declared.types.Plan.{Plan}
use Rattle.plan.specs.Check.{plan_refused}
use Rattle.plan.specs.Plan.{added_words, added_signs, factors_of, runs_of, all_letters, confounded_in}
use Rattle.runs.specs.Run.{run_values, run_refused}
use Rattle.aliases.specs.Alias.{odd_signs, alias_values, alias_refused}

-- ---- the words of the claims

pub record TwoLevels (p : Plan) : Type 0 where
  pub accepted : plan_refused p ≡ 0
  pub two : p.levels ≡ 2

abbrev pub high : Plan → ℕ → ℕ
high p r = (run_values p r).0

abbrev pub block : Plan → ℕ → ℕ
block p r = (run_values p r).1

abbrev pub base : Plan → ℕ → ℕ
base p e = (alias_values p e).0

abbrev pub odd_signs_in : Plan → ℕ → Bool
odd_signs_in p e = odd_signs p.k (added_signs p) e

abbrev pub word : Plan → ℕ → ℕ
word p j = get_or (added_words p) j 0

abbrev pub has_sign_one : Plan → ℕ → Bool
has_sign_one p j = eqb (get_or (added_signs p) j 0) 1

abbrev pub factor_sign : Plan → ℕ → ℕ → ℤ
factor_sign p r i = sign_of (has (high p r) i)

abbrev pub odd_high : Plan → ℕ → ℕ → Bool
odd_high p r e = odd_in (high p r) e

abbrev pub sign : Plan → ℕ → ℕ → ℤ
sign p r e = sign_of (odd_high p r e)

abbrev pub contrast_of : Plan → Column → ℕ → ℤ
contrast_of p x e = contrast (runs_of p) (λ r. not (odd_high p r e)) x

abbrev pub turn_if : Bool → ℤ → ℤ
turn_if t z = cond t (neg_ℤ z) z

-- ---- the claims

-- T9: the coefficient of run r in the total of the effect e is -1 exactly when an odd number of the effect's letters are high in the run, and
-- else 1.
abbrev pub Coefficients : Type 0
Coefficients = (p : Plan) → TwoLevels p → (e r : ℕ) → e < runs_of p → coef* (factors_of p) e r ≡ sign p r e

-- P5, R2: base factor i, 0 for A, is high in a run exactly when the coefficient of its letter is -1.
abbrev pub BaseFactors : Type 0
BaseFactors = (p : Plan) → TwoLevels p → (i r : ℕ) → i < p.k → factor_sign p r i ≡ coef* (factors_of p) (2 ^ i) r

-- P7 to P9: the word of added factor j, counted from 0, is an effect of the base factors. With sign 0 the factor is high in a run exactly when the
-- coefficient of its word is -1, and with sign 1 exactly when it is 1. The word is a 16-bit set, as the words of every plan that a call is given.
abbrev pub AddedFactors : Type 0
AddedFactors =
    (p : Plan) → TwoLevels p → (j r : ℕ) → j < length (added_words p) → word p j < 2 ^ 16
    → (word p j < runs_of p) × (factor_sign p r (p.k + j) ≡ turn_if (has_sign_one p j) (coef* (factors_of p) (word p j) r))

-- R4, R6: a confounded effect is one of the plan's, and any two runs of one block have the same coefficient in it: it cannot be told from a
-- difference between blocks.
abbrev pub SameInBlock : Type 0
SameInBlock =
    (p : Plan) → TwoLevels p → (e r s : ℕ) → confounded_in p e ≡ true → block p r ≡ block p s
    → (e < runs_of p) × (coef* (factors_of p) e r ≡ coef* (factors_of p) e s)

-- R4, R6: an effect in which any two runs of one block have the same coefficient is the mean or confounded.
abbrev pub OnlyConfounded : Type 0
OnlyConfounded =
    (p : Plan) → TwoLevels p → (e : ℕ) → e < runs_of p
    → ((r s : ℕ) → r < runs_of p → s < runs_of p → block p r ≡ block p s → coef* (factors_of p) e r ≡ coef* (factors_of p) e s)
    → (e ≡ 0) ⊎ (confounded_in p e ≡ true)

-- E8 to E10: the base word of an effect of all factors is an effect of the base factors, and in every run the effect's sign is the coefficient of its
-- base word, turned exactly where an odd number of the replaced letters have sign 1.
abbrev pub Aliases : Type 0
Aliases =
    (p : Plan) → TwoLevels p → (e r : ℕ) → e < 2 ^ all_letters p
    → (base p e < runs_of p) × (sign p r e ≡ turn_if (odd_signs_in p e) (coef* (factors_of p) (base p e) r))

-- T8: a total is the sum of the readings of the runs in which an even number of the effect's letters are high, less the sum of the others.
abbrev pub Totals : Type 0
Totals = (p : Plan) → TwoLevels p → (x : Column) (e : ℕ) → e < runs_of p → total (factors_of p) x e ≡ contrast_of p x e

-- E8 to E10: the contrast of an effect of all factors is the total of its base word, turned exactly where an odd number of the replaced letters
-- have sign 1: the readings cannot tell two effects apart that have one base word.
abbrev pub AliasTotals : Type 0
AliasTotals =
    (p : Plan) → TwoLevels p → (x : Column) (e : ℕ) → e < 2 ^ all_letters p
    → contrast_of p x e ≡ turn_if (odd_signs_in p e) (total (factors_of p) x (base p e))

-- G3: for one factor, i = 0 for A: the total of its letter is the sum of the runs in which it is not high, less the sum of the others.
abbrev pub MainEffects : Type 0
MainEffects =
    (p : Plan) → TwoLevels p → (x : Column) (i : ℕ) → i < p.k
    → total (factors_of p) x (2 ^ i) ≡ contrast (runs_of p) (λ r. not (has (high p r) i)) x

-- E8 to E10, G3: for any factor, base or added: the sum of the runs in which it is not high, less the sum of the others, is the total of its
-- base word, turned exactly where an odd number of the replaced letters have sign 1.
abbrev pub AnyFactor : Type 0
AnyFactor =
    (p : Plan) → TwoLevels p → (x : Column) (i : ℕ) → i < all_letters p
    → contrast (runs_of p) (λ r. not (has (high p r) i)) x ≡ turn_if (odd_signs_in p (2 ^ i)) (total (factors_of p) x (base p (2 ^ i)))

-- R7, R12, N9, N10: where the run call gives an answer, the plan is accepted, and the run is one of it; where the alias call gives one of a 16-bit set of
-- letters, the plan is accepted and has two levels, and the letters are those of its factors.
abbrev pub Answered : Type 0
Answered =
    (p : Plan) → ((r : ℕ) → run_refused p r ≡ 0 → (plan_refused p ≡ 0) × (r < runs_of p))
    × ((e : ℕ) → e < 2 ^ 16 → alias_refused p e ≡ 0 → TwoLevels p × (e < 2 ^ all_letters p))
