-- That the claims of `Letters.antt` hold.
--
--   k-few, not-three-levels, high_is, high_same, base-in, letter-in
--                          an accepted plan of two levels: k, a run's letters, base words and single letters
--   coefficients, base-factors, added-factors, same-in-block, only-confounded, aliases, totals, alias-totals, main-effects, any-factor, answered
--                          the proofs, in this order
use Rattle.std.specs.Prelude.{◌≡◌, refl, Bool, true, false, cond, not, ℕ, ◌+◌, ◌^◌, ◌<◌, ◌≤◌, eqb, leb, get_or}
use Rattle.std.proofs.Common.{sym, ap, ◌∙◌, arith, leb-false}
use Rattle.std.proofs.Math.Pow.{pow-lt}
use Rattle.std.proofs.lemmas.Bool.{eqb-false}
use Rattle.contrasts.specs.Totals.{Column, coef*}
use Rattle.contrasts.specs.Contrast.{sign_of, contrast}
use Rattle.contrasts.proofs.Laws.Signed.{same_sign, contrast-turned}
use Rattle.words.specs.Words.{has, odd_in, beyond}
use Rattle.words.specs.Laws.Letters.{within}
use Rattle.words.specs.Laws.Parity.{one-odd}
use Rattle.plan.specs.declared.types.Plan.{Plan}
use Rattle.plan.specs.Check.{plan_refused}
use Rattle.plan.specs.Plan.{added_words, added_signs, block_words, factors_of, runs_of, all_letters}
use Rattle.plan.proofs.Laws.Accepted.{Accepted, accepted, signs-small, sizes}
use Rattle.plan.proofs.Laws.Answers.{passed, plan-passed}
use Rattle.plan.proofs.Laws.Confounded.{base-letters-only}
use Rattle.plan.proofs.Laws.Sizes.{two-levels, runs-two, letters-few}
use Rattle.plan.proofs.Laws.Coefficients.{plan-coef, plan-total}
use Rattle.runs.specs.Run.{high_letters, block_number, run_refusals, run_refused}
use Rattle.runs.specs.Laws.Blocks.{constant, only-combined}
use Rattle.runs.specs.Laws.High.{high-added, high-turned, values-two}
use Rattle.runs.specs.Laws.BaseLetters.{high-odd}
use Rattle.aliases.specs.Alias.{alias_refusals, alias_refused}
use Rattle.aliases.specs.Laws.InRuns.{plan-reduces-odd}
use Rattle.aliases.specs.Laws.BaseWord.{base-small}
use Rattle.claims.specs.Letters.{TwoLevels, high, block, base, odd_signs_in, word, has_sign_one, odd_high, contrast_of, turn_if, Coefficients, BaseFactors, AddedFactors, SameInBlock, OnlyConfounded, Aliases, Totals, AliasTotals, MainEffects, AnyFactor, Answered}

module _ (p : Plan) (t : TwoLevels p) where
  pub a : Accepted p
  a = accepted p t.accepted

  pub k-few : p.k ≤ 10
  k-few = (sizes p t.accepted).0

  -- an effect of the base factors, by the run's number
  coef-odd : (e r : ℕ) → e < runs_of p → coef* (factors_of p) e r ≡ sign_of (odd_in r e)
  coef-odd e r h = plan-coef p t.accepted t.two e h r

  pub not-three-levels : p.levels ≡ 3 → ⊥
  not-three-levels e = omega (arith, e, t.two)

  pub high_is : (r : ℕ) → high p r ≡ high_letters p.k (added_words p) (added_signs p) r
  high_is r = ap (λ (v : ℕ × ℕ). v.0) (values-two p r not-three-levels)

  block-is : (r : ℕ) → block p r ≡ block_number (block_words p) r
  block-is r = ap (λ (v : ℕ × ℕ). v.1) (values-two p r not-three-levels)

  pub high_same : (e r : ℕ) → e < runs_of p → odd_high p r e ≡ odd_in r e
  high_same e r h = ap (λ (w : ℕ). odd_in w e) (high_is r) ∙ high-odd p.k (added_words p) (added_signs p) r e (omega (arith, k-few)) (rw (runs-two p t.two) at h)

  pub base-in : (e : ℕ) → base p e < runs_of p
  base-in e = rw (runs-two p t.two) (base-small p a e)

  pub letter-in : (i : ℕ) → i < p.k → 2 ^ i < runs_of p
  letter-in i h = rw (runs-two p t.two) (pow-lt h)

  one-high : (i r : ℕ) → i < all_letters p → odd_high p r (2 ^ i) ≡ has (high p r) i
  one-high i r h = one-odd (high p r) i (omega (arith, h, letters-few p a))

pub coefficients : Coefficients
coefficients p t e r h = coef-odd p t e r h ∙ ap sign_of (sym (high_same p t e r h))

pub base-factors : BaseFactors
base-factors p t i r h = sym (coefficients p t (2 ^ i) r (letter-in p t i h) ∙ ap sign_of (one-high p t i r (omega (arith, h))))

pub same-in-block : SameInBlock
same-in-block p t e r s c b =
    let h : e < runs_of p = rw (runs-two p t.two) (base-letters-only (a p t) e c) in
    (h, coef-odd p t e r h ∙ ap sign_of (constant (block_words p) e r s c (sym (block-is p t r) ∙ b ∙ block-is p t s)) ∙ sym (coef-odd p t e s h))

pub only-confounded : OnlyConfounded
only-confounded p t e h same =
    let n : runs_of p ≡ 2 ^ p.k = runs-two p t.two in
    only-combined p.k (block_words p) (omega (arith, k-few p t)) (λ j l. ((a p t).blocks j l).0) e (rw n at h)
    (λ r s l m b. same_sign (odd_in r e) (odd_in s e) (sym (coef-odd p t e r h) ∙ same r s (rw n l) (rw n m) (block-is p t r ∙ b ∙ sym (block-is p t s)) ∙ coef-odd p t e s h))

sign-turned : (t b : Bool) → sign_of (cond t (not b) b) ≡ turn_if t (sign_of b)
sign-turned true true = refl
sign-turned true false = refl
sign-turned false b = refl

pub added-factors : AddedFactors
added-factors p t j r l w =
    let h : word p j < runs_of p = rw (runs-two p t.two) (within p.k (word p j) w ((a p t).words j l).0) in (
      h,
      ap sign_of (ap (λ (w : ℕ). has w (p.k + j)) (high_is p t r) ∙ high-added p.k (added_words p) (added_signs p) r j l ∙ high-turned (get_or (added_signs p) j 0) (word p j) r (signs-small (a p t) j))
          ∙ sign-turned (has_sign_one p j) (odd_in r (word p j))
          ∙ ap (turn_if (has_sign_one p j)) (sym (coef-odd p t (word p j) r h)),
    )

odd-turned : (p : Plan) → TwoLevels p → (e : ℕ) → e < 2 ^ all_letters p → (r : ℕ)
    → odd_high p r e ≡ cond (odd_signs_in p e) (not (odd_in r (base p e))) (odd_in r (base p e))
odd-turned p t e f r = plan-reduces-odd p (a p t) (not-three-levels p t) r e f

pub aliases : Aliases
aliases p t e r f = (
  base-in p t e,
  ap sign_of (odd-turned p t e f r)
      ∙ sign-turned (odd_signs_in p e) (odd_in r (base p e))
      ∙ ap (turn_if (odd_signs_in p e)) (sym (coef-odd p t (base p e) r (base-in p t e))),
)

pub totals : Totals
totals p t x e h =
    plan-total p t.accepted t.two e h x
    ∙ sym (contrast-turned (runs_of p) (λ r. not (odd_high p r e)) (λ r. not (odd_in r e)) x false (λ r l. ap not (high_same p t e r h)))

not-turned : (t b : Bool) → not (cond t (not b) b) ≡ cond t (not (not b)) (not b)
not-turned true b = refl
not-turned false b = refl

pub alias-totals : AliasTotals
alias-totals p t x e f =
    contrast-turned (runs_of p) (λ r. not (odd_high p r e)) (λ r. not (odd_in r (base p e))) x (odd_signs_in p e)
    (λ r h. ap not (odd-turned p t e f r) ∙ not-turned (odd_signs_in p e) (odd_in r (base p e)))
    ∙ ap (turn_if (odd_signs_in p e)) (sym (plan-total p t.accepted t.two (base p e) (base-in p t e) x))

-- the contrast of one letter
one-contrast : (p : Plan) → TwoLevels p → (x : Column) (i : ℕ) → i < all_letters p
    → contrast_of p x (2 ^ i) ≡ contrast (runs_of p) (λ r. not (has (high p r) i)) x
one-contrast p t x i h =
    contrast-turned (runs_of p) (λ r. not (odd_high p r (2 ^ i))) (λ r. not (has (high p r) i)) x false (λ r l. ap not (one-high p t i r h))

pub main-effects : MainEffects
main-effects p t x i h = totals p t x (2 ^ i) (letter-in p t i h) ∙ one-contrast p t x i (omega (arith, h))

pub any-factor : AnyFactor
any-factor p t x i h = sym (one-contrast p t x i h) ∙ alias-totals p t x (2 ^ i) (pow-lt h)

-- a plan that passes refusal 9
not_three : (p : Plan) → plan_refused p ≡ 0 → eqb p.levels 3 ≡ false → TwoLevels p
not_three p z e = record { accepted = z; two = two-levels p z (eqb-false p.levels 3 e) }

run-answered : (p : Plan) (r : ℕ) → run_refused p r ≡ 0 → (plan_refused p ≡ 0) × (r < runs_of p)
unfolding run_refused
run-answered p r n =
    let l = plan-passed p (run_refusals p r) n in
    let ten = passed (leb (runs_of p) r) 10 _ (omega arith) l.1 in
    (l.0, leb-false (runs_of p) r ten.0)

alias-answered : (p : Plan) (e : ℕ) → e < 2 ^ 16 → alias_refused p e ≡ 0 → TwoLevels p × (e < 2 ^ all_letters p)
unfolding alias_refused
alias-answered p e h n =
    let l = plan-passed p (alias_refusals p e) n in
    let nine = passed (eqb p.levels 3) 9 _ (omega arith) l.1 in
    let ten = passed (beyond (all_letters p) e) 10 _ (omega arith) nine.1 in
    (not_three p l.0 nine.0, within (all_letters p) e h ten.0)

pub answered : Answered
answered p = (run-answered p, alias-answered p)
