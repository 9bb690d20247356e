-- The divisors of effects.
--
--   entry, entry-fits                             an entry of the table for k factors is a divisor, and fits
--   times-fits                                    r times a divisor fits
--   no-effects                                    the divisors of a plan without effects
--   effect-divisors-two, effect-divisors-three    those of any other, by its levels
use mathlib.Core.Path.{◌≡◌, refl, sym, ◌∙◌, ap}
use mathlib.Core.Bool.{cond}
use mathlib.Core.List.{List}
use Prim.Native.Nat.{ℕ, ◌+◌, ◌-◌, ◌*◌, ◌/◌, ◌^◌, ◌<◌, ◌≤◌}
use native.Mathlib.Nat.{mul-le-mul, mul-le-mul_left, pow-le-pow_right}
use native.Mathlib.Omega.{arith}
use lib.Dec.{ltb}
use lib.ListN.{get_or, replicate}
use Rattle.algebra.specs.Tab.{tab}
use Rattle.algebra.specs.Laws.Tab.{get_or-tab, tab-cong}
use Rattle.contrasts.proofs.Factors.{three}
use Rattle.contrasts.specs.Totals.{divisor*, weight*}
use Rattle.contrasts.proofs.Laws.Divisors.{shares, weight-pos}
use Rattle.contrasts.proofs.Laws.ThreeLevels.{divisor-three, denominator-three}
use Rattle.contrasts.proofs.Laws.TwoLevels.{divisor-two}
use Rattle.plan.specs.declared.types.Plan.{Plan}
use Rattle.plan.specs.Check.{run_count}
use Rattle.plan.specs.Plan.{factors_of, divisor_of}
use Rattle.effects.specs.Inner.Divisors.{divisors_of}
use Rattle.effects.specs.Effects.{effect_divisors}
use Rattle.effects.proofs.Counted.{few-three, none-counted, known_two, known-three}

pub entry : {k n : ℕ} → n ≡ 3 ^ k → k ≤ 6 → {e : ℕ} → e < n → {ds : List ℕ} → ds ≡ divisors_of k
    → get_or ds e 0 ≡ divisor* (replicate k three) e
unfolding divisors_of
entry {k} count most {e} low of = rw of (get_or-tab 0 729 _ e (omega (arith, few-three count most)) ∙ sym fewer)
  where
    six : k + (6 - k) ≡ 6
    six = omega arith

    fewer : divisor* (replicate k three) e ≡ divisor* (replicate 6 three) e / 3 ^ (6 - k)
    fewer = divisor-three k (6 - k) e (rw (← count) low) ∙ rw six refl

-- a divisor times its weight is the denominator, which is 6 to the power k
divisor-fits : (k e : ℕ) → k ≤ 6 → divisor* (replicate k three) e ≤ 46656
divisor-fits k e most =
    let d = divisor* (replicate k three) e in
    let whole : d * weight* (replicate k three) e ≡ 6 ^ k = shares (replicate k three) e ∙ denominator-three k in
    let part : d * 1 ≤ d * weight* (replicate k three) e = mul-le-mul_left d (weight-pos (replicate k three) e) in
    let six : 6 ^ k ≤ 46656 = pow-le-pow_right {n = 6} (omega arith) {i = k} {j = 6} most in
    omega (arith, whole, part, six)

pub entry-fits : {k n : ℕ} → n ≡ 3 ^ k → k ≤ 6 → {e : ℕ} → e < n → {ds : List ℕ} → ds ≡ divisors_of k → get_or ds e 0 ≤ 46656
entry-fits {k} count most {e} low of = rw (entry count most low of) (divisor-fits k e most)

pub times-fits : {r d : ℕ} → r < 2 ^ 8 → d ≤ 46656 → r * d < 2 ^ 32
times-fits {r} {d} few small =
    let most : r ≤ 255 = omega arith in
    omega (arith, mul-le-mul most small)

module _ (p : Plan) {n : ℕ} (count : n ≡ run_count p) where
  pub no-effects : n ≡ 0 → replicate 1024 1 ≡ effect_divisors p
  unfolding effect_divisors
  no-effects z = rw (← count) (none-counted z (divisor_of p) 1)

  module _ (some : n ≡ 0 → ⊥) where
    pub effect-divisors-two : p.levels ≡ 2 → {ys : List ℕ} → ys ≡ tab 1024 (λ e. cond (ltb e n) (p.repeats * n) 1) → ys ≡ effect_divisors p
    unfolding effect_divisors
    effect-divisors-two l e =
        let a = known_two p count some l in
        let all : (j : ℕ) → n ≡ divisor* (factors_of p) j = λ j. count ∙ a.count ∙ sym (rw a.factors (divisor-two p.k j)) in
        e ∙ rw (← count) (tab-cong 0 1024 _ _ (λ j _. ap (λ d. cond (ltb j n) (p.repeats * d) 1) (all j)))

    pub effect-divisors-three : (p.levels ≡ 2 → ⊥) → {ys : List ℕ}
        → ys ≡ tab 1024 (λ e. cond (ltb e n) (p.repeats * divisor* (replicate p.k three) e) 1) → ys ≡ effect_divisors p
    unfolding effect_divisors
    effect-divisors-three l e = e ∙ rw (← count, (known-three p count some l).factors) refl
