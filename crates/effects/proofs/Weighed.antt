-- The weights of effects.
--
--   WeightsThree k n q ys                     at three levels, weights are filled below effect 3 q, each from that of a lower effect
--   three-none, three-more, three-all         before the first three effects, after three more, after the last
--   three-fits                                the weight that is read fits
--   no-weights                                the weights of a plan without effects
--   effect-weights-two, effect-weights-three  those of any other, by its levels
use mathlib.Core.Path.{◌≡◌, refl, sym, ◌∙◌, ap}
use mathlib.Core.Bool.{cond}
use mathlib.Core.List.{List}
use Prim.Native.Nat.{ℕ, suc, ◌+◌, ◌-◌, ◌*◌, ◌/◌, ◌^◌, ◌<◌, ◌≤◌}
use native.Mathlib.Nat.{pow-suc, one-le-pow}
use native.Mathlib.Decide.{dec_lt}
use native.Mathlib.Omega.{arith}
use borrow.Author.Tests.{lt-ltb, le-ltb}
use lib.Dec.{ltb, lit<}
use lib.ListN.{get_or, set, replicate}
use Rattle.algebra.specs.Laws.Fill.{Filled, filled_none, filled-blank, filled-long, filled_more}
use Rattle.algebra.specs.Tab.{tab}
use Rattle.algebra.specs.Laws.Tab.{get_or-tab, tab-cong}
use Rattle.contrasts.proofs.Factors.{three}
use Rattle.contrasts.specs.Totals.{weight*}
use Rattle.contrasts.proofs.Laws.ThreeLevels.{weight-first, weight-fits, weight-three}
use Rattle.contrasts.proofs.Laws.TwoLevels.{weight-two}
use Rattle.plan.specs.declared.types.Plan.{Plan}
use Rattle.plan.specs.Check.{run_count}
use Rattle.plan.specs.Plan.{factors_of}
use Rattle.effects.specs.Effects.{effect_weights}
use Rattle.effects.proofs.Counted.{threes-of, none-counted, known_two, known-three}
use Rattle.effects.proofs.Filling.{Threes, threes-none, threes-read, threes-more, threes-all}

-- ---- three levels

-- at first the weight of effect 0 stands there, and 0 elsewhere
abbrev pub WeightsThree : ℕ → ℕ → ℕ → List ℕ → Type 0
WeightsThree k n q ys = Threes (weight* (replicate k three)) (λ j. cond (ltb j 1) (weight* (replicate k three) j) 0) n q ys

pub three-none : (k n : ℕ) {v : ℕ} → v ≡ 2 ^ k → WeightsThree k n 0 (set (replicate 1024 0) 0 v)
three-none k n {v} e =
    threes-none n (filled_none 0 1024 _ _ _ (filled-long 0 first) (λ j h. ap (λ ys. get_or ys j 0) first.so ∙ get_or-tab 0 1024 _ j h))
  where
    first : Filled 1024 (weight* (replicate k three)) (λ j. 0) 1 (set (replicate 1024 0) 0 v)
    first = filled_more 0 (filled-blank 0 1024 (weight* (replicate k three)) 0) (omega arith) (e ∙ sym (weight-first k))

module _ {k n : ℕ} (pre : (n ≡ 3 ^ k) × (0 < k) × (k ≤ 6) × (n ≤ 729)) where
  -- there is a lowest digit, and k - 1 factors have the others
  others : k ≡ suc (k - 1)
  others = omega (arith, pre.1)

  pub three-all : {q : ℕ} {ys : List ℕ} → WeightsThree k n q ys → n / 3 ≤ q
      → ys ≡ tab 1024 (λ j. cond (ltb j n) (weight* (replicate k three) j) 0)
  three-all w h = threes-all w (rw pre.0 (threes-of k pre.1)) h ∙ tab-cong 0 1024 _ _ (λ j _. by j (dec_lt j n))
    where
      by : (j : ℕ) → Dec (j < n) → cond (ltb j n) (weight* (replicate k three) j) (cond (ltb j 1) (weight* (replicate k three) j) 0)
          ≡ cond (ltb j n) (weight* (replicate k three) j) 0
      by j (yes l) = rw (lt-ltb j n l) refl
      by j (no l) = rw (le-ltb j n (omega arith), le-ltb j 1 (omega (arith, pre.0, one-le-pow k 3 (lit< tt)))) refl

  module _ {q : ℕ} {ys : List ℕ} (w : WeightsThree k n q ys) (low : q < n / 3) where
    before : get_or ys q 0 ≡ weight* (replicate k three) q
    before = threes-read w low (omega (arith, pre.3)) refl

    pub three-fits : get_or ys q 0 ≤ 46656
    three-fits = rw before (weight-fits k q pre.2)

    below : q < 3 ^ (k - 1)
    below = omega (arith, low, pre.0, ap (λ j. 3 ^ j) others ∙ pow-suc 3 (k - 1))

    pub three-more : {a b c : ℕ} → a ≡ get_or ys q 0 → b ≡ 3 * (get_or ys q 0 / 2) → c ≡ get_or ys q 0 / 2
        → WeightsThree k n (q + 1) (set (set (set ys (q * 3) a) (q * 3 + 1) b) (q * 3 + 2) c)
    three-more d e f =
        let s = weight-three (k - 1) q below others in
        threes-more w low (omega (arith, pre.3)) (d ∙ rw before (sym s.0)) (e ∙ rw before (sym s.1)) (f ∙ rw before (sym s.2))

-- ---- the weights of a plan

module _ (p : Plan) {n : ℕ} (count : n ≡ run_count p) where
  pub no-weights : n ≡ 0 → replicate 1024 0 ≡ effect_weights p
  unfolding effect_weights
  no-weights z = rw (← count) (none-counted z (weight* (factors_of p)) 0)

  module _ (some : n ≡ 0 → ⊥) where
    pub effect-weights-two : p.levels ≡ 2 → {ys : List ℕ} → ys ≡ tab 1024 (λ e. cond (ltb e n) 1 0) → ys ≡ effect_weights p
    unfolding effect_weights
    effect-weights-two l e =
        e ∙ rw (← count, (known_two p count some l).factors)
        (tab-cong 0 1024 _ _ (λ j _. ap (λ d. cond (ltb j n) d 0) (sym (weight-two p.k j))))

    pub effect-weights-three : (p.levels ≡ 2 → ⊥) → {ys : List ℕ}
        → ys ≡ tab 1024 (λ e. cond (ltb e n) (weight* (replicate p.k three) e) 0) → ys ≡ effect_weights p
    unfolding effect_weights
    effect-weights-three l e = e ∙ rw (← count, (known-three p count some l).factors) refl
