-- How many effects a plan has, and what is known of one that has some.
--
--   threes-of, few-three              3 to the power k is a multiple of 3, and at most 729
--   none-counted                      where there are no effects, a list of them is as it was begun
--   few-effects                       there are at most 1,024
--   known_two, known-three, is-three  where there are some, by the levels
use mathlib.Core.Path.{◌≡◌, refl, ◌∙◌, ap}
use mathlib.Core.Bool.{Bool, true, false, cond}
use mathlib.Core.Logic.{◌⊎◌, inl, inr}
use Prim.Native.Nat.{ℕ, ◌+◌, ◌-◌, ◌%◌, ◌^◌, ◌<◌, ◌≤◌}
use native.Mathlib.Nat.{pow-suc, pow-le-pow_right, mul-mod_left}
use native.Mathlib.Numerals.{add-one}
use native.Mathlib.Omega.{arith}
use lib.Dec.{ltb}
use lib.ListN.{replicate}
use Rattle.algebra.specs.Tab.{tab}
use Rattle.algebra.specs.Laws.Fill.{filled-blank}
use Rattle.plan.specs.declared.types.Plan.{Plan}
use Rattle.plan.specs.Check.{bad_levels, bad_factors, run_count}
use Rattle.plan.proofs.Laws.Accepted.{factors-known}
use Rattle.plan.proofs.Laws.Sizes.{RunsTwo, RunsThree, runs-known}

pub threes-of : (k : ℕ) → 0 < k → 3 ^ k % 3 ≡ 0
threes-of k h =
    let e : k ≡ k - 1 + 1 = omega arith in
    ap (λ j. 3 ^ j % 3) (e ∙ add-one (k - 1)) ∙ rw (pow-suc 3 (k - 1)) (mul-mod_left (3 ^ (k - 1)) 3)

pub few-three : {k n : ℕ} → n ≡ 3 ^ k → k ≤ 6 → n ≤ 729
few-three {k} e h = rw e (pow-le-pow_right {n = 3} (omega arith) {i = k} {j = 6} h)

pub none-counted : {n : ℕ} → n ≡ 0 → (f : ℕ → ℕ) (z : ℕ) → replicate 1024 z ≡ tab 1024 (λ e. cond (ltb e n) (f e) z)
none-counted none f z = (filled-blank 0 1024 f z).so ∙ rw none refl

module _ (p : Plan) {n : ℕ} (count : n ≡ run_count p) where
  pub few-effects : n ≤ 1024
  few-effects = by (runs-known p)
    where
      by : (run_count p ≡ 0) ⊎ (RunsTwo p ⊎ RunsThree p) → n ≤ 1024
      by (inl z) = omega (arith, count)
      by (inr (inl a)) = rw (count ∙ a.count) (pow-le-pow_right {n = 2} (omega arith) {i = p.k} {j = 10} a.most)
      by (inr (inr a)) = omega (arith, few-three (count ∙ a.count) a.most)

  module _ (some : n ≡ 0 → ⊥) where
    pub known_two : p.levels ≡ 2 → RunsTwo p
    known_two l = by (runs-known p)
      where
        by : (run_count p ≡ 0) ⊎ (RunsTwo p ⊎ RunsThree p) → RunsTwo p
        by (inl z) = absurd (some (count ∙ z))
        by (inr (inl a)) = a
        by (inr (inr a)) = absurd (omega (arith, l, a.levels))

    -- so k is in range, from 1
    some-factor : 0 < p.k
    unfolding run_count
    some-factor = by (bad_levels p.levels) (bad_factors p.levels p.k) refl refl
      where
        by : (a b : Bool) → bad_levels p.levels ≡ a → bad_factors p.levels p.k ≡ b → 0 < p.k
        by true b d e = absurd (some (count ∙ rw d refl))
        by false true d e = absurd (some (count ∙ rw (d, e) refl))
        by false false d e = (factors-known p.levels p.k e).0

    module _ (l : p.levels ≡ 2 → ⊥) where
      pub known-three : RunsThree p
      known-three = by (runs-known p)
        where
          by : (run_count p ≡ 0) ⊎ (RunsTwo p ⊎ RunsThree p) → RunsThree p
          by (inl z) = absurd (some (count ∙ z))
          by (inr (inl a)) = absurd (l a.levels)
          by (inr (inr a)) = a

      pub is-three : (n ≡ 3 ^ p.k) × (0 < p.k) × (p.k ≤ 6) × (n ≤ 729)
      is-three = (count ∙ known-three.count, some-factor, known-three.most, few-three (count ∙ known-three.count) known-three.most)
