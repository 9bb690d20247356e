-- The rows of effects.
--
--   RowsThree n q ys                        at three levels, rows are filled below effect 3 q, each from that of a lower effect
--   three-none, three-more                  before the first three effects, after three more
--   three-fits                              the row that is read fits
--   in-threes                               how many effects there are at three levels
--   effect-rows-two, effect-rows-three      the rows of a plan, by its levels
use mathlib.Core.Path.{◌≡◌, refl, sym, ◌∙◌, ap}
use mathlib.Core.Bool.{cond}
use mathlib.Core.List.{List}
use mathlib.Core.Logic.{◌⊎◌, inl, inr}
use Prim.Native.Nat.{ℕ, ◌+◌, ◌-◌, ◌*◌, ◌/◌, ◌%◌, ◌^◌, ◌<◌, ◌≤◌}
use native.Mathlib.Decide.{dec_lt, ℕ_discrete}
use native.Mathlib.Omega.{arith}
use borrow.Author.Tests.{lt-ltb, le-ltb}
use lib.Dec.{ltb}
use lib.ListN.{get_or, set, replicate}
use Rattle.algebra.specs.Laws.Fill.{filled-blank}
use Rattle.algebra.specs.Tab.{tab}
use Rattle.algebra.specs.Laws.Tab.{tab-cong}
use Rattle.contrasts.specs.Rows.{row_of}
use Rattle.contrasts.proofs.Factors.{three}
use Rattle.contrasts.specs.Totals.{size}
use Rattle.contrasts.proofs.Laws.Degrees.{row_lt}
use Rattle.contrasts.proofs.Laws.Rows.{row-none, row-fewer, row-two}
use Rattle.contrasts.proofs.Laws.ThreeLevels.{size-three, row-three}
use Rattle.plan.specs.declared.types.Plan.{Plan}
use Rattle.plan.specs.Check.{run_count}
use Rattle.plan.specs.Plan.{factors_of}
use Rattle.plan.proofs.Laws.Sizes.{RunsTwo, RunsThree, runs-known}
use Rattle.effects.specs.Effects.{effect_rows}
use Rattle.effects.proofs.Counted.{threes-of, is-three}
use Rattle.effects.proofs.Filling.{Threes, threes-none, threes-read, threes-more}

-- ---- three levels

abbrev row : ℕ → ℕ
row e = row_of (replicate 6 three) e

-- at first all rows are 0, which is that of effect 0
abbrev pub RowsThree : ℕ → ℕ → List ℕ → Type 0
RowsThree n q ys = Threes (row_of (replicate 6 three)) (λ j. 0) n q ys

pub three-none : (n : ℕ) → RowsThree n 0 (replicate 1024 0)
three-none n = threes-none n (filled-blank 0 1024 row 0)

module _ {n q : ℕ} {ys : List ℕ} (w : RowsThree n q ys) (low : q < n / 3) (most : n ≤ 729) where
  before : get_or ys q 0 ≡ row q
  before = threes-read w low (omega arith) (sym (row-none (replicate 6 three)))

  pub three-fits : get_or ys q 0 < 64
  three-fits = rw before (row_lt (replicate 6 three) q)

  pub three-more : {a b c : ℕ} → a ≡ get_or ys q 0 * 2 → b ≡ get_or ys q 0 * 2 + 1 → c ≡ get_or ys q 0 * 2 + 1
      → RowsThree n (q + 1) (set (set (set ys (q * 3) a) (q * 3 + 1) b) (q * 3 + 2) c)
  three-more d e f =
      let r = row-three 5 q (omega arith) refl in
      threes-more w low (omega arith) (omega (arith, before, r.0)) (omega (arith, before, r.1)) (omega (arith, before, r.2))

-- ---- the rows of a plan

module _ (p : Plan) {n : ℕ} (count : n ≡ run_count p) where
  -- the entries below n decide
  as_rows : (f : ℕ → ℕ) → ((e : ℕ) → e < n → f e ≡ row_of (factors_of p) e) → tab 1024 (λ e. cond (ltb e n) (f e) 0) ≡ effect_rows p
  unfolding effect_rows
  as_rows f h = rw (← count) (tab-cong 0 1024 _ _ (λ e l. by e (dec_lt e n)))
    where
      by : (e : ℕ) → Dec (e < n) → cond (ltb e n) (f e) 0 ≡ cond (ltb e n) (row_of (factors_of p) e) 0
      by e (yes k) = rw (lt-ltb e n k) (h e k)
      by e (no k) = rw (le-ltb e n (omega arith)) refl

  no_rows : n ≡ 0 → {ys : List ℕ} (f : ℕ → ℕ) → ys ≡ tab 1024 (λ e. cond (ltb e n) (f e) 0) → ys ≡ effect_rows p
  no_rows z f e = e ∙ as_rows f (λ e h. absurd (omega arith))

  rows-two : RunsTwo p → {ys : List ℕ} → ys ≡ tab 1024 (λ e. cond (ltb e n) e 0) → ys ≡ effect_rows p
  rows-two a e = e ∙ as_rows (λ e. e) (λ e h. rw a.factors (sym (row-two p.k e (rw (count ∙ a.count) at h))))

  rows-three : RunsThree p → {ys : List ℕ} → ys ≡ tab 1024 (λ e. cond (ltb e n) (row_of (replicate 6 three) e) 0) → ys ≡ effect_rows p
  rows-three a e = e ∙ as_rows row (λ e h. fewer e (rw (count ∙ a.count) at h))
    where
      below : (e : ℕ) → e < 3 ^ p.k → e < size (replicate p.k three)
      below e h = rw (size-three p.k) h

      fewer : (e : ℕ) → e < 3 ^ p.k → row e ≡ row_of (factors_of p) e
      fewer e h =
          let six : 6 ≡ p.k + (6 - p.k) = omega (arith, a.most) in
          rw a.factors (ap (λ m. row_of (replicate m three) e) six ∙ row-fewer three p.k (6 - p.k) e (below e h))

  pub effect-rows-two : p.levels ≡ 2 → {ys : List ℕ} → ys ≡ tab 1024 (λ e. cond (ltb e n) e 0) → ys ≡ effect_rows p
  effect-rows-two l {ys} e = by (runs-known p)
    where
      by : (run_count p ≡ 0) ⊎ (RunsTwo p ⊎ RunsThree p) → ys ≡ effect_rows p
      by (inl z) = no_rows (count ∙ z) (λ e. e) e
      by (inr (inl a)) = rows-two a e
      by (inr (inr a)) = absurd (omega (arith, l, a.levels))

  module _ (l : p.levels ≡ 2 → ⊥) where
    pub in-threes : (n % 3 ≡ 0) × (n ≤ 729)
    in-threes = by (ℕ_discrete n 0)
      where
        by : Dec (n ≡ 0) → (n % 3 ≡ 0) × (n ≤ 729)
        by (yes z) = (omega arith, omega arith)
        by (no some) =
            let known = is-three p count some l in
            (rw known.0 (threes-of p.k known.1), known.3)

    pub effect-rows-three : {ys : List ℕ} → ys ≡ tab 1024 (λ e. cond (ltb e n) (row_of (replicate 6 three) e) 0) → ys ≡ effect_rows p
    effect-rows-three {ys} e = by (runs-known p)
      where
        by : (run_count p ≡ 0) ⊎ (RunsTwo p ⊎ RunsThree p) → ys ≡ effect_rows p
        by (inl z) = no_rows (count ∙ z) row e
        by (inr (inl a)) = absurd (l a.levels)
        by (inr (inr a)) = rows-three a e
