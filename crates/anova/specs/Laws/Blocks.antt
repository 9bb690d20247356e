-- The block amount of a three-level plan: what it is part of, and what it leaves.
--
--   no-degrees, no-amount             without a block word of three levels there is none
--   degrees-stay, row_stays           so every row has its degrees and its numerator
--   sources-stay, rows_stay           and sources and rows are those of the effects
--   two-unchanged                     as they are at two levels
--   uses-row, uses-digits             with one its row is not row 0
--   by-mark                           and is kept or error by its mark: at three levels no row is of the kind blocks
--   two-degrees, of_three             it has 2 degrees, and is that of three-level factors
--   amount-once                       the same as of runs made once
--   word-row-lt                       its row is one of the rows
--   never-below                       "The remainder is never negative", and there are 2 degrees to leave
--   remainder, degrees-left           what is left of that row, and the amount, are the row's numerator; and so of its degrees
--   all_left, all-degrees-left        what is left of all rows, and the amount, are the numerators of all rows; and so of their degrees
--   numerator-moved, degrees-moved    what is left of the rows of a kind, and the amount where its row is one of them, are the kind's by effects
--   other-rows, other-degrees         every other row has all of its own
use Rattle.std.specs.Prelude.{◌≡◌, Bool, true, false, List, ℕ, ◌+◌, ◌-◌, ◌<◌, ◌≤◌, eqb, ℤ, get_or, replicate}
use Rattle.std.proofs.Math.Path.{refl, ap}
use Rattle.std.proofs.Common.{sym, ◌∙◌, arith, eq-eqb, ne_eqb}
use Rattle.std.proofs.Math.Bool.{cond}
use Rattle.std.proofs.Math.Decide.{ℕ_discrete}
use Rattle.algebra.specs.Naturals.{Σℕ}
use Rattle.algebra.specs.Laws.Naturals.{Σℕ-add, Σℕ-cong, Σℕ-one}
use Rattle.algebra.specs.Laws.Tab.{tab-cong}
use Rattle.contrasts.specs.Blocks.{block_numerator}
use Rattle.contrasts.specs.Columns.{read}
use Rattle.contrasts.proofs.Factors.{three}
use Rattle.contrasts.specs.Rows.{row_of, degrees_of, row_numerator}
use Rattle.contrasts.proofs.Laws.Blocks.{amount-is, never-negative}
use Rattle.contrasts.proofs.Laws.Degrees.{row_lt}
use Rattle.contrasts.proofs.Laws.ThreeLevels.{used-degrees}
use Rattle.plan.specs.declared.types.Plan.{Plan}
use Rattle.plan.specs.Check.{plan_refused}
use Rattle.plan.specs.Plan.{factors_of, three_word, word_row}
use Rattle.plan.proofs.Laws.Accepted.{accepted}
use Rattle.plan.proofs.Laws.Sizes.{factors-three, some-repeat}
use Rattle.plan.proofs.Laws.Words.{three-levels, no_number, none-lost, uses-letters, row-of-digits}
use Rattle.rows.specs.Kinds.{rows_in, Kind, kind_by_mark, kind_of, same}
use Rattle.anova.specs.Inner.Effects.{effect_source, rows_by_effects}
use Rattle.anova.specs.Laws.Admitted.{rows-power}
use Rattle.anova.specs.Table.{block_degrees, block_amount, row_degrees, row_left, source_of, rows_of}

-- ---- sums over rows of which one leaves a part

nothing-left-out : (b : Bool) (n a : ℕ) → a ≡ 0 → n - cond b a 0 ≡ n
nothing-left-out true n a e = omega (arith, e)
nothing-left-out false n a e = omega arith

-- row i leaves a
own-part : (b : Bool) (n a : ℕ) → a ≤ n → cond b (n - a) 0 + cond b a 0 ≡ cond b n 0
own-part true n a h = omega arith
own-part false n a h = refl

no_part : (b : Bool) (n : ℕ) → cond b (n - 0) 0 + 0 ≡ cond b n 0
no_part true n = omega arith
no_part false n = refl

part_moved : (n i a : ℕ) (here : ℕ → Bool) (f : ℕ → ℕ) → i < n → a ≤ f i
    → Σℕ n (λ w. cond (here w) (f w - cond (eqb w i) a 0) 0) + cond (here i) a 0 ≡ Σℕ n (λ w. cond (here w) (f w) 0)
part_moved n i a here f h l =
    ap (λ m. Σℕ n (λ w. cond (here w) (f w - cond (eqb w i) a 0) 0) + m) (sym (Σℕ-one n i (λ w. cond (here w) a 0) h))
    ∙ sym (Σℕ-add n (λ w. cond (here w) (f w - cond (eqb w i) a 0) 0) (λ w. cond (eqb i w) (cond (here w) a 0) 0))
    ∙ Σℕ-cong n (λ w _. by w (ℕ_discrete w i))
  where
    by : (w : ℕ) → Dec (w ≡ i)
        → cond (here w) (f w - cond (eqb w i) a 0) 0 + cond (eqb i w) (cond (here w) a 0) 0 ≡ cond (here w) (f w) 0
    by w (yes e) = rw (eq-eqb w i e, eq-eqb i w (sym e)) (own-part (here w) (f w) a (rw e l))
    by w (no d) = rw (ne_eqb w i d, ne_eqb i w (λ e. d (sym e))) (no_part (here w) (f w))

-- the same over all rows
all_moved : (n i a : ℕ) (f : ℕ → ℕ) → i < n → a ≤ f i → Σℕ n (λ w. f w - cond (eqb w i) a 0) + a ≡ Σℕ n f
all_moved n i a f h l = part_moved n i a (λ w. true) f h l

-- ---- without a block word of three levels

module _ (p : Plan) (none : three_word p ≡ 0) where
  pub no-degrees : block_degrees p ≡ 0
  unfolding block_degrees
  no-degrees = rw (eq-eqb (three_word p) 0 none) refl

  pub degrees-stay : (w : ℕ) → row_degrees p w ≡ degrees_of (factors_of p) w
  unfolding row_degrees
  degrees-stay w = nothing-left-out (eqb w (word_row p)) (degrees_of (factors_of p) w) (block_degrees p) no-degrees

  module _ (sums : List ℤ) where
    pub no-amount : block_amount p sums ≡ 0
    unfolding block_amount
    no-amount = rw (eq-eqb (three_word p) 0 none) refl

    pub row_stays : (w : ℕ) → row_left p sums w ≡ row_numerator (factors_of p) (read sums) w
    unfolding row_left
    row_stays w = nothing-left-out (eqb w (word_row p)) (row_numerator (factors_of p) (read sums) w) (block_amount p sums) no-amount

    pub rows_stay : rows_of p sums ≡ rows_by_effects p sums
    unfolding rows_of rows_by_effects
    rows_stay = tab-cong 0 (rows_in p) (row_left p sums) (row_numerator (factors_of p) (read sums)) (λ w _. row_stays w)

    pub sources-stay : (marks : List ℕ) (c : Kind) → source_of p sums marks c ≡ effect_source p sums marks c
    unfolding source_of effect_source
    sources-stay marks c =
        let degrees-are = Σℕ-cong (rows_in p) (λ w _. ap (λ (n : ℕ). cond (same (kind_of p marks w) c) n 0) (degrees-stay w)) in
        let numerator-is = Σℕ-cong (rows_in p) (λ w _. ap (λ (n : ℕ). cond (same (kind_of p marks w) c) n 0) (row_stays w)) in
        λ i. record { degrees = degrees-are i; numerator = numerator-is i }

-- a plan of other levels than three
pub two-unchanged : (p : Plan) → (p.levels ≡ 3 → ⊥) → (sums : List ℤ)
    → (rows_of p sums ≡ rows_by_effects p sums)
    × ((marks : List ℕ) (c : Kind) → source_of p sums marks c ≡ effect_source p sums marks c)
    × ((block_degrees p ≡ 0) × (block_amount p sums ≡ 0))
two-unchanged p l sums =
    let none = no_number p l in
    (rows_stay p none sums, sources-stay p none sums, (no-degrees p none, no-amount p none sums))

-- ---- with one

module _ (p : Plan) (ok : plan_refused p ≡ 0) (some : three_word p ≡ 0 → ⊥) where
  pub uses-row : word_row p ≡ 0 → ⊥
  uses-row = uses-letters p (accepted p ok) some

  pub uses-digits : row_of (replicate p.k three) (three_word p) ≡ 0 → ⊥
  uses-digits e = uses-row (sym (row-of-digits p) ∙ e)

  pub two-degrees : block_degrees p ≡ 2
  unfolding block_degrees
  two-degrees = rw (ne_eqb (three_word p) 0 some) refl

  -- V19: that row "may be marked as error"
  pub by-mark : (marks : List ℕ) → kind_of p marks (word_row p) ≡ kind_by_mark (get_or marks (word_row p) 0)
  unfolding kind_of
  by-mark marks = rw (ne_eqb (word_row p) 0 uses-row, none-lost p (three-levels p some) (word_row p)) refl

  pub of_three : (sums : List ℤ) → block_amount p sums ≡ block_numerator (replicate p.k three) p.repeats (three_word p) (read sums)
  unfolding block_amount
  of_three sums = rw (ne_eqb (three_word p) 0 some, factors-three p (three-levels p some)) refl

  -- the block amount is the same however often runs are made
  pub amount-once : (sums : List ℤ) → block_numerator (replicate p.k three) 1 (three_word p) (read sums) ≡ block_amount p sums
  amount-once sums =
      amount-is p.k (three_word p) uses-digits (read sums) 1 (omega arith)
      ∙ sym (of_three sums ∙ amount-is p.k (three_word p) uses-digits (read sums) p.repeats (some-repeat p ok).0)

-- ---- of any accepted plan

module _ (p : Plan) (ok : plan_refused p ≡ 0) where
  pub word-row-lt : word_row p < rows_in p
  word-row-lt = rw (← (rows-power p)) (row_lt (factors_of p) (three_word p))

  enough-degrees : block_degrees p ≤ degrees_of (factors_of p) (word_row p)
  enough-degrees = by (ℕ_discrete (three_word p) 0)
    where
      by : Dec (three_word p ≡ 0) → block_degrees p ≤ degrees_of (factors_of p) (word_row p)
      by (yes e) = rw (no-degrees p e) (omega arith)
      by (no n) =
          rw (two-degrees p ok n, factors-three p (three-levels p n)) (used-degrees p.k (three_word p) (uses-digits p ok n))

  pub degrees-left : row_degrees p (word_row p) + block_degrees p ≡ degrees_of (factors_of p) (word_row p)
  unfolding row_degrees
  degrees-left = rw (eq-eqb (word_row p) (word_row p) refl) (omega (arith, enough-degrees))

  pub all-degrees-left : Σℕ (rows_in p) (row_degrees p) + block_degrees p ≡ Σℕ (rows_in p) (degrees_of (factors_of p))
  unfolding row_degrees
  all-degrees-left = all_moved (rows_in p) (word_row p) (block_degrees p) (degrees_of (factors_of p)) word-row-lt enough-degrees

  module _ (sums : List ℤ) where
    enough : block_amount p sums ≤ row_numerator (factors_of p) (read sums) (word_row p)
    enough = by (ℕ_discrete (three_word p) 0)
      where
        by : Dec (three_word p ≡ 0) → block_amount p sums ≤ row_numerator (factors_of p) (read sums) (word_row p)
        by (yes e) = rw (no-amount p e sums) (omega arith)
        by (no n) =
            rw (of_three p ok n sums, factors-three p (three-levels p n))
            (never-negative p.k (three_word p) (uses-digits p ok n) (read sums) p.repeats (some-repeat p ok).0)

    -- V20: "The remainder is never negative"
    pub never-below : (block_amount p sums ≤ row_numerator (factors_of p) (read sums) (word_row p)) × (block_degrees p ≤ degrees_of (factors_of p) (word_row p))
    never-below = (enough, enough-degrees)

    -- V19: that row "holds the remainder"
    pub remainder : row_left p sums (word_row p) + block_amount p sums ≡ row_numerator (factors_of p) (read sums) (word_row p)
    unfolding row_left
    remainder = rw (eq-eqb (word_row p) (word_row p) refl) (omega (arith, enough))

    pub all_left : Σℕ (rows_in p) (row_left p sums) + block_amount p sums ≡ Σℕ (rows_in p) (row_numerator (factors_of p) (read sums))
    unfolding row_left
    all_left = all_moved (rows_in p) (word_row p) (block_amount p sums) (row_numerator (factors_of p) (read sums)) word-row-lt enough

    module _ (marks : List ℕ) (c : Kind) where
      pub degrees-moved : (source_of p sums marks c).degrees + cond (same (kind_of p marks (word_row p)) c) (block_degrees p) 0
          ≡ (effect_source p sums marks c).degrees
      unfolding source_of effect_source row_degrees
      degrees-moved =
          part_moved (rows_in p) (word_row p) (block_degrees p) (λ w. same (kind_of p marks w) c) (degrees_of (factors_of p)) word-row-lt enough-degrees

      pub numerator-moved : (source_of p sums marks c).numerator + cond (same (kind_of p marks (word_row p)) c) (block_amount p sums) 0
          ≡ (effect_source p sums marks c).numerator
      unfolding source_of effect_source row_left
      numerator-moved =
          part_moved (rows_in p) (word_row p) (block_amount p sums) (λ w. same (kind_of p marks w) c) (row_numerator (factors_of p) (read sums)) word-row-lt enough

-- every other row has all of its own, of any plan
module _ (p : Plan) (w : ℕ) (other : w ≡ word_row p → ⊥) where
  pub other-degrees : row_degrees p w ≡ degrees_of (factors_of p) w
  unfolding row_degrees
  other-degrees = rw (ne_eqb w (word_row p) other) (omega arith)

  pub other-rows : (sums : List ℤ) → row_left p sums w ≡ row_numerator (factors_of p) (read sums) w
  unfolding row_left
  other-rows sums = rw (ne_eqb w (word_row p) other) (omega arith)

-- of any row
module _ (p : Plan) (ok : plan_refused p ≡ 0) (w : ℕ) where
  pub each-degrees : row_degrees p w + cond (eqb w (word_row p)) (block_degrees p) 0 ≡ degrees_of (factors_of p) w
  each-degrees = by (ℕ_discrete w (word_row p))
    where
      by : Dec (w ≡ word_row p) → row_degrees p w + cond (eqb w (word_row p)) (block_degrees p) 0 ≡ degrees_of (factors_of p) w
      by (yes e) = rw (eq-eqb w (word_row p) e) (ap (λ v. row_degrees p v + block_degrees p) e ∙ degrees-left p ok ∙ ap (degrees_of (factors_of p)) (sym e))
      by (no n) = rw (ne_eqb w (word_row p) n) (omega (arith, other-degrees p w n))

  pub each_left : (sums : List ℤ) → row_left p sums w + cond (eqb w (word_row p)) (block_amount p sums) 0 ≡ row_numerator (factors_of p) (read sums) w
  each_left sums = by (ℕ_discrete w (word_row p))
    where
      by : Dec (w ≡ word_row p) → row_left p sums w + cond (eqb w (word_row p)) (block_amount p sums) 0 ≡ row_numerator (factors_of p) (read sums) w
      by (yes e) =
          rw (eq-eqb w (word_row p) e)
          (ap (λ v. row_left p sums v + block_amount p sums) e ∙ remainder p ok sums ∙ ap (row_numerator (factors_of p) (read sums)) (sym e))
      by (no n) = rw (ne_eqb w (word_row p) n) (omega (arith, other-rows p w n sums))
