-- What a loop holds by the lists that it is handed is what rows and sums hold after e totals, for every e.
--
--   Agree row num kind t row' num' kind' t' n    lists agree with other ones on the first n effects
--   walking-agrees, walked-agrees                 then the state of a loop is the same by both, and so is its end
--   row-there                                     an effect's row is one of the plan's
--   two-agrees, three-agrees                      the lists that are handed on at two levels, and at three, agree with the plan
--   rows_agree, sums-agree                        totals that agree leave the same rows and sums
--   rows-after                                    the rows, by the plan's own rows, numerators and kinds, are those of `rows_after`
use Rattle.std.specs.Prelude.{◌≡◌, true, List, ℕ, ◌*◌, ◌<◌, ltb, ℤ}
use Rattle.std.proofs.Math.Path.{refl, sym, ap}
use Rattle.std.proofs.Common.{◌∙◌, mul-one, arith, lt-ltb}
use Rattle.std.proofs.Math.IntN.{nat_abs}
use Rattle.std.proofs.Math.ListN.{get_or}
use Rattle.std.proofs.lemmas.List.{length-replicate}
use Rattle.algebra.specs.Laws.Sorted.{sum-cong, sorted-cong}
use Rattle.algebra.specs.Laws.Sum.{Σ-cong}
use Rattle.algebra.specs.Laws.Tab.{get_or-tab}
use Rattle.algebra.specs.Sorted.{sum_at}
use Rattle.algebra.specs.Tab.{tab}
use Rattle.contrasts.specs.Columns.{read}
use Rattle.contrasts.proofs.Factors.{of_levels}
use Rattle.contrasts.proofs.Laws.Degrees.{row_lt}
use Rattle.contrasts.proofs.Laws.Rows.{row-two}
use Rattle.contrasts.proofs.Laws.TwoLevels.{weight-two}
use Rattle.contrasts.specs.Rows.{row_of}
use Rattle.contrasts.specs.Totals.{Column, weight*, numerator_of}
use Rattle.effects.specs.Effects.{effect_rows, effect_weights}
use Rattle.plan.specs.declared.types.Plan.{Plan}
use Rattle.plan.specs.Check.{plan_refused, run_count}
use Rattle.plan.specs.Plan.{factors_of, runs_of}
use Rattle.plan.proofs.Laws.Sizes.{run-count, runs-two, runs-few, factors-two}
use Rattle.rows.specs.Kinds.{rows_in, kept_row, kind_of, code_of, kinds_of}
use Rattle.rows.proofs.Laws.Rows.{rows_few}
use Rattle.walks.specs.declared.types.Sums.{Sums}
use Rattle.walks.specs.After.{kind_at, numerator_at, rows_after, sums_by, sums_after}
use Rattle.walks.specs.State.{code_at, numerator_by, square_at}
use Rattle.walks.specs.Inner.Walk.{Walked, Walking}

-- ---- lists that agree

pub record Agree (row num kind : ℕ → ℕ) (t : Column) (row' num' kind' : ℕ → ℕ) (t' : Column) (n : ℕ) : Type 0 where
  pub rows : (i : ℕ) → i < n → row i ≡ row' i
  pub numerators : (i : ℕ) → i < n → num i ≡ num' i
  pub kinds : (i : ℕ) → i < n → kind i ≡ kind' i
  pub totals : (i : ℕ) → i < n → t i ≡ t' i

module _ {row num kind : ℕ → ℕ} {t : Column} {row' num' kind' : ℕ → ℕ} {t' : Column} {n : ℕ} (a : Agree row num kind t row' num' kind' t' n) where
  pub walking-agrees : {r e : ℕ} {rows parts : List ℕ} {s : ℤ}
      → Walking row num kind t n r e rows parts s → Walking row' num' kind' t' n r e rows parts s
  walking-agrees {r} {e} w =
      let below : (i : ℕ) → i < e → i < n = λ i h. omega (arith, w.upto) in
      record {
        upto = w.upto;
        rows-hold = w.rows-hold ∙ sorted-cong (λ i h. a.rows i (below i h)) (λ i h. a.numerators i (below i h)) r;
        places = w.places;
        numerators-hold = λ c k. w.numerators-hold c k ∙ sum-cong (λ i h. a.kinds i (below i h)) (λ i h. a.numerators i (below i h)) c;
        degrees-hold = λ c k. w.degrees-hold c k ∙ sum-cong (λ i h. a.kinds i (below i h)) (λ i h. refl) c;
        totals-hold = w.totals-hold ∙ Σ-cong e (λ i h. a.totals i (below i h));
      }

  pub walked-agrees : {r : ℕ} {s : Sums} {rows : List ℕ} → Walked row num kind t n r s rows → Walked row' num' kind' t' n r s rows
  unfolding sums_by
  walked-agrees {r} w =
      record {
        sums-are = w.sums-are ∙ (λ i. record {
          numerators = sorted-cong a.kinds a.numerators 4 i;
          degrees = sorted-cong {f = λ j. 1} {f' = λ j. 1} a.kinds (λ j h. refl) 4 i;
          totals = Σ-cong n a.totals i;
        });
        rows_are = w.rows_are ∙ sorted-cong a.rows a.numerators r;
      }

-- ---- the lists that are handed on

pub row-there : (p : Plan) (i : ℕ) → row_of (factors_of p) i < rows_in p
unfolding factors_of
row-there p i = rw (length-replicate p.k (of_levels p.levels)) at (row_lt (factors_of p) i)

module _ (p : Plan) (ok : plan_refused p ≡ 0) (marks : List ℕ) (ts : List ℤ) (t : Column) (so : (i : ℕ) → i < runs_of p → read ts i ≡ t i) where
  -- the kind of a row, as the list of kinds has it
  kind-of-row : (w : ℕ) → w < rows_in p → code_at (kinds_of p marks) w ≡ code_of (kind_of p marks w)
  unfolding kinds_of
  kind-of-row w h = ap code_of (get_or-tab kept_row 1024 (kind_of p marks) w (omega (arith, rows_few p ok)))

  pub two-agrees : p.levels ≡ 2
      → Agree (λ i. i) (square_at ts) (λ i. code_at (kinds_of p marks) i) (read ts) (row_of (factors_of p)) (numerator_at p t) (kind_at p marks) t (runs_of p)
  unfolding numerator_of
  two-agrees l =
      record {
        rows = row_is;
        numerators = λ i h. rw (so i h, factors-two p l, weight-two p.k i) (sym (mul-one (nat_abs (t i) * nat_abs (t i))));
        kinds = λ i h. ap (λ w. code_at (kinds_of p marks) w) (row_is i h) ∙ kind-of-row (row_of (factors_of p) i) (row-there p i);
        totals = so;
      }
    where
      row_is : (i : ℕ) → i < runs_of p → i ≡ row_of (factors_of p) i
      row_is i h = sym (rw (factors-two p l) (row-two p.k i (rw (runs-two p l) at h)))

  -- an effect of the plan, as its lists have it
  in-plan : (i : ℕ) → i < runs_of p → ltb i (run_count p) ≡ true
  in-plan i h = lt-ltb i (run_count p) (rw (run-count p ok) h)

  listed-row : (i : ℕ) → i < runs_of p → get_or (effect_rows p) i 0 ≡ row_of (factors_of p) i
  unfolding effect_rows
  listed-row i h = get_or-tab 0 1024 _ i (omega (arith, runs-few p ok)) ∙ rw (in-plan i h) refl

  listed-weight : (i : ℕ) → i < runs_of p → get_or (effect_weights p) i 0 ≡ weight* (factors_of p) i
  unfolding effect_weights
  listed-weight i h = get_or-tab 0 1024 _ i (omega (arith, runs-few p ok)) ∙ rw (in-plan i h) refl

  pub three-agrees : Agree (λ i. get_or (effect_rows p) i 0) (numerator_by ts (effect_weights p)) (λ i. code_at (kinds_of p marks) (get_or (effect_rows p) i 0)) (read ts)
      (row_of (factors_of p)) (numerator_at p t) (kind_at p marks) t (runs_of p)
  unfolding numerator_of
  three-agrees =
      record {
        rows = listed-row;
        numerators = λ i h. rw (so i h, listed-weight i h) refl;
        kinds = λ i h. rw (listed-row i h) (kind-of-row (row_of (factors_of p) i) (row-there p i));
        totals = so;
      }

-- ---- the state by the plan's own rows, numerators and kinds

pub rows-after : (p : Plan) (marks : List ℕ) {t : Column} {n e : ℕ} {rows parts : List ℕ} {s : ℤ}
    → Walking (row_of (factors_of p)) (numerator_at p t) (kind_at p marks) t n (rows_in p) e rows parts s → rows ≡ rows_after p t e
unfolding rows_after
rows-after p marks w = w.rows-hold

-- ---- totals that agree

module _ (p : Plan) {e : ℕ} {t t' : Column} (so : (i : ℕ) → i < e → t i ≡ t' i) where
  numerators-agree : (i : ℕ) → i < e → numerator_at p t i ≡ numerator_at p t' i
  numerators-agree i h = ap (numerator_of (factors_of p) i) (so i h)

  pub rows_agree : rows_after p t e ≡ rows_after p t' e
  unfolding rows_after
  rows_agree = sorted-cong (λ i h. refl) numerators-agree (rows_in p)

  pub sums-agree : (marks : List ℕ) → sums_after p t marks e ≡ sums_after p t' marks e
  unfolding sums_by
  sums-agree marks =
      λ i. record {
        numerators = sorted-cong {key = kind_at p marks} {key' = kind_at p marks} (λ j h. refl) numerators-agree 4 i;
        degrees = tab 4 (sum_at (kind_at p marks) (λ j. 1) e);
        totals = Σ-cong e so i;
      }
