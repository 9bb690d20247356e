-- That the claim `AnyOrder` holds.
--
--   any_order    the proof
use Rattle.std.specs.Prelude.{◌≡◌, List, [], ◌∷◌, ℤ, length, take}
use Rattle.std.proofs.Math.Path.{refl, sym, ap}
use Rattle.std.proofs.Common.{◌∙◌, arith, lt-ltb, le-ltb}
use Prim.Native.Nat.{ℕ, zero, suc, ◌<◌, ◌≤◌}
use Rattle.std.proofs.Math.Decide.{dec_lt}
use Rattle.std.proofs.Math.ListN.{length-replicate}
use Rattle.std.proofs.Math.Seq.{take-length}
use Rattle.algebra.specs.Tab.{tab}
use Rattle.algebra.specs.Laws.Tab.{length-tab}
use Rattle.contrasts.specs.Columns.{read, AllWithin, pass_of, passes_of, totals_of}
use Rattle.contrasts.specs.Limits.{value_limit}
use Rattle.contrasts.proofs.Factors.{of_levels}
use Rattle.contrasts.specs.Passes.{passes}
use Rattle.contrasts.proofs.Laws.Limits.{values-fit}
use Rattle.contrasts.proofs.Laws.Lists.{tab-read, passes-list, passes-more, order-list, pass-past}
use Rattle.contrasts.proofs.Laws.Within.{within-tab}
use Rattle.plan.specs.declared.types.Plan.{Plan}
use Rattle.plan.specs.Check.{plan_refused}
use Rattle.plan.specs.Examples.{plan}
use Rattle.plan.specs.Outcome.{Outcome, outcome}
use Rattle.plan.specs.Plan.{factors_of, runs_of}
use Rattle.plan.proofs.Laws.Answers.{unwritten, written_new}
use Rattle.plan.proofs.Laws.Limits.{plan-roomy}
use Rattle.yates.specs.Calls.{pass_refused, pass_column}
use Rattle.yates.specs.Laws.Admitted.{PassAdmitted, pass-admits, pass-ten}
use Rattle.claims.specs.AnyOrder.{after_calls, RunSums, EachOnce, call, found, answer, done_or_ten, own_pass, AnyOrder}

after_more : (p : Plan) (calls : List ℕ) (xs : List ℤ) (n : ℕ) → n < length calls
    → found p calls xs (suc n) ≡ pass_column p (call calls n) (found p calls xs n)
unfolding after_calls
after_more p [] xs n h = absurd (omega arith)
after_more p (f ∷ fs) xs zero h = refl
after_more p (f ∷ fs) xs (suc n) h = after_more p fs (pass_column p f xs) n (omega arith)

module _ (p : Plan) (ok : plan_refused p ≡ 0) (xs : List ℤ) (start : RunSums p xs) (calls : List ℕ) (once : EachOnce p calls) where
  -- the column after n passes, as a list and as a column
  passed : ℕ → List ℤ
  passed n = passes_of (factors_of p) (take n calls) xs

  factors : length (factors_of p) ≡ p.k
  unfolding factors_of
  factors = length-replicate p.k (of_levels p.levels)

  as-table : (n : ℕ) → passed n ≡ tab (runs_of p) (passes (factors_of p) (take n calls) (read xs))
  unfolding passed
  as-table n = passes-list (factors_of p) (take n calls) xs (read xs) (tab-read xs (runs_of p) start.whole)

  as_long : (n : ℕ) → length (passed n) ≡ runs_of p
  as_long n = rw (as-table n) (length-tab (runs_of p) (passes (factors_of p) (take n calls) (read xs)))

  -- no value is beyond the pass's limit on the way, so 12 is never given
  small : (n : ℕ) → AllWithin value_limit (passed n)
  unfolding factors_of
  small n =
      rw (as-table n)
      (within-tab (runs_of p) value_limit (passes (factors_of p) (take n calls) (read xs))
      (values-fit (plan-roomy p ok).passable (read xs) (λ r _. start.within r) calls
      (λ f h. omega (arith, once f (rw (length-replicate p.k (of_levels p.levels)) at h))) n))

  admitted : (n : ℕ) → call calls n < p.k → PassAdmitted p (call calls n) (passed n)
  admitted n h = record { plan = ok; base = h; whole = as_long n; within = small n }

  -- one call on the column after n passes
  one-base : (n : ℕ) → call calls n < p.k → pass_column p (call calls n) (passed n) ≡ pass_of (factors_of p) (call calls n) (passed n)
  unfolding pass_column
  one-base n h = sym (written_new (pass_refused p (call calls n) (passed n)) _ (passed n) (pass-admits (admitted n h)))

  one-other : (n : ℕ) → p.k ≤ call calls n → pass_column p (call calls n) (passed n) ≡ passed n
  unfolding pass_column
  one-other n h =
      sym (unwritten (pass_refused p (call calls n) (passed n)) _ (passed n) (λ e. omega (arith, pass-ten p (call calls n) (passed n) ok h, e)))

  one-call : (n : ℕ) → n < length calls → pass_column p (call calls n) (passed n) ≡ passed (suc n)
  unfolding passed
  one-call n h = by (dec_lt (call calls n) p.k)
    where
      by : Dec (call calls n < p.k) → pass_column p (call calls n) (passed n) ≡ passed (suc n)
      by (yes b) = one-base n b ∙ sym (passes-more (factors_of p) calls xs n h)
      by (no b) =
          one-other n (omega arith)
          ∙ sym (passes-more (factors_of p) calls xs n h ∙ pass-past (factors_of p) (call calls n) (passed n) (as_long n) (omega (arith, factors)))

  so_far : (n : ℕ) → n ≤ length calls → found p calls xs n ≡ passed n
  unfolding after_calls passes_of passed
  so_far zero h = refl
  so_far (suc n) h =
      after_more p calls xs n (omega arith) ∙ ap (pass_column p (call calls n)) (so_far n (omega arith)) ∙ one-call n (omega arith)

  answers_at : (n : ℕ) → n < length calls → answer p calls xs n ≡ done_or_ten p (call calls n)
  answers_at n h = rw (so_far n (omega arith)) (by (dec_lt (call calls n) p.k))
    where
      on : Outcome Unit
      on = outcome (pass_refused p (call calls n) (passed n)) tt

      by : Dec (call calls n < p.k) → on ≡ done_or_ten p (call calls n)
      by (yes b) = rw (pass-admits (admitted n b), lt-ltb (call calls n) p.k b) refl
      by (no b) = rw (pass-ten p (call calls n) (passed n) ok (omega arith), le-ltb (call calls n) p.k (omega arith)) refl

  leaves_at : (n : ℕ) → n < length calls → found p calls xs (suc n) ≡ own_pass p (call calls n) (found p calls xs n)
  leaves_at n h = after_more p calls xs n h ∙ rw (so_far n (omega arith)) (by (dec_lt (call calls n) p.k))
    where
      by : Dec (call calls n < p.k) → pass_column p (call calls n) (passed n) ≡ own_pass p (call calls n) (passed n)
      by (yes b) = one-base n b ∙ rw (lt-ltb (call calls n) p.k b) refl
      by (no b) = one-other n (omega arith) ∙ rw (le-ltb (call calls n) p.k (omega arith)) refl

  ends_so : after_calls p calls xs ≡ totals_of (factors_of p) xs
  unfolding passed
  ends_so =
      ap (λ fs. after_calls p fs xs) (sym (take-length calls))
      ∙ so_far (length calls) (omega arith)
      ∙ ap (λ fs. passes_of (factors_of p) fs xs) (take-length calls)
      ∙ order-list (factors_of p) calls xs start.whole (λ f h. once f (rw factors at h))

pub any_order : AnyOrder
any_order p ok column start calls once =
    record {
      answers = answers_at p ok column start calls once;
      leaves = leaves_at p ok column start calls once;
      ends = ends_so p ok column start calls once;
    }
