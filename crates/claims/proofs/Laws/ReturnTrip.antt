-- That the claim `ReturnTrip` holds.
--
--   Had, had, have         readings that the totals call takes, and that have these totals
--   fitting                their run sums have these totals too, and are within r times the limit
--   own                    of runs that are made once the run sums are the readings
--   done, left_back        what is known of a recovery that is done, and what it leaves
--   found                  there are readings that have the totals, and it leaves their run sums
--   every                  it is done where there are such readings, and leaves their run sums, whichever they are
--   wrong-length, eleven   where a length is wrong it gives 11
--   fourteen               where there are no such readings it gives 14
--   fourteen-none          and gives 14 nowhere else
--   sums-left              what it leaves are run sums within r times the limit
--   only_one, the_one      of runs that are made once it leaves the one column of readings that has the totals
--   why, never-twelve      every refusal is by the plan, by a length, or for want of readings; none is 12
--   any                    run sums come back from the totals that passes make of them
--   returned, return-trip  the proof
use Rattle.std.specs.Prelude.{◌≡◌, Bool, cond, ◌||◌, List, ℕ, ◌*◌, ℤ, length}
use Rattle.std.proofs.Math.Path.{refl, sym, ap}
use Rattle.std.proofs.Common.{◌∙◌, subst, inl, inr, true≢false, mul-one, arith, ne_eqb}
use Rattle.std.proofs.Math.Bool.{true, false}
use Rattle.std.proofs.Math.Decide.{ℕ_discrete}
use Rattle.algebra.specs.Laws.Tab.{length-tab}
use Rattle.contrasts.specs.Columns.{read, totals_of, run_sums_in}
use Rattle.contrasts.specs.Recovery.{readings_back, no_readings}
use Rattle.contrasts.specs.Totals.{total}
use Rattle.contrasts.proofs.Laws.Recovery.{Fitting}
use Rattle.contrasts.proofs.Laws.Repeats.{sums-long, sums-once, sums-within}
use Rattle.contrasts.proofs.Laws.Shares.{shared}
use Rattle.plan.specs.declared.types.Plan.{Plan}
use Rattle.plan.specs.Check.{plan_refused}
use Rattle.plan.specs.Limits.{reading_limit, run_limit}
use Rattle.plan.specs.Outcome.{given, refused, outcome}
use Rattle.plan.specs.Plan.{factors_of, runs_of, run_sums_of}
use Rattle.plan.proofs.Laws.Answers.{given-with, refused-with, given_is, refused-is, plan-first, refused-by-plan, after-plan, unwritten, written_new}
use Rattle.columns.specs.Refusals.{wrong_length, readings_refused}
use Rattle.columns.specs.Laws.Admitted.{Readings, readings-admitted, readings-admits}
use Rattle.yates.specs.Calls.{totals_column}
use Rattle.recovery.specs.Calls.{recover_refusals, recover_refused, recover_column}
use Rattle.recovery.proofs.Laws.Judged.{Lengths, Recovered, recovered, recovers, by-readings}
use Rattle.promises.specs.Promised.{Left, promised_check, promised_recover}
use Rattle.claims.specs.AnyOrder.{RunSums, EachOnce, after_calls}
use Rattle.claims.specs.ReturnTrip.{Have, answer, left, WrongLengths, Reason, Returned, ReturnTrip}
use Rattle.claims.proofs.Laws.AnyOrder.{any_order}
use Rattle.claims.proofs.Laws.LowestNumber.{lowest-number}

-- ---- readings that have the totals

-- the column that the totals call is lent may be any of N places, that of the totals too
pub record Had (p : Plan) (ts readings : List ℤ) : Type 0 where
  pub taken : Readings p readings ts
  pub same : totals_of (factors_of p) (run_sums_of p readings) ≡ ts

totals-long : (p : Plan) (ys : List ℤ) {ts : List ℤ} → totals_of (factors_of p) ys ≡ ts → length ts ≡ runs_of p
unfolding totals_of
totals-long p ys e = sym (ap length e) ∙ length-tab (runs_of p) (total (factors_of p) (read ys))

had : {p : Plan} {ts readings : List ℤ} → Have p readings ts → Had p ts readings
unfolding totals_column
had {p} {ts} {readings} (column, e) =
    let z = (given_is (readings_refused p readings column) tt (sym (ap (λ (l : Left). l.answer) e))).0 in
    let a = readings-admitted p readings column z in
    let same = written_new (readings_refused p readings column) _ column z ∙ ap (λ (l : Left). l.column) e in
    record { taken = record { plan = a.plan; whole = a.whole; same = totals-long p (run_sums_of p readings) same; within = a.within }; same = same }

module _ {p : Plan} {ts readings : List ℤ} (h : Had p ts readings) where
  have : Have p readings ts
  unfolding totals_column
  have = (ts, rw (readings-admits h.taken, h.same) refl)

  fitting : Fitting (factors_of p) (run_limit p) ts (run_sums_of p readings)
  fitting = record {
    long = sums-long (runs_of p) p.repeats readings;
    small = sums-within (runs_of p) p.repeats (reading_limit p) readings h.taken.within;
    same = h.same;
  }

  own : p.repeats ≡ 1 → run_sums_of p readings ≡ readings
  own e =
      ap (λ (r : ℕ). run_sums_in (runs_of p) r readings) e
      ∙ sums-once (h.taken.whole ∙ ap (λ (r : ℕ). runs_of p * r) e ∙ mul-one (runs_of p))

-- ---- the recovery call

module _ (p : Plan) (ts column : List ℤ) where
  abbrev number : ℕ
  number = recover_refused p ts column

  abbrev back : List ℤ
  back = readings_back (factors_of p) ts

  stops : {n : ℕ} → (n ≡ 0 → ⊥) → number ≡ n → answer p ts column ≡ refused n
  stops {n} h e = ap (λ (m : ℕ). outcome m tt) e ∙ refused-with n tt h

  is_zero : answer p ts column ≡ given tt → number ≡ 0
  is_zero e = (given_is number tt (sym e)).0

  done : answer p ts column ≡ given tt → Recovered p ts column
  done e = recovered p ts column (is_zero e)

  left_back : answer p ts column ≡ given tt → left p ts column ≡ back
  unfolding recover_column
  left_back e = sym (written_new number back column (is_zero e))

  -- any sums within r times the limit are those of readings within it
  found : answer p ts column ≡ given tt → (readings : List ℤ) × Had p ts readings × (left p ts column ≡ run_sums_of p readings)
  found e =
      let d = done e in
      let f = d.fitting in
      let s = shared (runs_of p) p.repeats (reading_limit p) back f.long f.small in
      let of = s.1 in (
        s.0,
        record {
          taken = record { plan = d.lengths.plan; whole = of.long; same = d.lengths.whole; within = of.within };
          same = ap (totals_of (factors_of p)) of.sums ∙ f.same;
        },
        left_back e ∙ sym of.sums,
      )

  lengths-of : {readings : List ℤ} → Had p ts readings → length column ≡ runs_of p → Lengths p ts column
  lengths-of h e = record { plan = h.taken.plan; whole = h.taken.same; same = e }

  every : {readings : List ℤ} → Had p ts readings → length column ≡ runs_of p
      → promised_recover p ts column ≡ record { answer = given tt; column = run_sums_of p readings }
  unfolding recover_column
  every h e =
      let z = recovers (lengths-of h e) (fitting h) in
      rw (z.0, z.1) refl

  sums-left : answer p ts column ≡ given tt → RunSums p (left p ts column)
  sums-left e =
      let f = (done e).fitting in
      subst (RunSums p) (sym (left_back e)) (record { whole = f.long; within = f.small })

  -- ---- runs that are made once

  only_one : p.repeats ≡ 1 → answer p ts column ≡ given tt → {readings : List ℤ} → Had p ts readings → readings ≡ left p ts column
  only_one r e h = sym (own h r) ∙ sym (ap (λ (l : Left). l.column) (every h (done e).lengths.same))

  the_one : p.repeats ≡ 1 → answer p ts column ≡ given tt → Have p (left p ts column) ts
  the_one r e =
      let f = found e in
      subst (λ (xs : List ℤ). Have p xs ts) (only_one r e f.1) (have f.1)

  -- ---- refusals

  wrong-length : {n : ℕ} → (n ≡ runs_of p → ⊥) → wrong_length p n ≡ true
  unfolding wrong_length
  wrong-length {n} h = rw (ne_eqb n (runs_of p) h) refl

  eleven : plan_refused p ≡ 0 → WrongLengths p ts column → number ≡ 11
  unfolding recover_refused
  eleven ok w = after-plan p (recover_refusals p ts column) ok ∙ rw (by w) refl
    where
      right : (b : Bool) → (b || true) ≡ true
      right true = refl
      right false = refl

      by : WrongLengths p ts column → (wrong_length p (length ts) || wrong_length p (length column)) ≡ true
      by (inl h) = rw (wrong-length h) refl
      by (inr h) = rw (wrong-length h) (right (wrong_length p (length ts)))

  -- where the test finds readings there are some
  fourteen : Lengths p ts column → ((readings : List ℤ) → Have p readings ts → ⊥) → number ≡ 14
  fourteen l none = by (no_readings (factors_of p) (run_limit p) ts) (by-readings l)
    where
      by : (b : Bool) → number ≡ cond b 14 0 → number ≡ 14
      by true e = e
      by false e =
          let f = found (given-with number tt e) in
          absurd (none f.0 (have f.1))

  fourteen-none : answer p ts column ≡ refused 14 → (readings : List ℤ) → Have p readings ts → ⊥
  fourteen-none e readings h = by (ℕ_discrete (length column) (runs_of p))
    where
      own-number : 14 ≡ number
      own-number = (refused-is number tt (sym e)).0

      by : Dec (length column ≡ runs_of p) → ⊥
      by (yes s) = omega (arith, own-number, (recovers (lengths-of (had h) s) (fitting (had h))).0)
      by (no s) = omega (arith, own-number, eleven (had h).taken.plan (inr s))

  why : (n : ℕ) → answer p ts column ≡ refused n → Reason p ts column n
  unfolding recover_refused
  why n e = by (ℕ_discrete (plan_refused p) 0) (ℕ_discrete (length ts) (runs_of p)) (ℕ_discrete (length column) (runs_of p))
    where
      own-number : n ≡ number
      own-number = (refused-is number tt (sym e)).0

      want : (b : Bool) → number ≡ cond b 14 0 → n ≡ 14
      want true d = own-number ∙ d
      want false d = absurd ((refused-is number tt (sym e)).1 d)

      by : Dec (plan_refused p ≡ 0) → Dec (length ts ≡ runs_of p) → Dec (length column ≡ runs_of p) → Reason p ts column n
      by (no bad) whole same = inl (ap (λ (m : ℕ). outcome m tt) (plan-first p (recover_refusals p ts column) refl bad) ∙ e)
      by (yes ok) (no whole) same = inr (inl (own-number ∙ eleven ok (inl whole), inl whole))
      by (yes ok) (yes whole) (no same) = inr (inl (own-number ∙ eleven ok (inr same), inr same))
      by (yes ok) (yes whole) (yes same) =
          let l : Lengths p ts column = record { plan = ok; whole = whole; same = same } in
          let d = want (no_readings (factors_of p) (run_limit p) ts) (by-readings l) in
          inr (inr (d, fourteen-none (e ∙ ap refused d)))

  never-twelve : answer p ts column ≡ refused 12 → ⊥
  never-twelve e =
      let twelve : 12 ≡ number = (refused-is number tt (sym e)).0 in
      let applied = (lowest-number.recover p ts column).own (refused-is number tt (sym e)).1 in
      true≢false (sym (rw (← twelve) at applied))

  any : plan_refused p ≡ 0 → (xs : List ℤ) → RunSums p xs → (calls : List ℕ) → EachOnce p calls → after_calls p calls xs ≡ ts → length column ≡ runs_of p
      → promised_recover p ts column ≡ record { answer = given tt; column = xs }
  unfolding recover_column
  any ok xs sums calls once e same =
      let totals : totals_of (factors_of p) xs ≡ ts = sym (any_order p ok xs sums calls once).ends ∙ e in
      let l : Lengths p ts column = record { plan = ok; whole = totals-long p xs totals; same = same } in
      let z = recovers l (record { long = sums.whole; small = sums.within; same = totals }) in
      rw (z.0, z.1) refl

  ok-by : promised_check p ≡ given tt → plan_refused p ≡ 0
  ok-by e = (given_is (plan_refused p) tt (sym e)).0

  pub returned : Returned p ts column
  unfolding recover_refused recover_column
  returned = record {
    whenever = λ readings h e. every (had h) e;
    only = λ e.
        let f = found e in
        (f.0, have f.1, f.2);
    sums = sums-left;
    any-sums = λ e xs. any (ok-by e) xs;
    back = λ e calls once.
        (any_order p (done e).lengths.plan (left p ts column) (sums-left e) calls once).ends
        ∙ ap (totals_of (factors_of p)) (left_back e)
        ∙ (done e).fitting.same;
    once = λ r e. (the_one r e, λ readings h. only_one r e (had h));
    plan-first = λ n e.
        let t = refused-is (plan_refused p) tt (sym e) in
        sym (refused-by-plan p (recover_refusals p ts column) tt t.0 (λ z. t.1 (sym t.0 ∙ z)));
    lengths = λ e w. stops (λ z. omega (arith, z)) (eleven (ok-by e) w);
    none = λ e whole same h. stops (λ z. omega (arith, z)) (fourteen (record { plan = ok-by e; whole = whole; same = same }) h);
    reasons = why;
    no-twelve = never-twelve;
    unwritten = λ n e. sym (unwritten number back column (refused-is number tt (sym e)).1);
  }

pub return-trip : ReturnTrip
return-trip = returned
