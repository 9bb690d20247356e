-- That the claims of `HighMinusLow.antt` hold.
--
--   printed-totals, printed-aliases, printed-alias-totals, own-word, generators, estimates, main-estimates, added-estimates, alias-estimates,
--   mean-estimate, lost-estimates, positive-zero
--                  the proofs, in this order but that `alias-estimates` comes before the two on single factors
use Rattle.std.specs.Prelude.{◌≡◌, refl, Bool, true, false, cond, not, ℕ, ◌+◌, ◌*◌, ◌-◌, ◌^◌, ◌<◌, ◌≤◌, eqb, ℤ, pos, Float, length}
use Rattle.std.proofs.Common.{sym, ◌∙◌, subst, arith, length-take, pow_pos}
use Rattle.std.proofs.Math.Path.{ap}
use Rattle.std.proofs.Math.Bool.{not-not}
use mathlib.Core.List.{List}
use Rattle.std.proofs.Math.Decide.{ℕ_discrete}
use Rattle.std.proofs.Math.Nat.{pow-succ'}
use Rattle.std.proofs.Math.Pow.{pow-lt}
use Rattle.algebra.specs.Sum.{Σ}
use Rattle.algebra.specs.Laws.Tab.{get_or-tab}
use Rattle.contrasts.specs.Columns.{read, totals_of}
use Rattle.contrasts.specs.Totals.{Column, total}
use Rattle.contrasts.proofs.Laws.Repeats.{sums-within}
use Rattle.contrasts.proofs.Laws.Signed.{contrast-turned, contrast-all, count-half}
use Rattle.words.specs.Words.{has, odd_word, odd_in, plus_in}
use Rattle.words.specs.Laws.Parity.{odd-swap, none-odd, plus-odd, one-plus}
use Rattle.plan.specs.declared.types.Plan.{Plan}
use Rattle.plan.specs.Outcome.{Outcome, given, refused}
use Rattle.plan.specs.Plan.{added_words, added_signs, factors_of, runs_of, run_sums_of, all_letters, confounded_in}
use Rattle.plan.specs.Limits.{reading_limit}
use Rattle.plan.proofs.Laws.Answers.{given-with, refused-with, written_new}
use Rattle.plan.proofs.Laws.Coefficients.{plan-total, plan-balance}
use Rattle.plan.proofs.Laws.Confounded.{letter-kept, word_kept, word_some}
use Rattle.plan.proofs.Laws.Sizes.{runs-two, letters-few}
use Rattle.columns.specs.Laws.Admitted.{readings-admitted}
use Rattle.aliases.specs.Laws.BaseWord.{base-own, turned-own, base-one, turned-one}
use Rattle.aliases.specs.Laws.InRuns.{plan-reduces}
use Rattle.yates.specs.Calls.{totals_refused, totals_column}
use Rattle.estimates.specs.Quotient.{positive_zero}
use Rattle.estimates.specs.Estimate.{Value, mean, difference, lost, power_of, printed_total, mean_of, difference_of, value_by, estimate_refused, estimate_value}
use Rattle.estimates.proofs.Laws.Exact.{positive-zero as zero-quotient}
use Rattle.estimates.proofs.Laws.Given.{admits, Estimated, estimated}
use Rattle.estimates.proofs.Laws.Differences.{zero-difference}
use Rattle.estimates.proofs.Laws.Totals.{totals-admitted}
use Rattle.promises.specs.Promised.{promised_estimate}
use Rattle.claims.specs.Letters.{TwoLevels, high, base, word, turn_if}
use Rattle.claims.specs.HighMinusLow.{plus, turn, turned_by, high_minus_low, estimate_of, MeanDifference, PrintedTotals, PrintedAliases, PrintedAliasTotals, OwnWord, Generators, Estimates, MainEstimates, AddedEstimates, AliasEstimates, MeanEstimate, LostEstimates, PositiveZero}
use Rattle.claims.proofs.Laws.Letters.{a, k-few, not-three-levels, high_same, base-in, letter-in}

-- ---- signs

-- a base effect counts by the run's number as by the letters of the run call
plus-same : (p : Plan) → TwoLevels p → (e r : ℕ) → e < runs_of p → plus p r e ≡ plus_in r e
plus-same p t e r h =
    plus-odd (high p r) e ∙ ap (λ (b : Bool). cond (odd_word e) b (not b)) (high_same p t e r h) ∙ sym (plus-odd r e)

pub printed-totals : PrintedTotals
unfolding printed_total
printed-totals p t x e h =
    ap (turn_if (odd_word e)) (plan-total p t.accepted t.two e h x)
    ∙ sym (contrast-turned (runs_of p) (λ r. plus p r e) (λ r. not (odd_in r e)) x (odd_word e)
    (λ r l. plus-same p t e r h ∙ plus-odd r e ∙ twice (odd_word e) (odd_in r e)))
  where
    twice : (t b : Bool) → cond t b (not b) ≡ cond t (not (not b)) (not b)
    twice true b = sym (not-not b)
    twice false b = refl

pub printed-aliases : PrintedAliases
printed-aliases p t e r f = (base-in p t e, plan-reduces p (a p t) (not-three-levels p t) r e f ∙ ap (turned_by (turn p e)) (sym (plus-same p t (base p e) r (base-in p t e))))

pub printed-alias-totals : PrintedAliasTotals
printed-alias-totals p t x e f =
    contrast-turned (runs_of p) (λ r. plus p r e) (λ r. plus p r (base p e)) x (turn p e) (λ r h. (printed-aliases p t e r f).1)
    ∙ ap (turn_if (turn p e)) (sym (printed-totals p t x (base p e) (base-in p t e)))

pub own-word : OwnWord
own-word p t e h =
    let few : p.k ≤ 16 = omega (arith, k-few p t) in
    let l : e < 2 ^ p.k = rw (runs-two p t.two) at h in
    (base-own p.k (added_words p) (added_signs p) e few l, turned-own p.k (added_words p) (added_signs p) e few l)

-- ---- one letter

one-high : (p : Plan) → TwoLevels p → (i r : ℕ) → i < all_letters p → plus p r (2 ^ i) ≡ has (high p r) i
one-high p t i r h = one-plus (high p r) i (omega (arith, h, letters-few p (a p t)))

pub generators : Generators
generators p t j h small =
    let all = letters-few p (a p t) in
    let i : p.k + j < all_letters p = omega (arith, h) in
    let own : base p (2 ^ (p.k + j)) ≡ word p j = base-one p.k j (added_words p) h (omega (arith, all)) small in
    record {
      reduces = own;
      is-high = λ r.
          sym (one-high p t (p.k + j) r i)
          ∙ (printed-aliases p t (2 ^ (p.k + j)) r (pow-lt i)).1
          ∙ ap (λ (w : ℕ). turned_by (turn p (2 ^ (p.k + j))) (plus p r w)) own;
      turns = turned-one p.k j (added_words p) (added_signs p) h all few-signs small;
    }
  where
    few-signs : length (added_signs p) ≤ 16
    few-signs = omega (arith, (a p t).counts.0, length-take p.added p.signs)

-- ---- estimates

-- a test may be replaced by one that is the same in every run
other_test : {p : Plan} {x : Column} {o : Outcome Value} {f g : ℕ → Bool} → ((r : ℕ) → f r ≡ g r) → MeanDifference p f x o → MeanDifference p g x o
other_test {p} {x} {o} h m = subst (λ (f : ℕ → Bool). MeanDifference p f x o) (λ i r. h r i) m

half_of : (k n : ℕ) → 0 < k → n ≡ 2 ^ k → 2 * 2 ^ (k - 1) ≡ n
half_of k n h e = sym (pow-succ' 2 (k - 1)) ∙ ap (λ (m : ℕ). 2 ^ m) (omega (arith, h)) ∙ sym e

-- readings that are all 1 have the contrast 0
no-contrast : (p : Plan) → TwoLevels p → (e : ℕ) → e < runs_of p → (e ≡ 0 → ⊥) → high_minus_low p (λ r. pos 1) e ≡ pos 0
unfolding printed_total
no-contrast p t e h not-mean =
    sym (printed-totals p t (λ r. pos 1) e h)
    ∙ ap (turn_if (odd_word e)) (plan-total p t.accepted t.two e h (λ r. pos 1) ∙ plan-balance p t.accepted t.two e h not-mean)
    ∙ zero (odd_word e)
  where
    zero : (b : Bool) → turn_if b (pos 0) ≡ pos 0
    zero true = refl
    zero false = refl

module _ (p : Plan) (t : TwoLevels p) (readings totals : List ℤ) (n : totals_refused p readings totals ≡ 0) (e : ℕ) (h : e < runs_of p) where
  abbrev sums : List ℤ
  sums = run_sums_of p readings

  abbrev total_of : ℤ
  total_of = total (factors_of p) (read sums) e

  left : read (totals_column p readings totals) e ≡ total_of
  unfolding totals_column totals_of
  left =
      ap (λ (ts : List ℤ). read ts e) (sym (written_new _ (totals_of (factors_of p) sums) totals n))
      ∙ get_or-tab (pos 0) (runs_of p) (total (factors_of p) (read sums)) e h

  no-refusal : estimate_refused p e total_of ≡ 0
  no-refusal =
      let within = sums-within (runs_of p) p.repeats (reading_limit p) readings (readings-admitted p readings totals n).within in
      admits (totals-admitted p t.accepted t.two (read sums) (λ r l. within r) e h)

  found : Estimated p e total_of
  found = estimated p e total_of no-refusal

  value_of : estimate_of p readings totals e ≡ given (estimate_value p e total_of)
  value_of = ap (promised_estimate p e) left ∙ given-with (estimate_refused p e total_of) (estimate_value p e total_of) no-refusal

some-factor : (p : Plan) → TwoLevels p → 0 < p.k
some-factor p t = (a p t).factors.0

pub estimates : Estimates
estimates p t readings totals n e h not-mean kept =
    let f = found p t readings totals n e h in
    let half = half_of p.k (runs_of p) (some-factor p t) (runs-two p t.two) in
    let counts = count-half (runs_of p) (2 ^ (p.k - 1)) (λ r. plus p r e) half (no-contrast p t e h not-mean) in
    record {
      value = difference_of (power_of p) e (total_of p t readings totals n e h);
      answered = value_of p t readings totals n e h ∙ ap given (f.of-difference kept not-mean);
      exactly = rw (printed-totals p t (read (run_sums_of p readings)) e h) at f.difference-exact;
      half = half;
      runs = counts.0;
      others = counts.1;
    }

-- twice the other way round is as it was
turned-back : (t b c : Bool) → b ≡ turned_by t c → c ≡ turned_by t b
turned-back true b c e = sym (not-not c) ∙ ap not (sym e)
turned-back false b c e = sym e

pub alias-estimates : AliasEstimates
alias-estimates p t readings totals n e f not-mean kept =
    other_test (λ r. turned-back (turn p e) (plus p r e) (plus p r (base p e)) (printed-aliases p t e r f).1)
    (estimates p t readings totals n (base p e) (base-in p t e) not-mean kept)

pub main-estimates : MainEstimates
main-estimates p t readings totals n i h =
    let few : i < 16 = omega (arith, h, k-few p t) in
    let all : i < all_letters p = omega (arith, h) in
    other_test (λ r. one-high p t i r all)
    (estimates p t readings totals n (2 ^ i) (letter-in p t i h) (λ z. omega (arith, z, pow_pos i)) (letter-kept (a p t) i few))

pub added-estimates : AddedEstimates
added-estimates p t readings totals n j h small =
    let g = generators p t j h small in
    let i : p.k + j < all_letters p = omega (arith, h) in
    let e = 2 ^ (p.k + j) in
    other_test (λ r. ap (turned_by (turn p e)) (one-high p t (p.k + j) r i))
    (subst (λ (w : ℕ). MeanDifference p (λ r. turned_by (turn p e) (plus p r e)) (read (run_sums_of p readings)) (estimate_of p readings totals w)) g.reduces
    (alias-estimates p t readings totals n e (pow-lt i) (λ z. word_some (a p t) j h (sym g.reduces ∙ z)) (ap (confounded_in p) g.reduces ∙ word_kept (a p t) j h)))

pub mean-estimate : MeanEstimate
mean-estimate p t readings totals n =
    let some : 0 < runs_of p = rw (runs-two p t.two) (pow_pos p.k) in
    let f = found p t readings totals n 0 some in
    let all-plus : (r : ℕ) → not (odd_in r 0) ≡ true = λ r. ap not (odd-swap r 0 ∙ none-odd r) in
    let x = read (run_sums_of p readings) in
    let sum : total (factors_of p) x 0 ≡ Σ (runs_of p) x
    = plan-total p t.accepted t.two 0 some x ∙ contrast-all (runs_of p) (λ r. not (odd_in r 0)) x all-plus in
    record {
      value = mean_of (power_of p) (Σ (runs_of p) x);
      answered = value_of p t readings totals n 0 some ∙ ap given (f.of-mean refl) ∙ ap (λ (z : ℤ). given (mean (mean_of (power_of p) z))) sum;
      exactly = rw sum at f.mean-exact;
      readings = ap (λ (m : ℕ). m * p.repeats) (sym (runs-two p t.two));
    }

abbrev value_in : Value → Outcome Value → Value
value_in other (given v) = v
value_in other (refused n) = other

pub lost-estimates : LostEstimates
lost-estimates p t readings totals n e h =
    let f = found p t readings totals n e h in
    let v = value_of p t readings totals n e h in
    (λ c. v ∙ ap given (f.lost-when c), λ c. f.lost-only (ap (value_in lost) (sym v ∙ c)))

-- ---- a total of 0

-- the number in an answer, and positive zero where there is none
abbrev number_in : Outcome Value → Float
number_in (given (mean x)) = x
number_in (given (difference x)) = x
number_in (given lost) = positive_zero
number_in (refused n) = positive_zero

zero-value : (b : Bool) (k e : ℕ) → number_in (given (value_by b k e (pos 0))) ≡ positive_zero
unfolding value_by mean_of
zero-value b k e = by b (eqb e 0)
  where
    by : (b zero : Bool) → number_in (given (cond b lost (cond zero (mean (mean_of k (pos 0))) (difference (difference_of k e (pos 0)))))) ≡ positive_zero
    by true zero = refl
    by false true = zero-quotient k
    by false false = zero-difference k e

zero_number : (p : Plan) (e : ℕ) → number_in (promised_estimate p e (pos 0)) ≡ positive_zero
zero_number p e = by (ℕ_discrete (estimate_refused p e (pos 0)) 0)
  where
    by : Dec (estimate_refused p e (pos 0) ≡ 0) → number_in (promised_estimate p e (pos 0)) ≡ positive_zero
    by (yes z) = rw (given-with (estimate_refused p e (pos 0)) (estimate_value p e (pos 0)) z) (zero-value (confounded_in p e) (power_of p) e)
    by (no h) = rw (refused-with (estimate_refused p e (pos 0)) (estimate_value p e (pos 0)) h) refl

pub positive-zero : PositiveZero
positive-zero p e x = (λ d. sym (ap number_in d) ∙ zero_number p e, λ d. sym (ap number_in d) ∙ zero_number p e)
