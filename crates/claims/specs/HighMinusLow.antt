-- E11: "The trade prints high minus low.": what aliases and estimates say of the readings, at two levels. A run's letters are those that the run
-- call gives as high, an effect's base word and its turn are the alias call's. An estimate is the estimate call's, given the total that the
-- totals call leaves.
--
--   plus p r e             run r counts plus in the effect e: an even number of the effect's letters are low in it
--   turn p e               whether the sign of the effect e turns
--   turned_by t b          the test b, the other way round where t holds
--   high_minus_low p x e   the readings or run sums x of the runs that count plus in e, less those of the runs that count minus
--   printed_in p x e       the total of the effect e with the sign that is printed
--   estimate_of            what the estimate call answers of the effect e, given the total that the totals call leaves of it
--   MeanDifference, Mean   an answer is the mean of the readings where a test holds, less the mean where it does not; the mean of all
--   Generator p j          what an added factor is beside its word
--
--   PrintedTotals          CLAIM: a printed total is that contrast
--   PrintedAliases         CLAIM: in every run an effect of all factors counts as its base word does, the other way round exactly where it turns
--   PrintedAliasTotals     CLAIM: so its contrast is the printed total of its base word, negated exactly where it turns
--   OwnWord                CLAIM: an effect of base letters is its own base word, and does not turn
--   Generators             CLAIM: an added factor is high exactly where its word counts plus, the other way round exactly where it turns
--   Estimates              CLAIM: the estimate of an effect of base letters that is not lost is mean where plus less mean where minus
--   MainEstimates          CLAIM: of one letter it is never lost, and is mean where high less mean where low
--   AddedEstimates         CLAIM: so it is of the word of an added factor, by the runs in which this is high, the other way round where it turns
--   AliasEstimates         CLAIM: so it is of the base word of any effect, unless that is empty or lost
--   MeanEstimate           CLAIM: the estimate of the empty effect is the mean of all readings
--   LostEstimates          CLAIM: lost is the answer of exactly the confounded effects
--   PositiveZero           CLAIM: a total of 0 gives positive zero
use Rattle.std.specs.Prelude.{◌≡◌, Bool, true, false, cond, not, List, ℕ, ◌+◌, ◌*◌, ◌-◌, ◌^◌, ◌<◌, ℤ, pos, ◌-ℤ◌, Float, length}
use Rattle.algebra.specs.Sum.{Σ}
use Rattle.contrasts.specs.Columns.{read}
use Rattle.contrasts.specs.Contrast.{sum_where, count_where, contrast}
use Rattle.contrasts.specs.Totals.{Column, total}
use Rattle.words.specs.Words.{has, odd_word, plus_in}
use Rattle.plan.specs.declared.types.Plan.{Plan}
use Rattle.plan.specs.Outcome.{Outcome, given}
use Rattle.plan.specs.Plan.{added_words, factors_of, runs_of, all_readings, run_sums_of, all_letters, confounded_in}
use Rattle.aliases.specs.Alias.{alias_values}
use Rattle.yates.specs.Calls.{totals_refused}
use Rattle.estimates.specs.Quotient.{Exactly, positive_zero}
use Rattle.estimates.specs.Estimate.{Value, mean, difference, lost, printed_total}
use Rattle.promises.specs.Promised.{promised_totals, promised_estimate}
use Rattle.claims.specs.Letters.{TwoLevels, high, base, word, has_sign_one, turn_if}

-- ---- the words of the claims

abbrev pub plus : Plan → ℕ → ℕ → Bool
plus p r e = plus_in (high p r) e

abbrev pub turn : Plan → ℕ → Bool
turn p e = (alias_values p e).1

abbrev pub turned_by : Bool → Bool → Bool
turned_by t b = cond t (not b) b

abbrev pub high_minus_low : Plan → Column → ℕ → ℤ
high_minus_low p x e = contrast (runs_of p) (λ r. plus p r e) x

abbrev pub printed_in : Plan → Column → ℕ → ℤ
printed_in p x e = printed_total e (total (factors_of p) x e)

abbrev pub estimate_of : Plan → (readings totals : List ℤ) → ℕ → Outcome Value
estimate_of p readings totals e = promised_estimate p e (read (promised_totals p readings totals).column e)

-- the answer is a difference: the mean of the readings of the runs in which the test holds, less the mean of the others; x has the sum of each
-- run's readings. It is exactly the sum of the first less the sum of the others, over 2 to the power k - 1 times r. That is how many readings
-- each of the two has: half of the runs, in which the test holds, or does not, and r readings of each.
pub record MeanDifference (p : Plan) (test : ℕ → Bool) (x : Column) (answer : Outcome Value) : Type 0 where
  pub value : Float
  pub answered : answer ≡ given (difference value)
  pub exactly : Exactly (sum_where (runs_of p) test x -ℤ sum_where (runs_of p) (λ r. not (test r)) x) (2 ^ (p.k - 1) * p.repeats) value
  pub half : 2 * 2 ^ (p.k - 1) ≡ runs_of p
  pub runs : count_where (runs_of p) test ≡ 2 ^ (p.k - 1)
  pub others : count_where (runs_of p) (λ r. not (test r)) ≡ 2 ^ (p.k - 1)

-- ---- the claims on signs

-- E4, E11: the total of an effect, negated when it has an odd number of letters, is the sum of the readings of the runs that count plus, less
-- the sum of the others.
abbrev pub PrintedTotals : Type 0
PrintedTotals = (p : Plan) → TwoLevels p → (x : Column) (e : ℕ) → e < runs_of p → printed_in p x e ≡ high_minus_low p x e

-- E8 to E10: in every run an effect of all factors counts as its base word does; the other way round exactly where the alias call says that its
-- sign turns.
abbrev pub PrintedAliases : Type 0
PrintedAliases =
    (p : Plan) → TwoLevels p → (e r : ℕ) → e < 2 ^ all_letters p
    → (base p e < runs_of p) × (plus p r e ≡ turned_by (turn p e) (plus p r (base p e)))

-- E8 to E10: the contrast of an effect of all factors is the printed total of its base word, negated exactly where the alias call says that its
-- sign turns. The base word may be empty: then the total is the sum of all readings, and no difference.
abbrev pub PrintedAliasTotals : Type 0
PrintedAliasTotals =
    (p : Plan) → TwoLevels p → (x : Column) (e : ℕ) → e < 2 ^ all_letters p → high_minus_low p x e ≡ turn_if (turn p e) (printed_in p x (base p e))

-- E9, E10: an effect of base letters reduces to itself.
abbrev pub OwnWord : Type 0
OwnWord = (p : Plan) → TwoLevels p → (e : ℕ) → e < runs_of p → (base p e ≡ e) × (turn p e ≡ false)

-- P8, P9, E10: added factor j, counted from 0, reduces to its word. It is high in a run exactly where the run counts plus in its word; the other
-- way round exactly where it turns: so it is the factor that journals write as its word, or as its word with a minus. It turns where it has
-- sign 1; the other way round where its word has an even number of letters. The word is a 16-bit set, as in `AddedFactors`.
pub record Generator (p : Plan) (j : ℕ) : Type 0 where
  pub reduces : base p (2 ^ (p.k + j)) ≡ word p j
  pub is-high : (r : ℕ) → has (high p r) (p.k + j) ≡ turned_by (turn p (2 ^ (p.k + j))) (plus p r (word p j))
  pub turns : turn p (2 ^ (p.k + j)) ≡ turned_by (not (odd_word (word p j))) (has_sign_one p j)

abbrev pub Generators : Type 0
Generators = (p : Plan) → TwoLevels p → (j : ℕ) → j < length (added_words p) → word p j < 2 ^ 16 → Generator p j

-- ---- the claims on estimates: of readings that the totals call admits, and the totals that it leaves

-- E1 to E5, E11: of every effect of base letters but the mean, unless it is lost: the sum of the readings where it counts plus less the sum where
-- it counts minus, over half of the readings.
abbrev pub Estimates : Type 0
Estimates =
    (p : Plan) → TwoLevels p → (readings totals : List ℤ) → totals_refused p readings totals ≡ 0
    → (e : ℕ) → e < runs_of p → (e ≡ 0 → ⊥) → confounded_in p e ≡ false
    → MeanDifference p (λ r. plus p r e) (read (run_sums_of p readings)) (estimate_of p readings totals e)

-- E11: of one letter, i = 0 for A: mean where high less mean where low.
abbrev pub MainEstimates : Type 0
MainEstimates =
    (p : Plan) → TwoLevels p → (readings totals : List ℤ) → totals_refused p readings totals ≡ 0
    → (i : ℕ) → i < p.k
    → MeanDifference p (λ r. has (high p r) i) (read (run_sums_of p readings)) (estimate_of p readings totals (2 ^ i))

-- E11: of the word of added factor j: mean where the factor is high less mean where it is low; the other way round exactly where it turns.
abbrev pub AddedEstimates : Type 0
AddedEstimates =
    (p : Plan) → TwoLevels p → (readings totals : List ℤ) → totals_refused p readings totals ≡ 0
    → (j : ℕ) → j < length (added_words p) → word p j < 2 ^ 16
    → MeanDifference p (λ r. turned_by (turn p (2 ^ (p.k + j))) (has (high p r) (p.k + j))) (read (run_sums_of p readings)) (estimate_of p readings totals (word p j))

-- E8 to E11: of the base word of any effect of all factors, where it is neither empty nor lost: mean where the effect counts plus less mean where
-- it counts minus; the other way round exactly where it turns.
abbrev pub AliasEstimates : Type 0
AliasEstimates =
    (p : Plan) → TwoLevels p → (readings totals : List ℤ) → totals_refused p readings totals ≡ 0
    → (e : ℕ) → e < 2 ^ all_letters p → (base p e ≡ 0 → ⊥) → confounded_in p (base p e) ≡ false
    → MeanDifference p (λ r. turned_by (turn p e) (plus p r e)) (read (run_sums_of p readings)) (estimate_of p readings totals (base p e))

-- E3, E5, T30: the mean: the sum of all readings, which is never negated, over their number. x has the sum of each run's readings.
pub record Mean (p : Plan) (x : Column) (answer : Outcome Value) : Type 0 where
  pub value : Float
  pub answered : answer ≡ given (mean value)
  pub exactly : Exactly (Σ (runs_of p) x) (2 ^ p.k * p.repeats) value
  pub readings : 2 ^ p.k * p.repeats ≡ all_readings p

abbrev pub MeanEstimate : Type 0
MeanEstimate =
    (p : Plan) → TwoLevels p → (readings totals : List ℤ) → totals_refused p readings totals ≡ 0
    → Mean p (read (run_sums_of p readings)) (estimate_of p readings totals 0)

-- E2: "Lost is the outcome exactly when the effect is confounded."
abbrev pub LostEstimates : Type 0
LostEstimates =
    (p : Plan) → TwoLevels p → (readings totals : List ℤ) → totals_refused p readings totals ≡ 0
    → (e : ℕ) → e < runs_of p
    → (confounded_in p e ≡ true → estimate_of p readings totals e ≡ given lost) × (estimate_of p readings totals e ≡ given lost → confounded_in p e ≡ true)

-- E6: "A zero total still gives positive zero.": of every plan and every effect
abbrev pub PositiveZero : Type 0
PositiveZero =
    (p : Plan) (e : ℕ) (x : Float)
    → (promised_estimate p e (pos 0) ≡ given (mean x) → x ≡ positive_zero) × (promised_estimate p e (pos 0) ≡ given (difference x) → x ≡ positive_zero)
