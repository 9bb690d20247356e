-- From readings or run sums within a limit no plan leaves the others, whatever its factors.
--
--   Passable Fs L   readings within L keep the values of passes and steps of the factors Fs within their limit
--   Roomy Fs L M    and their numerators within M
--   roomy           the test of both
--   repeats-few     a run is made at least once, and at most eight times
--   often, often-at    of a test that is computed for all numbers of times that a run may be made, one of them
--   two-roomy       up to ten two-level factors have that room for run sums, whatever number of times their runs are made
--   three-roomy     up to six three-level factors have it
--   three-rounds    and room for the rounds of the check
--   two-full        with ten two-level factors all of it is used,
--   three-full      and with six three-level factors that of numerators
--   values-fit      no value exceeds its limit after each of any calls that repeat no factor
--   totals-fit      nor does a total
--   steps-fit       nor a value after each of k steps of factors that are alike
--   total-fits      nor does the denominator times the sum of squared readings
--   numerators-fit  "No numerator, and no sum of them in one table, exceeds" it
use Rattle.std.specs.Prelude.{◌≡◌, refl, Bool, true, false, cond, not, ◌&&◌, ◌||◌, List, ℕ, suc, ◌-◌, ◌*◌, ◌^◌, ◌<◌, ◌≤◌, max, T, eqb, leb, length, replicate, take}
use Rattle.std.proofs.Common.{sym, true≢false, le_trans, mul-le-mul_left, mul-le-mul_right, arith, leb→le}
use Rattle.std.proofs.Math.Nat.{mul-le-mul, pow-le-pow_left, pow-le-pow_right}
use borrow.Author.Tests.{eqb-true, le-leb}
use Rattle.std.proofs.Math.IntN.{nat_abs}
use Rattle.algebra.specs.Naturals.{Σℕ, most}
use Rattle.algebra.specs.Laws.Naturals.{Σℕ-each}
use Rattle.algebra.specs.Laws.Tests.{and_left, and_right, every-at}
use Rattle.algebra.specs.Tests.{every}
use Rattle.contrasts.specs.Factor.{Factor}
use Rattle.contrasts.specs.Limits.{two_reading_limit, three_reading_limit, two_numerator_limit, three_numerator_limit, value_limit, most_two, most_three, is_repeats, most_readings}
use Rattle.contrasts.proofs.Factors.{two, three}
use Rattle.contrasts.specs.Totals.{Column, size, total, denominator, numerator, squared}
use Rattle.contrasts.specs.Passes.{passes, count}
use Rattle.contrasts.specs.Steps.{steps}
use Rattle.contrasts.proofs.Laws.Replicated.{growth-alike}
use Rattle.contrasts.proofs.Laws.Bounds.{Within, growth, bound-each, bound-total, bound-steps}
use Rattle.contrasts.specs.Laws.Bounds.{reach}
use Rattle.contrasts.proofs.Laws.Digits.{size-pos}
use Rattle.contrasts.proofs.Laws.Squares.{within}

pub record Passable (Fs : List Factor) (L : ℕ) : Type 0 where
  pub values : growth Fs * L ≤ value_limit

pub record Roomy (Fs : List Factor) (L M : ℕ) : Type 0 where
  pub passable : Passable Fs L
  pub numerators : denominator Fs * (size Fs * (L * L)) ≤ M

unfoldable pub roomy : List Factor → ℕ → ℕ → Bool
roomy Fs L M = leb (growth Fs * L) value_limit && leb (denominator Fs * (size Fs * (L * L))) M

-- ---- how often runs are made

pub repeats-few : (r : ℕ) → is_repeats r ≡ true → (0 < r) × (r ≤ 8)
unfolding is_repeats
repeats-few r e = by (eqb r 1) (eqb r 2) (eqb r 4) (eqb r 8) refl refl refl refl e
  where
    by : (a b c d : Bool) → eqb r 1 ≡ a → eqb r 2 ≡ b → eqb r 4 ≡ c → eqb r 8 ≡ d → (a || (b || (c || d))) ≡ true → (0 < r) × (r ≤ 8)
    by true b c d h i j k t = omega (arith, eqb-true r 1 h)
    by false true c d h i j k t = omega (arith, eqb-true r 2 i)
    by false false true d h i j k t = omega (arith, eqb-true r 4 j)
    by false false false true h i j k t = omega (arith, eqb-true r 8 k)
    by false false false false h i j k t = absurd (true≢false (sym t))

-- ---- the kinds of plans, a computed test for each

tested : (Fs : List Factor) (L M : ℕ) → T (roomy Fs L M) → Roomy Fs L M
unfolding roomy
tested Fs L M t =
    record {
      passable =
          record {
            values =
                leb→le (growth Fs * L) value_limit
                (and_left (leb (growth Fs * L) value_limit) (leb (denominator Fs * (size Fs * (L * L))) M) t);
          };
      numerators =
          leb→le (denominator Fs * (size Fs * (L * L))) M
          (and_right (leb (growth Fs * L) value_limit) (leb (denominator Fs * (size Fs * (L * L))) M) t);
    }

-- a test of L times the number of times that a run is made, for all numbers that the plan of the factors Fs may have
unfoldable pub often : List Factor → (ℕ → Bool) → ℕ → Bool
often Fs test r = not (is_repeats r && leb (size Fs * r) most_readings) || test r

module _ (most : ℕ) (Fs : ℕ → List Factor) (test : ℕ → ℕ → Bool) where
  pub often-at : T (every (suc most) (λ k. every 9 (often (Fs k) (test k)))) → (k r : ℕ) → k ≤ most → is_repeats r ≡ true → size (Fs k) * r ≤ most_readings
      → T (test k r)
  unfolding often
  often-at all k r h e few =
      rw (e, le-leb (size (Fs k) * r) most_readings few) at
      (every-at 9 (often (Fs k) (test k)) (every-at (suc most) (λ k. every 9 (often (Fs k) (test k))) all k (omega arith)) r (omega (arith, repeats-few r e)))

all_two : T (every (suc most_two) (λ k. every 9 (often (replicate k two) (λ r. roomy (replicate k two) (r * two_reading_limit) two_numerator_limit))))
unfolding every often is_repeats most_readings roomy two_reading_limit two_numerator_limit value_limit most_two growth reach most Σℕ denominator size two
all_two = tt

pub two-roomy : (k r : ℕ) → k ≤ most_two → is_repeats r ≡ true → size (replicate k two) * r ≤ most_readings
    → Roomy (replicate k two) (r * two_reading_limit) two_numerator_limit
two-roomy k r h e few =
    tested (replicate k two) (r * two_reading_limit) two_numerator_limit
    (often-at most_two (λ k. replicate k two) (λ k r. roomy (replicate k two) (r * two_reading_limit) two_numerator_limit) all_two k r h e few)

all_three : T (every (suc most_three) (λ k. every 9 (often (replicate k three) (λ r. roomy (replicate k three) (r * three_reading_limit) three_numerator_limit))))
unfolding every often is_repeats most_readings roomy three_reading_limit three_numerator_limit value_limit most_three growth reach most Σℕ denominator size three
all_three = tt

pub three-roomy : (k r : ℕ) → k ≤ most_three → is_repeats r ≡ true → size (replicate k three) * r ≤ most_readings
    → Roomy (replicate k three) (r * three_reading_limit) three_numerator_limit
three-roomy k r h e few =
    tested (replicate k three) (r * three_reading_limit) three_numerator_limit
    (often-at most_three (λ k. replicate k three) (λ k r. roomy (replicate k three) (r * three_reading_limit) three_numerator_limit) all_three k r h e few)

all-rounds : T (every (suc most_three) (λ k. every 9 (often (replicate k three) (λ r. leb (5 ^ (k - 1) * (r * three_reading_limit)) value_limit))))
unfolding every often is_repeats most_readings three_reading_limit value_limit most_three size three
all-rounds = tt

pub three-rounds : (k r : ℕ) → k ≤ most_three → is_repeats r ≡ true → size (replicate k three) * r ≤ most_readings
    → 5 ^ (k - 1) * (r * three_reading_limit) ≤ value_limit
three-rounds k r h e few =
    leb→le (5 ^ (k - 1) * (r * three_reading_limit)) value_limit
    (often-at most_three (λ k. replicate k three) (λ k r. leb (5 ^ (k - 1) * (r * three_reading_limit)) value_limit) all-rounds k r h e few)

-- the limits are reached, so none is larger than the rules ask
pub two-full : (growth (replicate most_two two) * two_reading_limit ≡ value_limit)
    × (denominator (replicate most_two two) * (size (replicate most_two two) * (two_reading_limit * two_reading_limit)) ≡ two_numerator_limit)
unfolding two_reading_limit two_numerator_limit value_limit most_two growth reach most Σℕ denominator size two
two-full = (refl, refl)

pub three-full : denominator (replicate most_three three) * (size (replicate most_three three) * (three_reading_limit * three_reading_limit))
    ≡ three_numerator_limit
unfolding three_reading_limit three_numerator_limit most_three denominator size three
three-full = refl

-- ---- values, of readings within L

module _ {Fs : List Factor} {L : ℕ} (room : Passable Fs L) (x : Column) (h : Within (size Fs) L x) where
  pub values-fit : (calls : List ℕ) → ((f : ℕ) → f < length Fs → count f calls ≤ 1)
      → (n : ℕ) → Within (size Fs) value_limit (passes Fs (take n calls) x)
  values-fit calls once n i p = le_trans (bound-each Fs calls n x L once h i p) room.values

  pub totals-fit : Within (size Fs) value_limit (total Fs x)
  totals-fit i p = le_trans (bound-total Fs x L h i p) room.values

-- a step has less reach than all passes
reach-le : (F : Factor) (t k : ℕ) → t ≤ k → reach F ^ t ≤ growth (replicate k F)
reach-le F t k h =
    rw (growth-alike k F)
    (le_trans (pow-le-pow_left {n = reach F} {m = max 1 (reach F)} (omega arith) t) (pow-le-pow_right {n = max 1 (reach F)} (omega arith) h))

pub steps-fit : (F : Factor) (k : ℕ) {L : ℕ} → Passable (replicate (suc k) F) L → (x : Column) → Within (size (replicate (suc k) F)) L x
    → (t : ℕ) → t ≤ suc k → Within (size (replicate (suc k) F)) value_limit (steps (size (replicate (suc k) F)) (replicate t F) x)
unfolding size
steps-fit F k {L} room x h t le i p =
    le_trans (bound-steps F (size (replicate k F)) t x L (size-pos (replicate k F)) h i p)
    (le_trans (mul-le-mul_right L (reach-le F t (suc k) le)) room.values)

-- ---- numerators

module _ {Fs : List Factor} {L M : ℕ} (room : Roomy Fs L M) where
  module _ (x : Column) (h : Within (size Fs) L x) where
    squared-bound : squared Fs x ≤ size Fs * (L * L)
    unfolding squared
    squared-bound = Σℕ-each (size Fs) (L * L) (λ r. nat_abs (x r) * nat_abs (x r)) (λ r k. mul-le-mul (h r k) (h r k))

    pub total-fits : denominator Fs * squared Fs x ≤ M
    total-fits = le_trans (mul-le-mul_left (denominator Fs) squared-bound) room.numerators

    pub numerators-fit : (n : ℕ) (p : ℕ → Bool) → n ≤ size Fs → Σℕ n (λ e. cond (p e) (numerator Fs x e) 0) ≤ M
    numerators-fit n p le = le_trans (within Fs x n p le) total-fits
