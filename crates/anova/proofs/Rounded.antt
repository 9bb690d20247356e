-- The rounds of the check.
--
--   Rounding n xs i ys                            the first i sets of a round are turned
--   rounding-none, rounding-more, rounding-all    before the first set, after one more, after the last
--   small-set                                     the values of the next set are small
--   Left k xs i sets ys                           what i rounds leave of readings within a limit, and how many sets the last one had
--   left-none, left-more, left-all                before the first round, after one more, after the last
--   left-sets                                     the next round's sets
use mathlib.Core.Path.{◌≡◌, refl, sym, ◌∙◌, ap}
use mathlib.Core.List.{List}
use mathlib.Core.Bool.{cond}
use Prim.Native.Nat.{ℕ, suc, ◌+◌, ◌-◌, ◌*◌, ◌/◌, ◌^◌, ◌<◌, ◌≤◌}
use native.Mathlib.Nat.{add-zero, le_trans, mul-le-mul_right, pow-le-pow_right, pow-suc, pow-succ', mul-div_left, mul_assoc, one-mul, one-le-pow}
use native.Mathlib.Numerals.{add-one}
use native.Mathlib.Decide.{dec_lt}
use native.Mathlib.Omega.{arith}
use borrow.Author.Tests.{lt-ltb, le-ltb}
use lib.Dec.{ltb, lit<}
use lib.IntN.{ℤ, pos, nat_abs, ◌+ℤ◌, ◌-ℤ◌, ◌*ℤ◌}
use lib.ListN.{length, set, replicate}
use Rattle.algebra.specs.Laws.Fill.{Filled, filled_none, filled-long, filled-old, filled_more}
use Rattle.algebra.specs.Laws.Tab.{length-tab, get_or-tab}
use Rattle.contrasts.specs.Columns.{read, AllWithin}
use Rattle.contrasts.specs.Limits.{value_limit}
use Rattle.contrasts.proofs.Factors.{three}
use Rattle.contrasts.specs.Checks.{round, rounds}
use Rattle.contrasts.proofs.Laws.CheckSum.{rounds-cong}
use Rattle.contrasts.proofs.Laws.Within.{within-tab}
use Rattle.contrasts.proofs.Laws.ThreeLevels.{round-three, round-bound, size-three}
use Rattle.contrasts.proofs.Laws.Small.{Small}
use Rattle.anova.specs.Inner.Ready.{Sets, Rounds}
use Rattle.anova.specs.Inner.Readings.{after_round}

-- ---- one round

pub record Rounding (n : ℕ) (xs : List ℤ) (i : ℕ) (ys : List ℤ) : Type 0 where
  pub upto : i ≤ n
  pub so : Filled (length xs) (round three (read xs)) (read xs) i ys

module _ {n : ℕ} {xs : List ℤ} (pre : Sets n xs) where
  pub rounding-none : Rounding n xs 0 xs
  rounding-none = record { upto = omega arith; so = filled_none (pos 0) (length xs) (round three (read xs)) (read xs) xs refl (λ j h. refl) }

  module _ {i : ℕ} {ys : List ℤ} (w : Rounding n xs i ys) where
    pub rounding-long : length ys ≡ length xs
    rounding-long = filled-long (pos 0) w.so

    pub rounding-all : n ≤ i → ys ≡ after_round n xs
    unfolding after_round
    rounding-all h =
        let e : i ≡ n = omega (arith, w.upto) in
        w.so.so ∙ rw e refl

    module _ (low : i < n) where
      -- a value of the set is not yet written over
      still : (j : ℕ) → j < 3 → (m : ℕ) → i * 3 + j ≡ m → read ys m ≡ read xs (i * 3 + j)
      still j h m e = ap (read ys) (sym e) ∙ filled-old (pos 0) w.so (i * 3 + j) (omega arith) (omega (arith, pre.whole))

      small_at : (j : ℕ) → j < 3 → (m : ℕ) → i * 3 + j ≡ m → Small (read ys m)
      small_at j h m e = record { small = rw (still j h m e) (pre.within (i * 3 + j)) }

      pub small-set : Small (read ys (3 * i)) × Small (read ys (3 * i + 1)) × Small (read ys (3 * i + 2))
      small-set = (small_at 0 (lit< tt) (3 * i) (omega arith), small_at 1 (lit< tt) (3 * i + 1) (omega arith), small_at 2 (lit< tt) (3 * i + 2) (omega arith))

      pub rounding-more : {v : ℤ} → v ≡ pos 3 *ℤ read ys (3 * i) -ℤ read ys (3 * i + 1) +ℤ read ys (3 * i + 2) → Rounding n xs (i + 1) (set ys i v)
      rounding-more e =
          record {
            upto = omega arith;
            so = filled_more (pos 0) w.so (omega (arith, pre.whole))
                (e ∙ rw (first, still 1 (lit< tt) (3 * i + 1) (omega arith), still 2 (lit< tt) (3 * i + 2) (omega arith)) (sym (round-three (read xs) i)));
          }
        where
          first : read ys (3 * i) ≡ read xs (i * 3)
          first = still 0 (lit< tt) (3 * i) (omega arith) ∙ ap (read xs) (add-zero (i * 3))

-- ---- all rounds

module _ (n : ℕ) (xs : List ℤ) where
  after-long : length (after_round n xs) ≡ length xs
  unfolding after_round
  after-long = length-tab (length xs) _

  after_read : n ≤ length xs → (q : ℕ) → q < n → read (after_round n xs) q ≡ round three (read xs) q
  unfolding after_round
  after_read h q k = get_or-tab (pos 0) (length xs) _ q (omega arith) ∙ rw (lt-ltb q n k) refl

  after-within : (M : ℕ) → AllWithin M xs → AllWithin (5 * M) (after_round n xs)
  unfolding after_round
  after-within M h = within-tab (length xs) (5 * M) _ (λ i k. by i (dec_lt i n))
    where
      by : (i : ℕ) → Dec (i < n) → nat_abs (cond (ltb i n) (round three (read xs) i) (read xs i)) ≤ 5 * M
      by i (yes k) = rw (lt-ltb i n k) (round-bound (read xs) i M h)
      by i (no k) = rw (le-ltb i n (omega arith)) (omega (arith, h i))

-- what is left of the rounds after one of n sets
after-rounds : (k n : ℕ) (xs : List ℤ) → n ≡ 3 ^ k → n ≤ length xs
    → rounds (replicate k three) (read (after_round n xs)) ≡ rounds (replicate (suc k) three) (read xs)
unfolding rounds
after-rounds k n xs e h =
    rounds-cong (replicate k three) (read (after_round n xs)) (round three (read xs))
    (λ r l. after_read n xs h r (rw (e, ← (size-three k)) l))

pub record Left (k : ℕ) (xs : List ℤ) (i sets : ℕ) (ys : List ℤ) : Type 0 where
  pub limit : ℕ
  pub roomy : 5 ^ (k - 1) * limit ≤ value_limit
  pub some : i ≤ k
  pub last : sets ≡ 3 ^ (k - i)
  pub long : length ys ≡ length xs
  pub within : AllWithin (5 ^ i * limit) ys
  pub same : rounds (replicate (k - i) three) (read ys) ≡ rounds (replicate k three) (read xs)

module _ {k : ℕ} {xs : List ℤ} (pre : Rounds k xs) where
  pub left-none : Left k xs 0 (length xs) xs
  left-none =
      let z : k - 0 ≡ k = omega arith in
      record {
        limit = pre.limit;
        roomy = pre.roomy;
        some = omega arith;
        last = rw z pre.whole;
        long = refl;
        within = rw (one-mul pre.limit) pre.within;
        same = rw z refl;
      }

  module _ {i sets : ℕ} {ys : List ℤ} (w : Left k xs i sets ys) where
    pub left-all : k ≤ i → read ys 0 ≡ rounds (replicate k three) (read xs)
    unfolding rounds
    left-all h =
        let e : k - i ≡ 0 = omega arith in
        sym (sym w.same ∙ rw e refl)

    pub left-some : 0 < length ys
    left-some = rw (w.long, pre.whole) (one-le-pow k 3 (lit< tt))

    module _ (low : i < k) where
      next : k - i ≡ suc (k - (i + 1))
      next = omega arith

      third : sets / 3 ≡ 3 ^ (k - (i + 1))
      third = rw (w.last, next, pow-suc 3 (k - (i + 1))) (mul-div_left (3 ^ (k - (i + 1))) (lit< tt))

      -- 3 to the power of what is left is no more than 3 to the power k
      room : 3 * (sets / 3) ≤ length ys
      room =
          rw (third, w.long, pre.whole, ← (pow-succ' 3 (k - (i + 1))), ← next)
          (pow-le-pow_right {n = 3} (lit< tt) {i = k - i} {j = k} (omega arith))

      -- a round makes a number no more than 5 times as large
      before_last : 5 ^ i ≤ 5 ^ (k - 1)
      before_last = pow-le-pow_right {n = 5} (lit< tt) {i = i} {j = k - 1} (omega arith)

      pub left-sets : Sets (sets / 3) ys
      left-sets =
          record {
            whole = room;
            within = λ j. le_trans (w.within j) (le_trans (mul-le-mul_right w.limit before_last) w.roomy);
          }

      pub left-more : {zs : List ℤ} → zs ≡ after_round (sets / 3) ys → Left k xs (i + 1) (sets / 3) zs
      left-more e =
          record {
            limit = w.limit;
            roomy = w.roomy;
            some = omega arith;
            last = third;
            long = rw e (after-long (sets / 3) ys) ∙ w.long;
            within = rw (e, add-one i, pow-succ' 5 i, mul_assoc 5 (5 ^ i) w.limit) (after-within (sets / 3) ys (5 ^ i * w.limit) w.within);
            same =
                rw e (
                after-rounds (k - (i + 1)) (sets / 3) ys third (omega (arith, room))
                ∙ ap (λ n. rounds (replicate n three) (read ys)) (sym next)
                ∙ w.same
                );
          }
