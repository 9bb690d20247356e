-- The block sums, set by set of three runs.
--
--   sum_fits, sum-held              a value added to a block sum, as code holds it
--   next-few, first-ready, second-ready, third-ready    the three values of a set can be added one after the other
--   value_in k w xs j i             what run i brings to block j
--   Adding k w xs i sums            these are the sums of the first i runs, by block; i is a number of whole sets
--   three-long                      there are three of them
--   adding-none, adding-all         before the first run, after the last
--   some-factor, set_there          there is a factor, and the runs of the next set are there
--   set-ready, adding-more          the next set can be added, and then has been
--   sum_back, sum-sized             a block sum as code holds it
--   value-held                      a value as code holds it
--   amount-made                     the amount from the three
use mathlib.Core.Path.{◌≡◌, refl, sym, ◌∙◌, ap, ap₂}
use mathlib.Core.Bool.{Bool, true, false, cond}
use mathlib.Core.List.{List}
use Prim.Native.Nat.{ℕ, zero, suc, ◌+◌, ◌*◌, ◌-◌, ◌/◌, ◌%◌, ◌^◌, ◌<◌, ◌≤◌}
use native.Mathlib.Nat.{le_trans, add-zero, zero-lt-suc, mul-le-mul_right, one-le-pow, pow-suc}
use native.Mathlib.Decide.{ℕ_discrete, dec_lt}
use native.Mathlib.Numerals.{add-one}
use native.Mathlib.Omega.{arith}
use borrow.Author.Tests.{eq-eqb, ne_eqb}
use lib.Dec.{eqb, lit<}
use lib.IntN.{ℤ, pos, nat_abs, ◌+ℤ◌, ◌-ℤ◌, +ℤ_idr}
use lib.ListN.{length, get_or, set, replicate, length-set}
use lib.Seq.{get_or-set_same, get_or-set_other}
use mir.Syntax.{w64}
use mir.Val.{SFits}
use Rattle.algebra.specs.Sum.{Σ}
use Rattle.algebra.specs.Tab.{tab, tab_from}
use Rattle.algebra.specs.Laws.Machine.{fits, wrap}
use Rattle.algebra.proofs.Laws.Machine.{back}
use Rattle.algebra.specs.Laws.Naturals.{Σℕ-each}
use Rattle.algebra.specs.Laws.Size.{sq, nat_abs-+ℤ, nat_abs-Σ}
use Rattle.algebra.specs.Laws.Tab.{length-tab, get_or-tab, get_d_past, tab-set}
use Rattle.contrasts.specs.Blocks.{block_of, block_sum, block_numerator}
use Rattle.contrasts.specs.Columns.{read}
use Rattle.contrasts.proofs.Factors.{three}
use Rattle.contrasts.specs.Rows.{row_of}
use Rattle.contrasts.specs.Totals.{size}
use Rattle.contrasts.proofs.Laws.ThreeLevels.{size-three, weight-first}
use Rattle.contrasts.proofs.Laws.Blocks.{block-lt, block-set, amount-is}
use Rattle.blocks.specs.Ready.{added, set_added, Addable, SetAddable, Blockable, BlockSized}

-- ---- one value

module _ {sums : List ℤ} {b : ℕ} {v : ℤ} (a : Addable sums b v) where
  abbrev sum : ℤ
  sum = get_or sums b (pos 0) +ℤ v

  sum-small : nat_abs sum < 2 ^ 63
  sum-small = omega (arith, nat_abs-+ℤ (get_or sums b (pos 0)) v, a.sums-few b, a.value-few, a.limit-fits)

  both-back : wrap (get_or sums b (pos 0)) +ℤ wrap v ≡ sum
  both-back =
      rw (back (get_or sums b (pos 0)) (omega (arith, a.sums-few b, a.limit-fits)), back v (omega (arith, a.value-few, a.limit-fits))) refl

  pub sum_fits : SFits w64 (wrap (get_or sums b (pos 0)) +ℤ wrap v)
  sum_fits = rw both-back (fits sum sum-small)

  pub sum-held : set sums b (wrap (wrap (get_or sums b (pos 0)) +ℤ wrap v)) ≡ added sums b v
  sum-held = ap (set sums b) (ap wrap both-back ∙ back sum sum-small)

-- no sum is more than it was and the value
next-few : (sums : List ℤ) (b m n : ℕ) (v : ℤ) → b < length sums → ((j : ℕ) → nat_abs (get_or sums j (pos 0)) ≤ m) → nat_abs v ≤ n
    → (j : ℕ) → nat_abs (get_or (added sums b v) j (pos 0)) ≤ m + n
next-few sums b m n v h few l j = by (ℕ_discrete j b)
  where
    by : Dec (j ≡ b) → nat_abs (get_or (added sums b v) j (pos 0)) ≤ m + n
    by (yes e) =
        rw (e, get_or-set_same sums b (get_or sums b (pos 0) +ℤ v) (pos 0) h) (omega (arith, nat_abs-+ℤ (get_or sums b (pos 0)) v, few b, l))
    by (no d) = rw (get_or-set_other sums b j (get_or sums b (pos 0) +ℤ v) (pos 0) d) (omega (arith, few j))

-- ---- the three values of a set

module _ {sums : List ℤ} {b d : ℕ} {x y z : ℤ} (a : SetAddable sums b d x y z) where
  abbrev once : List ℤ
  once = added sums b x

  abbrev twice : List ℤ
  twice = added once ((b + d) % 3) y

  once-long : length once ≡ 3
  once-long = length-set sums b _ ∙ a.three

  twice-long : length twice ≡ 3
  twice-long = length-set once ((b + d) % 3) _ ∙ once-long

  once-few : (j : ℕ) → nat_abs (get_or once j (pos 0)) ≤ 204_800_000
  once-few = next-few sums b 102_400_000 102_400_000 x (omega (arith, a.three, a.block)) a.sums-few a.first

  twice-few : (j : ℕ) → nat_abs (get_or twice j (pos 0)) ≤ 307_200_000
  twice-few = next-few once ((b + d) % 3) 204_800_000 102_400_000 y (omega (arith, once-long)) once-few a.middle

  pub first-ready : Addable sums b x
  first-ready = record { three = a.three; there = a.block; limit = 102_400_000; sums-few = a.sums-few; value-few = a.first; limit-fits = omega arith }

  pub second-ready : Addable once ((b + d) % 3) y
  second-ready =
      record {
        three = once-long;
        there = omega arith;
        limit = 204_800_000;
        sums-few = once-few;
        value-few = omega (arith, a.middle);
        limit-fits = omega arith;
      }

  pub third-ready : Addable twice (((b + d) % 3 + d) % 3) z
  third-ready =
      record {
        three = twice-long;
        there = omega arith;
        limit = 307_200_000;
        sums-few = twice-few;
        value-few = omega (arith, a.third);
        limit-fits = omega arith;
      }

-- ---- the runs

-- what a run brings to block j
abbrev pub value_in : ℕ → ℕ → List ℤ → ℕ → ℕ → ℤ
value_in k w xs j i = cond (eqb (block_of (replicate k three) w i) j) (read xs i) (pos 0)

-- the sums of the first i runs, by block
abbrev partly : ℕ → ℕ → List ℤ → ℕ → ℕ → ℤ
partly k w xs i j = Σ i (value_in k w xs j)

pub record Adding (k w : ℕ) (xs : List ℤ) (i : ℕ) (sums : List ℤ) : Type 0 where
  pub upto : i ≤ length xs
  pub sets : i % 3 ≡ 0
  pub so : sums ≡ tab 3 (λ j. Σ i (value_in k w xs j))

pub adding-none : (k w : ℕ) (xs : List ℤ) → Adding k w xs 0 (replicate 3 (pos 0))
unfolding Σ tab_from
adding-none k w xs = record { upto = omega arith; sets = refl; so = refl }

-- of no factors no word uses a letter
row-of-none : (w : ℕ) → row_of (replicate 0 three) w ≡ 0
unfolding row_of
row-of-none w = refl

pub three-long : {k w : ℕ} {xs : List ℤ} {i : ℕ} {sums : List ℤ} → Adding k w xs i sums → length sums ≡ 3
three-long {k} {w} {xs} {i} a = ap length a.so ∙ length-tab 3 (partly k w xs i)

module _ {k w : ℕ} {xs : List ℤ} (pre : Blockable k w xs) where
  value-small : (b : Bool) (i : ℕ) → nat_abs (cond b (read xs i) (pos 0)) ≤ pre.limit
  value-small true i = pre.within i
  value-small false i = omega arith

  partly-small : (i j : ℕ) → i ≤ length xs → nat_abs (partly k w xs i j) ≤ 102_400_000
  partly-small i j h =
      le_trans (nat_abs-Σ i (value_in k w xs j))
      (le_trans (Σℕ-each i pre.limit (λ r. nat_abs (value_in k w xs j r)) (λ r _. value-small (eqb (block_of (replicate k three) w r) j) r))
      (le_trans (mul-le-mul_right pre.limit (rw pre.whole at h)) pre.roomy))

  pub value-few : (i : ℕ) → nat_abs (read xs i) ≤ 102_400_000
  value-few i =
      let limit-small : 1 * pre.limit ≤ 3 ^ k * pre.limit = mul-le-mul_right pre.limit (one-le-pow k 3 (zero-lt-suc 2)) in
      omega (arith, pre.within i, limit-small, pre.roomy)

  pub value-held : (i : ℕ) → wrap (read xs i) ≡ read xs i
  value-held i = back (read xs i) (omega (arith, value-few i))

  -- a value added to its block's sum
  one_more : (i b : ℕ) (sums : List ℤ) → b ≡ block_of (replicate k three) w i → sums ≡ tab 3 (partly k w xs i)
      → added sums b (read xs i) ≡ tab 3 (partly k w xs (suc i))
  unfolding Σ
  one_more i b sums e so =
      tab-set (pos 0) 3 b (partly k w xs i) (partly k w xs (suc i)) _ sums so
      (ap (λ z. z +ℤ read xs i) (ap (λ l. get_or l b (pos 0)) so ∙ get_or-tab (pos 0) 3 (partly k w xs i) b below) ∙ ap (λ z. partly k w xs i b +ℤ z) own)
      (λ j _ d. sym (ap (λ z. partly k w xs i j +ℤ z) (other j d) ∙ +ℤ_idr (partly k w xs i j)))
    where
      below : b < 3
      below = rw e (block-lt (replicate k three) w i)

      own : read xs i ≡ value_in k w xs b i
      own = sym (rw (eq-eqb (block_of (replicate k three) w i) b (sym e)) refl)

      other : (j : ℕ) → (j ≡ b → ⊥) → value_in k w xs j i ≡ pos 0
      other j d = rw (ne_eqb (block_of (replicate k three) w i) j (λ f. d (sym f ∙ sym e))) refl

  -- ---- the next set

  pub some-factor : 0 < k
  some-factor = by k pre.uses
    where
      by : (n : ℕ) → (row_of (replicate n three) w ≡ 0 → ⊥) → 0 < n
      by zero u = absurd (u (row-of-none w))
      by (suc n) u = omega arith

  pub whole-sets : length xs % 3 ≡ 0
  whole-sets = rw pre.whole (by k some-factor)
    where
      by : (n : ℕ) → 0 < n → 3 ^ n % 3 ≡ 0
      by zero h = absurd (omega (arith, h))
      by (suc n) h = rw (pow-suc 3 n) (omega arith)

  module _ {i : ℕ} {sums : List ℤ} (a : Adding k w xs i sums) where
    pub adding-all : length xs ≤ i → (j : ℕ) → j < 3 → get_or sums j (pos 0) ≡ block_sum (replicate k three) w (read xs) j
    adding-all h j l =
        let e : i ≡ size (replicate k three) = omega (arith, a.upto, pre.whole, size-three k) in
        ap (λ s. get_or s j (pos 0)) a.so ∙ get_or-tab (pos 0) 3 (partly k w xs i) j l ∙ ap (λ n. partly k w xs n j) e

    sums-few : (j : ℕ) → nat_abs (get_or sums j (pos 0)) ≤ 102_400_000
    sums-few j = by (dec_lt j 3)
      where
        by : Dec (j < 3) → nat_abs (get_or sums j (pos 0)) ≤ 102_400_000
        by (yes l) = rw (a.so, get_or-tab (pos 0) 3 (partly k w xs i) j l) (partly-small i j a.upto)
        by (no n) = rw (a.so, get_d_past (pos 0) (tab 3 (partly k w xs i)) j (omega (arith, length-tab 3 (partly k w xs i)))) (omega arith)

    pub sum_back : (j : ℕ) → wrap (get_or sums j (pos 0)) ≡ get_or sums j (pos 0)
    sum_back j = back (get_or sums j (pos 0)) (omega (arith, sums-few j))

    pub sum-sized : (j : ℕ) → BlockSized (wrap (get_or sums j (pos 0)))
    sum-sized j = rw (sum_back j) (record { small = sums-few j })

    module _ (low : i < length xs) where
      pub set_there : i + 3 ≤ length xs
      set_there = omega (arith, low, a.sets, whole-sets)

      module _ {b d : ℕ} (turn : ℕ) (run : i ≡ 3 * turn) (first : b ≡ block_of (replicate (k - 1) three) (w / 3) turn) (digit : d ≡ w % 3) where
        -- the blocks of the three runs of the set
        at : (j : ℕ) → j < 3 → block_of (replicate k three) w (i + j) ≡ (d * j + b) % 3
        at j l =
            let more : k ≡ suc (k - 1) = omega (arith, some-factor) in
            let place : i + j ≡ turn * 3 + j = omega (arith, run) in
            rw (first, digit) (ap₂ (λ n m. block_of (replicate n three) w m) more place ∙ block-set (k - 1) w turn j l)

        pub set-ready : SetAddable sums b d (read xs i) (read xs (i + 1)) (read xs (i + 2))
        set-ready =
            record {
              three = three-long a;
              block = rw first (block-lt (replicate (k - 1) three) (w / 3) turn);
              digit = rw digit (omega arith);
              sums-few = sums-few;
              first = value-few i;
              middle = value-few (i + 1);
              third = value-few (i + 2);
            }

        pub adding-more : {m : ℕ} → m ≡ i + 3 → Adding k w xs m (set_added sums b d (read xs i) (read xs (i + 1)) (read xs (i + 2)))
        adding-more e =
            let b-small : b < 3 = set-ready.block in
            let d_small : d < 3 = set-ready.digit in
            let own : b ≡ block_of (replicate k three) w i = sym (ap (block_of (replicate k three) w) (sym (add-zero i)) ∙ at 0 (lit< tt) ∙ omega (arith, b-small)) in
            let next : (b + d) % 3 ≡ block_of (replicate k three) w (i + 1) = sym (at 1 (lit< tt) ∙ omega arith) in
            let last : ((b + d) % 3 + d) % 3 ≡ block_of (replicate k three) w (i + 2) = sym (at 2 (lit< tt) ∙ omega arith) in
            let one = one_more i b sums own a.so in
            let two = one_more (i + 1) ((b + d) % 3) _ next (one ∙ ap (λ n. tab 3 (partly k w xs n)) (sym (add-one i))) in
            let three-added = one_more (i + 2) (((b + d) % 3 + d) % 3) _ last (two ∙ ap (λ n. tab 3 (partly k w xs n)) (omega arith)) in
            rw e (record { upto = set_there; sets = omega (arith, a.sets); so = three-added ∙ ap (λ n. tab 3 (partly k w xs n)) (omega arith) })

-- the amount, from the three sums
pub amount-made : {k w : ℕ} {xs : List ℤ} → Blockable k w xs → {i n : ℕ} {sums : List ℤ} {a b c : ℤ} → Adding k w xs i sums → length xs ≤ i
    → a ≡ get_or sums 0 (pos 0) → b ≡ get_or sums 1 (pos 0) → c ≡ get_or sums 2 (pos 0)
    → n ≡ 2 ^ k * (sq (a -ℤ b) + sq (a -ℤ c) + sq (b -ℤ c)) → n ≡ block_numerator (replicate k three) 1 w (read xs)
amount-made {k} {w} {xs} pre s h p q r e =
    e
    ∙ rw (p, q, r, adding-all pre s h 0 (lit< tt), adding-all pre s h 1 (lit< tt), adding-all pre s h 2 (lit< tt), ← (weight-first k))
    (sym (amount-is k w pre.uses (read xs) 1 (lit< tt)))
