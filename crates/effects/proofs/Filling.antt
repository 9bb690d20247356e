-- The loops that fill a list of 1,024 places: n of them are to hold f, and the others hold old from the start.
--
--   Singly f old n e ys                   the list once the places below e are filled, one a turn
--   singly-none, singly-more, singly-all  before the first turn, where all places hold the same; after one more; after the last
--   front                                 the first places filled with one number
--   Threes f old n q ys                   the list after q turns, each of which reads place q and fills the places 3 q, 3 q + 1 and 3 q + 2
--   threes-none, threes-more, threes-all  before the first turn, after one more, after the last
--   threes-read                           turn q reads f q, where place 0 holds f 0 from the start
use mathlib.Core.Path.{◌≡◌, refl, ◌∙◌}
use mathlib.Core.Bool.{cond}
use mathlib.Core.List.{List, ◌++◌}
use Prim.Native.Nat.{ℕ, ◌+◌, ◌-◌, ◌*◌, ◌/◌, ◌%◌, ◌<◌, ◌≤◌}
use native.Mathlib.Decide.{dec_lt}
use native.Mathlib.Omega.{arith}
use lib.Dec.{ltb}
use borrow.Author.Tests.{lt-ltb, le-ltb}
use lib.ListN.{length, get_or, set, drop, replicate}
use Rattle.std.proofs.lemmas.List.{length-append, length-replicate, get_or-replicate, get_or_append_left, get_or-append_right, get_or-drop, drop-replicate}
use Rattle.algebra.specs.Laws.Fill.{Filled, filled-blank, filled-old, filled-new, filled_more, filled-three}
use Rattle.algebra.specs.Tab.{tab}
use Rattle.algebra.specs.Laws.Tab.{is-tab}

-- ---- one place a turn

pub record Singly (f old : ℕ → ℕ) (n e : ℕ) (ys : List ℕ) : Type 0 where
  pub upto : e ≤ n
  pub so : Filled 1024 f old e ys

pub singly-none : (f : ℕ → ℕ) (v n : ℕ) → Singly f (λ j. v) n 0 (replicate 1024 v)
singly-none f v n = record { upto = omega arith; so = filled-blank 0 1024 f v }

module _ {f old : ℕ → ℕ} {n e : ℕ} {ys : List ℕ} (w : Singly f old n e ys) where
  pub singly-more : e < n → n ≤ 1024 → {v : ℕ} → v ≡ f e → Singly f old n (e + 1) (set ys e v)
  singly-more low most d = record { upto = omega arith; so = filled_more 0 w.so (omega arith) d }

  pub singly-all : n ≤ e → ys ≡ tab 1024 (λ j. cond (ltb j n) (f j) (old j))
  singly-all h =
      let d : e ≡ n = omega (arith, w.upto) in
      w.so.so ∙ rw d refl

-- ---- the first places, filled with one number

pub front : {n : ℕ} (v z : ℕ) {ys : List ℕ} → n ≤ 1024 → ys ≡ replicate n v → ys ++ drop n (replicate 1024 z) ≡ tab 1024 (λ e. cond (ltb e n) v z)
front {n} v z most e = rw e (is-tab 0 _ 1024 _ long (λ i h. by i h (dec_lt i n)))
  where
    long : length (replicate n v ++ drop n (replicate 1024 z)) ≡ 1024
    long = rw (length-append (replicate n v) (drop n (replicate 1024 z)), drop-replicate n 1024 z, length-replicate n v, length-replicate (1024 - n) z) (omega arith)

    by : (i : ℕ) → i < 1024 → Dec (i < n) → get_or (replicate n v ++ drop n (replicate 1024 z)) i 0 ≡ cond (ltb i n) v z
    by i h (yes l) =
        get_or_append_left (replicate n v) (drop n (replicate 1024 z)) 0 i (rw (length-replicate n v) l)
        ∙ get_or-replicate n i v 0 l ∙ rw (lt-ltb i n l) refl
    by i h (no l) =
        get_or-append_right (replicate n v) (drop n (replicate 1024 z)) n i 0 (length-replicate n v) (omega arith)
        ∙ get_or-drop n (replicate 1024 z) (i - n) 0 ∙ get_or-replicate 1024 (n + (i - n)) z 0 (omega arith) ∙ rw (le-ltb i n (omega arith)) refl

-- ---- three places a turn

pub record Threes (f old : ℕ → ℕ) (n q : ℕ) (ys : List ℕ) : Type 0 where
  pub upto : q ≤ n / 3
  pub so : Filled 1024 f old (q * 3) ys

pub threes-none : (n : ℕ) {f old : ℕ → ℕ} {ys : List ℕ} → Filled 1024 f old 0 ys → Threes f old n 0 ys
threes-none n w = record { upto = omega arith; so = w }

module _ {f old : ℕ → ℕ} {n q : ℕ} {ys : List ℕ} (w : Threes f old n q ys) where
  pub threes-all : n % 3 ≡ 0 → n / 3 ≤ q → ys ≡ tab 1024 (λ j. cond (ltb j n) (f j) (old j))
  threes-all whole h =
      let d : q * 3 ≡ n = omega (arith, w.upto) in
      w.so.so ∙ rw d refl

  module _ (low : q < n / 3) (most : n ≤ 1024) where
    pub threes-read : old 0 ≡ f 0 → get_or ys q 0 ≡ f q
    threes-read first = by (dec_lt q (q * 3))
      where
        by : Dec (q < q * 3) → get_or ys q 0 ≡ f q
        by (yes h) = filled-new 0 w.so q h
        by (no h) =
            let z : q ≡ 0 = omega arith in
            filled-old 0 w.so q (omega arith) (omega arith) ∙ rw z first

    pub threes-more : {a b c : ℕ} → a ≡ f (q * 3) → b ≡ f (q * 3 + 1) → c ≡ f (q * 3 + 2)
        → Threes f old n (q + 1) (set (set (set ys (q * 3) a) (q * 3 + 1) b) (q * 3 + 2) c)
    threes-more d e g =
        let next : (q + 1) * 3 ≡ q * 3 + 3 = omega arith in
        record { upto = omega arith; so = rw next (filled-three 0 w.so (omega arith) d e g) }
