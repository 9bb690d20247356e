-- A list of n places that a loop writes one after the other, the first place first.
--
--   Filled n new old i ys                   ys has the new values at its first i places, and the old ones after them
--   filled-long                             its length
--   filled_none, filled_more, filled-all    before the first place is written, after one more, after the last
--   filled-blank                            before the first, where all places hold the same
--   filled-three                            after three more places
--   filled-old, filled-new                  what its places hold
--   filled-first                            the first of those that are written
use Rattle.std.specs.Prelude.{◌≡◌, cond, List, ℕ, ◌+◌, ◌<◌, ◌≤◌, ltb, length, get_or, set, take, replicate}
use Rattle.std.proofs.Common.{◌∙◌, ap, arith, lt-ltb, le-ltb, length-take-le, get_or-take}
use Rattle.std.proofs.lemmas.List.{length-replicate, get_or-replicate}
use Rattle.algebra.specs.Tab.{tab}
use Rattle.algebra.specs.Laws.Tab.{length-tab, get_or-tab, is-tab, tab-cong, tab-set}
use Rattle.algebra.specs.Laws.Tests.{same_test}

module _ {A : Type 0} where
  abbrev upto : (ℕ → A) → (ℕ → A) → ℕ → ℕ → A
  upto new old i j = cond (ltb j i) (new j) (old j)

  pub record Filled (n : ℕ) (new old : ℕ → A) (i : ℕ) (ys : List A) : Type 0 where
    pub some : i ≤ n
    pub so : ys ≡ tab n (λ j. cond (ltb j i) (new j) (old j))

module _ {A : Type 0} (z : A) where
  pub filled_none : (n : ℕ) (new old : ℕ → A) (ys : List A) → length ys ≡ n → ((j : ℕ) → j < n → get_or ys j z ≡ old j) → Filled n new old 0 ys
  filled_none n new old ys e h =
      record { some = omega arith; so = is-tab z ys n (λ j. cond (ltb j 0) (new j) (old j)) e (λ j k. h j k ∙ rw (le-ltb j 0 (omega arith))) }

  pub filled-blank : (n : ℕ) (new : ℕ → A) (v : A) → Filled n new (λ j. v) 0 (replicate n v)
  filled-blank n new v = filled_none n new (λ j. v) (replicate n v) (length-replicate n v) (λ j h. get_or-replicate n j v z h)

  module _ {n : ℕ} {new old : ℕ → A} {i : ℕ} {ys : List A} (w : Filled n new old i ys) where
    pub filled-long : length ys ≡ n
    filled-long = rw w.so (length-tab n (upto new old i))

    pub filled-old : (j : ℕ) → i ≤ j → j < n → get_or ys j z ≡ old j
    filled-old j h k = rw w.so (get_or-tab z n (upto new old i) j k ∙ rw (le-ltb j i h))

    pub filled-new : (j : ℕ) → j < i → get_or ys j z ≡ new j
    filled-new j h = rw w.so (get_or-tab z n (upto new old i) j (omega (arith, w.some)) ∙ rw (lt-ltb j i h))

    pub filled-first : (m : ℕ) → m ≤ i → take m ys ≡ tab m new
    filled-first m h =
        is-tab z (take m ys) m new (length-take-le m ys (omega (arith, filled-long, w.some, h)))
        (λ j l. get_or-take m ys j z l ∙ filled-new j (omega (arith, l, h)))

    pub filled-all : n ≤ i → ys ≡ tab n new
    filled-all h = w.so ∙ tab-cong z n (upto new old i) new (λ j k. rw (lt-ltb j i (omega arith)))

    pub filled_more : i < n → {v : A} → v ≡ new i → Filled n new old (i + 1) (set ys i v)
    filled_more h {v} e =
        record {
          some = omega arith;
          so = tab-set z n i (upto new old i) (upto new old (i + 1)) v ys w.so (e ∙ rw (lt-ltb i (i + 1) (omega arith))) others;
        }
      where
        others : (j : ℕ) → j < n → (j ≡ i → ⊥) → upto new old i j ≡ upto new old (i + 1) j
        others j k d = ap (λ b. cond b (new j) (old j)) (same_test j i d)

  pub filled-three : {n : ℕ} {new old : ℕ → A} {i : ℕ} {ys : List A} → Filled n new old i ys → i + 3 ≤ n
      → {a b c : A} → a ≡ new i → b ≡ new (i + 1) → c ≡ new (i + 2) → Filled n new old (i + 3) (set (set (set ys i a) (i + 1) b) (i + 2) c)
  filled-three {i = i} w h d e f =
      let two : i + 1 + 1 ≡ i + 2 = omega arith in
      let three : i + 2 + 1 ≡ i + 3 = omega arith in
      rw three at (filled_more (rw two at (filled_more (filled_more w (omega arith) d) (omega arith) e)) (omega arith) f)
