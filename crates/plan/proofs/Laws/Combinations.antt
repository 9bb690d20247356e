-- Laws on the combinations of one or more of some words.
--
--   combination, the-combination          a test holds of some combination where it holds of one, and then there is one
--   no-combination, each-fails            it holds of none where it fails at each, and then it fails at each
--   few-choices, all-choices              `choices` counts those of fewer than 16 words: what is below its answer is one, and none lies beyond
--   at ws f c                             the test f at a choice of words, which must choose one
--   Trying ws f c                         a loop over the choices has found none below c
--   trying, try-more, tried, tried-all    at its start, at its next turn, where it finds one, at its end
use Rattle.std.specs.Prelude.{◌≡◌, Bool, true, cond, ◌&&◌, List, ltb}
use Rattle.std.proofs.Math.Path.{refl, sym}
use Rattle.std.proofs.Common.{◌∙◌, zero-lt-suc, arith}
use Rattle.std.proofs.Math.Bool.{false}
use Rattle.std.proofs.lemmas.Bool.{false≢true}
use Prim.Native.Nat.{ℕ, zero, suc, ◌+◌, ◌^◌, ◌<◌, ◌≤◌}
use Rattle.std.proofs.Math.Nat.{one-le-pow}
use Rattle.std.proofs.Math.ListN.{length}
use borrow.Author.Tests.{lt-ltb, ltb-true}
use Rattle.algebra.specs.Laws.Search.{some-true, some-false, some_at, none-at}
use Rattle.algebra.specs.Laws.Searching.{Unfound, unfound, onward, found, nowhere}
use Rattle.words.specs.Words.{combined}
use Rattle.plan.specs.Plan.{some_combination}

both : (a b : Bool) → (a && b) ≡ true → (a ≡ true) × (b ≡ true)
both true b e = (refl, e)
both false b e = (e, absurd-true e)
  where
    absurd-true : {b : Bool} → false ≡ true → b ≡ true
    absurd-true e = absurd (false≢true e)

pub few-choices : (n c : ℕ) → c < cond (ltb n 16) (2 ^ n) 0 → (n < 16) × (c < 2 ^ n)
few-choices n c h = by (ltb n 16) refl h
  where
    by : (b : Bool) → ltb n 16 ≡ b → c < cond b (2 ^ n) 0 → (n < 16) × (c < 2 ^ n)
    by true e l = (ltb-true n 16 e, l)
    by false e l = absurd (omega (arith, l))

pub all-choices : (n c : ℕ) → n < 16 → cond (ltb n 16) (2 ^ n) 0 ≤ c → 2 ^ n ≤ c
all-choices n c few h = by (ltb n 16) refl h
  where
    by : (b : Bool) → ltb n 16 ≡ b → cond b (2 ^ n) 0 ≤ c → 2 ^ n ≤ c
    by true e l = l
    by false e l = absurd (false≢true (sym e ∙ lt-ltb n 16 few))

module _ (ws : List ℕ) (f : ℕ → Bool) where
  -- the test at a choice, which must choose a word
  abbrev pub at : ℕ → Bool
  at c = ltb 0 c && f (combined 0 c ws)

  at_some : (c : ℕ) → 0 < c → at c ≡ f (combined 0 c ws)
  at_some c h = rw (lt-ltb 0 c h)

  pub combination : (c : ℕ) → 0 < c → c < 2 ^ length ws → f (combined 0 c ws) ≡ true → some_combination ws f ≡ true
  unfolding some_combination
  combination c h l e = some-true (2 ^ length ws) at c l (at_some c h ∙ e)

  pub the-combination : some_combination ws f ≡ true → (c : ℕ) × (0 < c) × (c < 2 ^ length ws) × (f (combined 0 c ws) ≡ true)
  unfolding some_combination
  the-combination e =
      let s = some_at (2 ^ length ws) at e in
      let b = both (ltb 0 s.0) (f (combined 0 s.0 ws)) s.2 in
      (s.0, ltb-true 0 s.0 b.0, s.1, b.1)

  pub no-combination : ((c : ℕ) → 0 < c → c < 2 ^ length ws → f (combined 0 c ws) ≡ false) → some_combination ws f ≡ false
  unfolding some_combination
  no-combination h = some-false (2 ^ length ws) at (λ c l. by c l)
    where
      by : (c : ℕ) → c < 2 ^ length ws → at c ≡ false
      by zero l = refl
      by (suc c) l = at_some (suc c) (zero-lt-suc c) ∙ h (suc c) (zero-lt-suc c) l

  pub each-fails : some_combination ws f ≡ false → (c : ℕ) → 0 < c → c < 2 ^ length ws → f (combined 0 c ws) ≡ false
  unfolding some_combination
  each-fails e c h l = sym (at_some c h) ∙ none-at (2 ^ length ws) at e c l

  -- ---- the loop

  pub record Trying (c : ℕ) : Type 0 where
    pub some_word : 0 < c
    pub so : Unfound at (2 ^ length ws) c

module _ {ws : List ℕ} {f : ℕ → Bool} where
  pub trying : Trying ws f 1
  trying = record { some_word = omega arith; so = onward (unfound (at ws f) (2 ^ length ws)) (one-le-pow (length ws) 2 (zero-lt-suc 1)) refl }

  pub try-more : {c : ℕ} → Trying ws f c → c < 2 ^ length ws → f (combined 0 c ws) ≡ false → Trying ws f (c + 1)
  try-more {c} w l e = record { some_word = omega arith; so = onward w.so l (at_some ws f c w.some_word ∙ e) }

  pub tried : {c : ℕ} → Trying ws f c → c < 2 ^ length ws → f (combined 0 c ws) ≡ true → true ≡ some_combination ws f
  unfolding some_combination
  tried {c} w l e = found w.so l (at_some ws f c w.some_word ∙ e)

  pub tried-all : {c : ℕ} → Trying ws f c → 2 ^ length ws ≤ c → false ≡ some_combination ws f
  unfolding some_combination
  tried-all w l = nowhere w.so l
