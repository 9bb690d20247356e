-- R14: which lists are among those of b words: "all lists of strictly rising words that the plan check accepts", and no other.
--
--   only     one that is among them has b words of the first k letters, they rise, and the plan check accepts them
--   every    one of b words of 16 bits is among them if and only if they rise and the plan check accepts them
--   wide, word-count    the list at each place has b words, so there are b times as many words as lists
use Rattle.std.specs.Prelude.{◌≡◌, true, ◌↔◌, ℕ, zero, suc, ◌*◌, ◌-◌, ◌^◌, ◌<◌, eqb, length, get_or, replicate}
use Rattle.std.proofs.Math.Path.{refl}
use Rattle.std.proofs.Common.{sym, ap, ◌∙◌, arith}
use mathlib.Core.List.Memᴰ
use mathlib.Core.List.{List, [], ◌∷◌, map, Memᴰ}
use borrow.Author.Tests.{eq-eqb, eqb-true}
use Rattle.std.proofs.Math.Seq.{take-append_seam}
use Rattle.algebra.specs.Tab.{tab}
use Rattle.algebra.specs.Laws.Among.{those-in, those-of, flat_in, flat-of, tab-in, tab-of, in-at}
use Rattle.algebra.specs.Laws.Joined.{flat-wide}
use Rattle.algebra.specs.Laws.Tests.{both}
use Rattle.words.specs.Laws.Letters.{within}
use Rattle.plan.specs.Check.{plan_refused}
use Rattle.plan.specs.Plan.{block_words}
use Rattle.plan.proofs.Laws.Accepted.{accepted}
use Rattle.blockings.specs.Blockings.{lists_of, strictly_rising, blocked_plan, is_blocking, blockings_of, blocking_words}

-- ---- all lists

all_there : (k : ℕ) (ws : List ℕ) → ((j : ℕ) → j < length ws → get_or ws j 0 < 2 ^ k) → Memᴰ ws (lists_of k (length ws))
unfolding lists_of
all_there k [] h = Memᴰ.head refl
all_there k (w ∷ ws) h =
    flat_in (tab (2 ^ k) (λ v. map (λ vs. v ∷ vs) (lists_of k (length ws))))
    (tab-in (2 ^ k) (λ v. map (λ vs. v ∷ vs) (lists_of k (length ws))) w (h 0 (omega arith)))
    (Memᴰ.map (λ vs. w ∷ vs) (all_there k ws (λ j l. h (suc j) (omega arith))))

among-all : (k b : ℕ) {ws : List ℕ} → Memᴰ ws (lists_of k b) → (length ws ≡ b) × ((j : ℕ) → j < b → get_or ws j 0 < 2 ^ k)
unfolding lists_of
among-all k zero m = (ap length (Memᴰ.eq_of_singleton m), λ j h. absurd (omega arith))
among-all k (suc b) {ws} m =
    let l = flat-of (tab (2 ^ k) (λ w. map (λ vs. w ∷ vs) (lists_of k b))) m in
    let w = tab-of (2 ^ k) (λ w. map (λ vs. w ∷ vs) (lists_of k b)) l.1 in
    let v = Memᴰ.of_map (λ vs. w.0 ∷ vs) (lists_of k b) (rw w.2 at l.2) in
    let rest = among-all k b v.1 in
    (ap length (sym v.2) ∙ ap suc rest.0, λ j h. rw (← v.2) (at w.0 v.0 w.1 rest.1 j h))
  where
    at : (w : ℕ) (vs : List ℕ) → w < 2 ^ k → ((j : ℕ) → j < b → get_or vs j 0 < 2 ^ k) → (j : ℕ) → j < suc b → get_or (w ∷ vs) j 0 < 2 ^ k
    at w vs h hs zero l = h
    at w vs h hs (suc j) l = hs j (omega arith)

-- ---- those that block a plan

module _ (k : ℕ) (ws : List ℕ) where
  blocking-is : is_blocking k ws ≡ true → (strictly_rising ws ≡ true) × (plan_refused (blocked_plan k ws) ≡ 0)
  unfolding is_blocking
  blocking-is e =
      let t = both (strictly_rising ws) (eqb (plan_refused (blocked_plan k ws)) 0) e in
      (t.0, eqb-true (plan_refused (blocked_plan k ws)) 0 t.1)

  blocking-of : strictly_rising ws ≡ true → plan_refused (blocked_plan k ws) ≡ 0 → is_blocking k ws ≡ true
  unfolding is_blocking
  blocking-of e f = rw (e, eq-eqb (plan_refused (blocked_plan k ws)) 0 f) refl

  -- the block words of the plan are the list
  its-words : block_words (blocked_plan k ws) ≡ ws
  its-words = take-append_seam ws (replicate (4 - length ws) 0)

  -- so where the plan is accepted, none has a letter beyond k
  words-within : plan_refused (blocked_plan k ws) ≡ 0 → ((j : ℕ) → j < length ws → get_or ws j 0 < 2 ^ 16)
      → (j : ℕ) → j < length ws → get_or ws j 0 < 2 ^ k
  words-within e h j l = within k (get_or ws j 0) (h j l) (rw its-words at (accepted (blocked_plan k ws) e).blocks j l).0

pub only : (k b : ℕ) {ws : List ℕ} → Memᴰ ws (blockings_of k b)
    → (length ws ≡ b) × ((j : ℕ) → j < b → get_or ws j 0 < 2 ^ k) × (strictly_rising ws ≡ true) × (plan_refused (blocked_plan k ws) ≡ 0)
unfolding blockings_of
only k b {ws} m =
    let t = those-of (is_blocking k) (lists_of k b) m in
    let a = among-all k b t.0 in
    let s = blocking-is k ws t.1 in
    (a.0, a.1, s.0, s.1)

pub every : (k b : ℕ) (ws : List ℕ) → length ws ≡ b → ((j : ℕ) → j < length ws → get_or ws j 0 < 2 ^ 16)
    → Memᴰ ws (blockings_of k b) ↔ ((strictly_rising ws ≡ true) × (plan_refused (blocked_plan k ws) ≡ 0))
unfolding blockings_of
every k b ws l h = (
  λ m. blocking-is k ws (those-of (is_blocking k) (lists_of k b) m).1,
  λ e.
      let there = all_there k ws (words-within k ws e.1 h) in
      rw (← l) (those-in (is_blocking k) (lists_of k (length ws)) there (blocking-of k ws e.0 e.1)),
)

pub wide : (k b i : ℕ) → i < length (blockings_of k b) → length (get_or (blockings_of k b) i []) ≡ b
wide k b i h = (only k b (in-at [] (blockings_of k b) i h)).0

pub word-count : (k b : ℕ) → length (blocking_words k b) ≡ length (blockings_of k b) * b
word-count k b = flat-wide b (blockings_of k b) (wide k b)
