-- What is known of a plan that is accepted, as one record.
--
--   Accepted p                                   the plan's levels, counts, words and confounded effects are as the rules ask
--   accepted                                     so they are where the check gives no number
--   levels-known, factors-known, counts-known    what refusals 2, 3 and 4 say where they do not apply
--   repeats-known                                and 16
--   before-repeats, AfterWords, after-words      16 comes after the others: what is known of the plan where these do not apply
--   levels-small                                 two or three levels are at most three
--   signs-small                                  a sign is 0 or 1, and 0 is read past the end
--   at-most-ten, sizes                           the most factors, as a number; the bounds of an accepted plan's counts
use Rattle.std.specs.Prelude.{◌≡◌, refl, ◌⊎◌, Bool, true, false, cond, not, ◌||◌, List, [], ◌∷◌, ◌++◌, ℕ, ◌*◌, ◌<◌, ◌≤◌, eqb, ltb, length, get_or, take}
use Rattle.std.proofs.Common.{sym, ap, ◌∙◌, inl, inr, true≢false, arith, length-take-le, get_or-take, eqb-true, ltb-false}
use Rattle.std.proofs.Math.Decide.{dec_lt}
use Rattle.std.proofs.lemmas.Bool.{eqb-false, not-false}
use Rattle.algebra.specs.Laws.Tests.{neither}
use Rattle.algebra.specs.Laws.Search.{none-at}
use Rattle.algebra.specs.Laws.Tab.{get_d_past}
use Rattle.contrasts.specs.Limits.{most_two, most_three, is_repeats, most_readings}
use Rattle.plan.specs.declared.types.Plan.{Plan}
use Rattle.words.specs.Laws.Any.{none_at}
use Rattle.words.specs.Words.{letters, beyond, any, among, repeated, combined}
use Rattle.plan.specs.Plan.{added_words, added_signs, block_words, three_words, combines_to, confounded_in, runs_of, all_readings}
use Rattle.plan.specs.Outcome.{Refusal, refusal, lowest}
use Rattle.plan.proofs.Laws.Answers.{passed}
use Rattle.plan.proofs.Laws.Combinations.{the-combination, each-fails}
use Rattle.plan.specs.Check.{bad_levels, bad_factors, bad_counts, bad_word, bad_sign, bad_digits, bad_words, dependent, factor_word, loses_factor, bad_repeats, two_to_eight, plan_refused}

-- ---- what each condition says where it does not hold

pub levels-known : (n : ℕ) → bad_levels n ≡ false → (n ≡ 2) ⊎ (n ≡ 3)
unfolding bad_levels
levels-known n e = by (eqb n 2) (eqb n 3) refl refl (not-false (eqb n 2 || eqb n 3) e)
  where
    by : (a b : Bool) → eqb n 2 ≡ a → eqb n 3 ≡ b → (eqb n 2 || eqb n 3) ≡ true → (n ≡ 2) ⊎ (n ≡ 3)
    by true b p q d = inl (eqb-true n 2 p)
    by false true p q d = inr (eqb-true n 3 q)
    by false false p q d = absurd (true≢false (sym d ∙ rw (p, q) refl))

pub levels-small : (n : ℕ) → bad_levels n ≡ false → n ≤ 3
levels-small n e = by (levels-known n e)
  where
    by : (n ≡ 2) ⊎ (n ≡ 3) → n ≤ 3
    by (inl d) = omega (arith, d)
    by (inr d) = omega (arith, d)

pub factors-known : (n k : ℕ) → bad_factors n k ≡ false → (0 < k) × (k ≤ most_two) × (n ≡ 3 → k ≤ most_three)
unfolding bad_factors most_two most_three
factors-known n k e = (some-factor, few (eqb n 2) over, λ t. fewer t)
  where
    some-factor : 0 < k
    some-factor = omega (arith, eqb-false k 0 (neither (eqb k 0) (cond (eqb n 2) (ltb 10 k) (ltb 6 k)) e).0)

    over : cond (eqb n 2) (ltb 10 k) (ltb 6 k) ≡ false
    over = (neither (eqb k 0) (cond (eqb n 2) (ltb 10 k) (ltb 6 k)) e).1

    few : (two : Bool) → cond two (ltb 10 k) (ltb 6 k) ≡ false → k ≤ 10
    few true o = ltb-false 10 k o
    few false o = omega (arith, ltb-false 6 k o)

    fewer : n ≡ 3 → k ≤ 6
    fewer t = ltb-false 6 k (rw t at over)

pub at-most-ten : (k : ℕ) → k ≤ most_two → k ≤ 10
unfolding most_two
at-most-ten k h = h

pub counts-known : (n a b : ℕ) → bad_counts n a b ≡ false → (a ≤ 6) × (b ≤ 4) × (n ≡ 3 → (a ≡ 0) × (b ≤ 1))
unfolding bad_counts
counts-known n a b e =
    let six = neither (ltb 6 a) (ltb 4 b || cond (eqb n 3) (ltb 0 a || ltb 1 b) false) e in
    let four = neither (ltb 4 b) (cond (eqb n 3) (ltb 0 a || ltb 1 b) false) six.1 in
    (ltb-false 6 a six.0, ltb-false 4 b four.0, λ t. one_word (rw t at four.1))
  where
    one_word : (ltb 0 a || ltb 1 b) ≡ false → (a ≡ 0) × (b ≤ 1)
    one_word d =
        let z = neither (ltb 0 a) (ltb 1 b) d in
        (omega (arith, ltb-false 0 a z.0), ltb-false 1 b z.1)

pub repeats-known : (n r : ℕ) → bad_repeats n r ≡ false → (is_repeats r ≡ true) × (n * r ≤ most_readings)
unfolding bad_repeats
repeats-known n r e =
    let b = neither (not (is_repeats r)) (ltb most_readings (n * r)) e in
    (not-false (is_repeats r) b.0, ltb-false most_readings (n * r) b.1)

-- ---- the record

pub record Accepted (p : Plan) : Type 0 where
  pub levels : (p.levels ≡ 2) ⊎ (p.levels ≡ 3)
  pub factors : (0 < p.k) × (p.k ≤ most_two) × (p.levels ≡ 3 → p.k ≤ most_three)
  pub counts : (p.added ≤ 6) × (p.blocks ≤ 4) × (p.levels ≡ 3 → (p.added ≡ 0) × (p.blocks ≤ 1))
  pub words : (j : ℕ) → j < length (added_words p)
      → (beyond p.k (get_or (added_words p) j 0) ≡ false) × (2 ≤ letters (get_or (added_words p) j 0))
  pub signs : (j : ℕ) → j < length (added_signs p) → get_or (added_signs p) j 0 ≤ 1
  pub blocks : (j : ℕ) → j < length (block_words p)
      → (beyond p.k (get_or (block_words p) j 0) ≡ false) × (1 ≤ letters (get_or (block_words p) j 0))
  -- the block words of three levels keep the digit rule
  pub digits : (j : ℕ) → j < length (three_words p) → bad_digits p.k (get_or (three_words p) j 0) ≡ false
  pub apart : (i j : ℕ) → i < j → j < length (added_words p) → get_or (added_words p) i 0 ≡ get_or (added_words p) j 0 → ⊥
  -- a confounded effect is neither empty nor one letter nor an added factor's word
  pub lost : (w : ℕ) → confounded_in p w ≡ true → (w ≡ 0 → ⊥) × (letters w ≡ 1 → ⊥) × (among w (added_words p) ≡ false)
  pub repeats : (is_repeats p.repeats ≡ true) × (all_readings p ≤ most_readings)

-- ---- what refusals 5 to 8 say of the words

words_of : (k least : ℕ) (ws : List ℕ) → any (bad_word k least) ws ≡ false
    → (j : ℕ) → j < length ws → (beyond k (get_or ws j 0) ≡ false) × (least ≤ letters (get_or ws j 0))
unfolding bad_word
words_of k least ws e j h =
    let w = get_or ws j 0 in
    let b = neither (beyond k w) (ltb (letters w) least) (none_at (bad_word k least) ws e j h) in
    (b.0, ltb-false (letters w) least b.1)

signs_of : (ss : List ℕ) → any bad_sign ss ≡ false → (j : ℕ) → j < length ss → get_or ss j 0 ≤ 1
unfolding bad_sign
signs_of ss e j h = ltb-false 1 (get_or ss j 0) (none_at bad_sign ss e j h)

digits_of : (k : ℕ) (ws : List ℕ) → any (bad_digits k) ws ≡ false → (j : ℕ) → j < length ws → bad_digits k (get_or ws j 0) ≡ false
digits_of k ws e = none_at (bad_digits k) ws e

parts : (k : ℕ) (words signs blocks numbers : List ℕ) → bad_words k words signs blocks numbers ≡ false
    → (any (bad_word k 2) words ≡ false) × (any bad_sign signs ≡ false) × (any (bad_word k 1) blocks ≡ false) × (any (bad_digits k) numbers ≡ false)
unfolding bad_words
parts k words signs blocks numbers e =
    let a = neither (any (bad_word k 2) words) (any bad_sign signs || (any (bad_word k 1) blocks || any (bad_digits k) numbers)) e in
    let b = neither (any bad_sign signs) (any (bad_word k 1) blocks || any (bad_digits k) numbers) a.1 in
    let c = neither (any (bad_word k 1) blocks) (any (bad_digits k) numbers) b.1 in
    (a.0, b.0, c.0, c.1)

apart_of : (ws : List ℕ) → repeated ws ≡ false → (i j : ℕ) → i < j → j < length ws → get_or ws i 0 ≡ get_or ws j 0 → ⊥
unfolding repeated among
apart_of ws e i j h l d =
    let n : length (take j ws) ≡ j = length-take-le j ws (omega arith) in
    let t : i < length (take j ws) = omega arith in
    let f = none-at (length ws) (λ m. among (get_or ws m 0) (take m ws)) e j l in
    eqb-false (get_or (take j ws) i 0) (get_or ws j 0)
    (none_at (λ v. eqb v (get_or ws j 0)) (take j ws) f i t)
    (get_or-take j ws i 0 h ∙ d)

lost-of : (words blocks : List ℕ) → dependent blocks ≡ false → loses_factor words blocks ≡ false
    → (w : ℕ) → combines_to w blocks ≡ true → (w ≡ 0 → ⊥) × (letters w ≡ 1 → ⊥) × (among w words ≡ false)
unfolding dependent loses_factor factor_word combines_to
lost-of words blocks e f w t =
    let c = the-combination blocks (λ v. eqb v w) t in
    let v = combined 0 c.0 blocks in
    let is : v ≡ w = eqb-true v w c.3 in
    let z : eqb v 0 ≡ false = each-fails blocks (λ v. eqb v 0) e c.0 c.1 c.2 in
    let s = neither (eqb (letters v) 1) (among v words) (each-fails blocks (λ v. factor_word v words) f c.0 c.1 c.2) in
    (λ d. eqb-false v 0 z (is ∙ d), λ d. eqb-false (letters v) 1 s.0 (ap letters is ∙ d), rw (← is) s.1)

pub accepted : (p : Plan) → plan_refused p ≡ 0 → Accepted p
unfolding plan_refused
accepted p e =
    let l2 = passed (bad_levels p.levels) 2 _ (omega arith) e in
    let l3 = passed (bad_factors p.levels p.k) 3 _ (omega arith) l2.1 in
    let l4 = passed (bad_counts p.levels p.added p.blocks) 4 _ (omega arith) l3.1 in
    let l5 = passed (bad_words p.k (added_words p) (added_signs p) (block_words p) (three_words p)) 5 _ (omega arith) l4.1 in
    let l6 = passed (repeated (added_words p)) 6 _ (omega arith) l5.1 in
    let l7 = passed (dependent (block_words p)) 7 _ (omega arith) l6.1 in
    let l8 = passed (loses_factor (added_words p) (block_words p)) 8 _ (omega arith) l7.1 in
    let l16 = passed (bad_repeats (runs_of p) p.repeats) 16 _ (omega arith) l8.1 in
    let w = parts p.k (added_words p) (added_signs p) (block_words p) (three_words p) l5.0 in
    record {
      levels = levels-known p.levels l2.0;
      factors = factors-known p.levels p.k l3.0;
      counts = counts-known p.levels p.added p.blocks l4.0;
      words = words_of p.k 2 (added_words p) w.0;
      signs = signs_of (added_signs p) w.1;
      blocks = words_of p.k 1 (block_words p) w.2;
      digits = digits_of p.k (three_words p) w.3;
      apart = apart_of (added_words p) l6.0;
      lost = lost-of (added_words p) (block_words p) l7.0 l8.0;
      repeats = repeats-known (runs_of p) p.repeats l16.0;
    }

-- ---- 16 after the others

-- the first of some refusals is the first of more after them
first_of : (refusals further : List Refusal) {n : ℕ} → n ≡ lowest refusals → (n ≡ 0 → ⊥) → n ≡ lowest (refusals ++ further)
first_of [] further e h = absurd (h e)
first_of (refusal m true ∷ rest) further e h = e
first_of (refusal m false ∷ rest) further e h = first_of rest further e h

pub before-repeats : (p : Plan) {n : ℕ} → n ≡ lowest (two_to_eight p) → (n ≡ 0 → ⊥) → n ≡ plan_refused p
unfolding plan_refused
before-repeats p e h = first_of (two_to_eight p) (refusal 16 (bad_repeats (runs_of p) p.repeats) ∷ []) e h

pub record AfterWords (p : Plan) : Type 0 where
  pub levels : bad_levels p.levels ≡ false
  pub factors : bad_factors p.levels p.k ≡ false
  pub decided : plan_refused p ≡ cond (bad_repeats (runs_of p) p.repeats) 16 0

pub after-words : (p : Plan) → lowest (two_to_eight p) ≡ 0 → AfterWords p
unfolding plan_refused
after-words p e =
    let l2 = passed (bad_levels p.levels) 2 _ (omega arith) e in
    let l3 = passed (bad_factors p.levels p.k) 3 _ (omega arith) l2.1 in
    let l4 = passed (bad_counts p.levels p.added p.blocks) 4 _ (omega arith) l3.1 in
    let l5 = passed (bad_words p.k (added_words p) (added_signs p) (block_words p) (three_words p)) 5 _ (omega arith) l4.1 in
    let l6 = passed (repeated (added_words p)) 6 _ (omega arith) l5.1 in
    let l7 = passed (dependent (block_words p)) 7 _ (omega arith) l6.1 in
    let l8 = passed (loses_factor (added_words p) (block_words p)) 8 _ (omega arith) l7.1 in
    record {
      levels = l2.0;
      factors = l3.0;
      decided = rw (l2.0, l3.0, l4.0, l5.0, l6.0, l7.0, l8.0) refl;
    }

pub signs-small : {p : Plan} → Accepted p → (j : ℕ) → get_or (added_signs p) j 0 ≤ 1
signs-small {p} a j = by (dec_lt j (length (added_signs p)))
  where
    by : Dec (j < length (added_signs p)) → get_or (added_signs p) j 0 ≤ 1
    by (yes h) = a.signs j h
    by (no h) = rw (get_d_past 0 (added_signs p) j (omega arith)) (omega arith)

pub sizes : (p : Plan) → plan_refused p ≡ 0 → (p.k ≤ 10) × (p.added ≤ 6) × (p.blocks ≤ 4)
sizes p e =
    let a = accepted p e in
    (at-most-ten p.k a.factors.1, a.counts.0, a.counts.1)
