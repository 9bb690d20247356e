-- The block words of a plan by its levels: sets of letters at two levels, at three a number to the base 3.
--
--   the-first                  the first of one or more words
--   no-sets, none-lost         at three levels no word is a set of letters, and no effect is confounded
--   no_number                  but at three levels there is no number
--   counts-few                 either count is at most the plan's own
--   three-levels, keeps-rule   an accepted plan with a number has three levels, and the number keeps the digit rule
--   no_word                    without block words there is no number
--   first-is, the_word         with one it stands at the first of their places, and is not 0
--   uses-letters               so it uses letters: its row is not row 0
--   row-of-digits              that row is one of three-level factors, whatever the levels
--   three-refusals             what is refused at three levels: 3, 4, 5 and 16, and no more
--   used-row                   what the code gives as that row
use Rattle.std.specs.Prelude.{◌≡◌, Bool, ◌||◌, ℕ, ◌<◌, ◌≤◌, ltb, length, get_or, take, replicate}
use Rattle.std.proofs.Math.Path.{refl, sym}
use Rattle.std.proofs.Common.{◌∙◌, ap, arith, get_or-take, length-take-le, eq-eqb, ne_eqb, lt-ltb, le-ltb}
use Rattle.std.proofs.Math.Bool.{true, false, cond}
use mathlib.Core.List.{List, [], ◌∷◌, ◌++◌}
use Rattle.std.proofs.Math.Decide.{ℕ_discrete, dec_lt}
use Rattle.std.proofs.Math.Dec.{eqb}
use Rattle.algebra.specs.Search.{some}
use Rattle.algebra.specs.Laws.Tab.{get_d_past}
use Rattle.contrasts.proofs.Factors.{three}
use Rattle.contrasts.specs.Limits.{most_three}
use Rattle.contrasts.specs.Rows.{row_of}
use Rattle.contrasts.proofs.Laws.Rows.{row-none}
use Rattle.plan.specs.declared.types.Plan.{Plan}
use Rattle.plan.specs.Plan.{runs_of, word_count, block_words, number_count, three_words, three_word, word_row, factors_of, combines_to, some_combination, confounded_in}
use Rattle.words.specs.Words.{any, repeated}
use Rattle.plan.specs.Outcome.{Refusal, refusal, lowest}
use Rattle.plan.specs.Check.{bad_levels, bad_factors, bad_counts, bad_digits, bad_words, dependent, loses_factor, bad_repeats, word_refusals, plan_refused, used_row}
use Rattle.plan.proofs.Laws.Accepted.{Accepted}
use Rattle.plan.proofs.Laws.Combinations.{no-combination}
use Rattle.plan.proofs.Laws.Digits.{letters-used}
use Rattle.plan.proofs.Laws.Sizes.{factors-three}

pub the-first : (n : ℕ) (ws : List ℕ) → (n ≡ 0 → ⊥) → get_or ws 0 0 ≡ get_or (take n ws) 0 0
the-first n ws some = sym (get_or-take n ws 0 0 (omega (arith, some)))

module _ (p : Plan) where
  pub no-sets : p.levels ≡ 3 → block_words p ≡ []
  no-sets e = rw (eq-eqb p.levels 3 e) refl

  pub none-lost : p.levels ≡ 3 → (w : ℕ) → confounded_in p w ≡ false
  unfolding combines_to
  none-lost e w = rw (no-sets e) (no-combination [] (λ v. eqb v w) (λ c h l. absurd (omega (arith, h, l))))

  pub no_number : (p.levels ≡ 3 → ⊥) → three_word p ≡ 0
  no_number n = rw (ne_eqb p.levels 3 n) refl

  pub counts-few : (n : ℕ) → p.blocks ≤ n → (word_count p ≤ n) × (number_count p ≤ n)
  counts-few n h = (by (eqb p.levels 3), other (eqb p.levels 3))
    where
      by : (b : Bool) → cond b 0 p.blocks ≤ n
      by true = omega arith
      by false = h

      other : (b : Bool) → cond b p.blocks 0 ≤ n
      other true = h
      other false = omega arith

  pub three-levels : (three_word p ≡ 0 → ⊥) → p.levels ≡ 3
  three-levels some = by (ℕ_discrete p.levels 3)
    where
      by : Dec (p.levels ≡ 3) → p.levels ≡ 3
      by (yes e) = e
      by (no n) = absurd (some (no_number n))

  module _ (a : Accepted p) (some : three_word p ≡ 0 → ⊥) where
    pub keeps-rule : bad_digits p.k (three_word p) ≡ false
    keeps-rule = by (dec_lt 0 (length (three_words p)))
      where
        by : Dec (0 < length (three_words p)) → bad_digits p.k (three_word p) ≡ false
        by (yes h) = a.digits 0 h
        by (no h) = absurd (some (get_d_past 0 (three_words p) 0 (omega arith)))

    pub uses-letters : word_row p ≡ 0 → ⊥
    uses-letters z = letters-used p.k (three_word p) keeps-rule ((rw (factors-three p (three-levels some)) refl) ∙ z)

  pub no_word : p.blocks ≡ 0 → three_word p ≡ 0
  no_word e = ap (λ (n : ℕ). get_or (take n p.blockwords) 0 0) (by (eqb p.levels 3))
    where
      by : (b : Bool) → cond b p.blocks 0 ≡ 0
      by true = e
      by false = refl

  module _ (a : Accepted p) (t : p.levels ≡ 3) (one : p.blocks ≡ 1) (placed : 0 < length p.blockwords) where
    count : number_count p ≡ 1
    count = rw (eq-eqb p.levels 3 t) one

    pub first-is : three_word p ≡ get_or p.blockwords 0 0
    first-is = sym (the-first (number_count p) p.blockwords (λ z. omega (arith, z, count)))

    pub the_word : three_word p ≡ 0 → ⊥
    the_word z =
        let long : length (three_words p) ≡ 1 = length-take-le (number_count p) p.blockwords (omega (arith, count, placed)) ∙ count in
        let rule = a.digits 0 (omega (arith, long)) in
        letters-used p.k (three_word p) rule (ap (row_of (replicate p.k three)) z ∙ row-none (replicate p.k three))

  pub row-of-digits : row_of (replicate p.k three) (three_word p) ≡ word_row p
  row-of-digits = by (ℕ_discrete p.levels 3)
    where
      by : Dec (p.levels ≡ 3) → row_of (replicate p.k three) (three_word p) ≡ word_row p
      by (yes e) = rw (factors-three p e) refl
      by (no n) = rw (no_number n) (row-none (replicate p.k three) ∙ sym (row-none (factors_of p)))

  pub used-row : Accepted p → used_row p ≡ word_row p
  unfolding used_row most_three
  used-row a = by (ℕ_discrete p.levels 3)
    where
      by : Dec (p.levels ≡ 3) → cond (ltb 6 p.k) 0 (word_row p) ≡ word_row p
      by (yes e) = rw (le-ltb 6 p.k (a.factors.2 e)) refl
      by (no n) = other (ltb 6 p.k)
        where
          other : (b : Bool) → cond b 0 (word_row p) ≡ word_row p
          other true = sym (rw (no_number n) (row-none (factors_of p)))
          other false = refl

-- ---- what is refused at three levels

levels-three : (n : ℕ) → n ≡ 3 → bad_levels n ≡ false
unfolding bad_levels
levels-three n t = rw t refl

factors-at-three : (n k : ℕ) → n ≡ 3 → bad_factors n k ≡ (eqb k 0 || ltb 6 k)
unfolding bad_factors most_three
factors-at-three n k t = rw t refl

-- "4 for an added factor or a second block word": either is within the limits for two levels or beyond them
counts-three : (n a b : ℕ) → n ≡ 3 → bad_counts n a b ≡ (ltb 0 a || ltb 1 b)
unfolding bad_counts
counts-three n a b t = rw t (by (ℕ_discrete a 0) (dec_lt 1 b))
  where
    any_way : (c d e : Bool) → (c || (d || (true || e))) ≡ true
    any_way true d e = refl
    any_way false true e = refl
    any_way false false e = refl

    by : Dec (a ≡ 0) → Dec (1 < b) → (ltb 6 a || (ltb 4 b || (ltb 0 a || ltb 1 b))) ≡ (ltb 0 a || ltb 1 b)
    by (no n) d = rw (lt-ltb 0 a (omega (arith, n))) (any_way (ltb 6 a) (ltb 4 b) (ltb 1 b))
    by (yes e) (yes h) = rw (e, lt-ltb 1 b h) (any_way false (ltb 4 b) false)
    by (yes e) (no h) = rw (e, le-ltb 1 b (omega arith), le-ltb 4 b (omega arith)) refl

-- where that does not apply no word is a set of letters, and of the words nothing is refused but for the digits
words-three : (k a b : ℕ) (words signs numbers : List ℕ) (further : List Refusal)
    → cond (ltb 0 a || ltb 1 b) 4 (lowest (word_refusals k (take a words) (take a signs) [] numbers ++ further))
    ≡ cond (ltb 0 a || ltb 1 b) 4 (cond (any (bad_digits k) numbers) 5 (lowest further))
unfolding bad_words repeated dependent loses_factor combines_to some_combination some any
words-three k a b words signs numbers further = by (ℕ_discrete a 0)
  where
    by : Dec (a ≡ 0)
        → cond (ltb 0 a || ltb 1 b) 4 (lowest (word_refusals k (take a words) (take a signs) [] numbers ++ further))
        ≡ cond (ltb 0 a || ltb 1 b) 4 (cond (any (bad_digits k) numbers) 5 (lowest further))
    by (no n) = rw (lt-ltb 0 a (omega (arith, n))) refl
    by (yes z) = rw z refl

pub three-refusals : (p : Plan) → p.levels ≡ 3
    → plan_refused p ≡ lowest (
    refusal 3 (eqb p.k 0 || ltb 6 p.k)
    ∷ refusal 4 (ltb 0 p.added || ltb 1 p.blocks)
    ∷ refusal 5 (any (bad_digits p.k) (three_words p))
    ∷ refusal 16 (bad_repeats (runs_of p) p.repeats)
    ∷ [])
unfolding plan_refused
three-refusals p e =
    rw (no-sets p e, levels-three p.levels e, factors-at-three p.levels p.k e, counts-three p.levels p.added p.blocks e)
    (ap (λ n. cond (eqb p.k 0 || ltb 6 p.k) 3 n)
    (words-three p.k p.added p.blocks p.words p.signs (three_words p) (refusal 16 (bad_repeats (runs_of p) p.repeats) ∷ [])))
