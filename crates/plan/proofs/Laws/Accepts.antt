-- What is known of an accepted plan is all that acceptance asks: the check refuses no plan of which it holds.
--
--   accepts                        a plan of which `Accepted` holds gets no number
--   again r p, made_again          a plan with its runs made r times, and that it is accepted while its readings are not too many
--   levels-right, factors-right    refusals 2 and 3 do not apply to it
use Rattle.std.specs.Prelude.{◌≡◌, ◌⊎◌, true, ◌||◌, ℕ, ◌*◌, ◌^◌, ◌<◌, ◌≤◌, get_or, take}
use Rattle.std.proofs.Math.Path.{refl}
use Rattle.std.proofs.Common.{sym, ◌∙◌, inl, inr, arith, get_or-take}
use Rattle.std.proofs.Math.Bool.{false, cond, not}
use Rattle.std.proofs.Math.Dec.{eqb, ltb}
use Rattle.std.proofs.Math.ListN.{length}
use Rattle.std.proofs.Math.Seq.{length-take-le}
use borrow.Author.Tests.{eq-eqb, ne_eqb, le-ltb}
use Rattle.algebra.specs.Laws.Tests.{none}
use Rattle.algebra.specs.Laws.Search.{some-false}
use Rattle.contrasts.specs.Limits.{most_two, most_three, is_repeats, most_readings}
use Rattle.words.specs.Laws.Any.{all_fail}
use Rattle.words.specs.Words.{letters, among, repeated, combined}
use Rattle.plan.specs.declared.types.Plan.{Plan}
use Rattle.plan.specs.Plan.{added_words, added_signs, block_words, three_words, combines_to, factors_of, confounded_in, runs_of, all_readings}
use Rattle.plan.specs.Check.{bad_digits, bad_levels, bad_factors, bad_counts, bad_word, bad_sign, bad_words, dependent, factor_word, loses_factor, bad_repeats, plan_refused}
use Rattle.plan.proofs.Laws.Combinations.{combination, no-combination}
use Rattle.plan.proofs.Laws.Accepted.{Accepted}

module _ {p : Plan} (a : Accepted p) where
  pub levels-right : bad_levels p.levels ≡ false
  unfolding bad_levels
  levels-right = by a.levels
    where
      by : (p.levels ≡ 2) ⊎ (p.levels ≡ 3) → not (eqb p.levels 2 || eqb p.levels 3) ≡ false
      by (inl e) = rw e refl
      by (inr e) = rw e refl

  pub factors-right : bad_factors p.levels p.k ≡ false
  unfolding bad_factors most_two most_three
  factors-right = none (ne_eqb p.k 0 (λ e. omega (arith, e, a.factors.0))) (by a.levels)
    where
      by : (p.levels ≡ 2) ⊎ (p.levels ≡ 3) → cond (eqb p.levels 2) (ltb 10 p.k) (ltb 6 p.k) ≡ false
      by (inl e) = rw e (le-ltb 10 p.k a.factors.1)
      by (inr e) = rw e (le-ltb 6 p.k (a.factors.2 e))

  counts-right : bad_counts p.levels p.added p.blocks ≡ false
  unfolding bad_counts
  counts-right = none (le-ltb 6 p.added a.counts.0) (none (le-ltb 4 p.blocks a.counts.1) (by a.levels))
    where
      by : (p.levels ≡ 2) ⊎ (p.levels ≡ 3) → cond (eqb p.levels 3) (ltb 0 p.added || ltb 1 p.blocks) false ≡ false
      by (inl e) = rw e refl
      by (inr e) = let z = a.counts.2 e in rw (e, z.0, le-ltb 1 p.blocks z.1) refl

  words_right : bad_words p.k (added_words p) (added_signs p) (block_words p) (three_words p) ≡ false
  unfolding bad_words bad_word bad_sign
  words_right =
      none (all_fail (bad_word p.k 2) (added_words p) (λ j h. none (a.words j h).0 (le-ltb (letters (get_or (added_words p) j 0)) 2 (a.words j h).1)))
      (none (all_fail bad_sign (added_signs p) (λ j h. le-ltb 1 (get_or (added_signs p) j 0) (a.signs j h)))
      (none (all_fail (bad_word p.k 1) (block_words p) (λ j h. none (a.blocks j h).0 (le-ltb (letters (get_or (block_words p) j 0)) 1 (a.blocks j h).1)))
      (all_fail (bad_digits p.k) (three_words p) (λ j h. a.digits j h))))

  apart-right : repeated (added_words p) ≡ false
  unfolding repeated among
  apart-right = some-false (length (added_words p)) _ (λ j h. at j h)
    where
      at : (j : ℕ) → j < length (added_words p) → among (get_or (added_words p) j 0) (take j (added_words p)) ≡ false
      at j h =
          let n : length (take j (added_words p)) ≡ j = length-take-le j (added_words p) (omega arith) in
          all_fail (λ v. eqb v (get_or (added_words p) j 0)) (take j (added_words p))
          (λ i l.
          let i<j : i < j = omega (arith, n, l) in
          ne_eqb (get_or (take j (added_words p)) i 0) (get_or (added_words p) j 0)
          (λ e. a.apart i j i<j h (sym (get_or-take j (added_words p) i 0 i<j) ∙ e)))

  lost : (c : ℕ) → 0 < c → c < 2 ^ length (block_words p) → confounded_in p (combined 0 c (block_words p)) ≡ true
  unfolding combines_to
  lost c h l = combination (block_words p) _ c h l (eq-eqb (combined 0 c (block_words p)) _ refl)

  independent-right : dependent (block_words p) ≡ false
  unfolding dependent combines_to
  independent-right = no-combination (block_words p) _ (λ c h l. ne_eqb (combined 0 c (block_words p)) 0 (a.lost _ (lost c h l)).0)

  clear-right : loses_factor (added_words p) (block_words p) ≡ false
  unfolding loses_factor factor_word
  clear-right =
      no-combination (block_words p) _
      (λ c h l. none (ne_eqb (letters (combined 0 c (block_words p))) 1 (a.lost _ (lost c h l)).1) (a.lost _ (lost c h l)).2)

  repeats-right : bad_repeats (runs_of p) p.repeats ≡ false
  unfolding bad_repeats
  repeats-right = rw a.repeats.0 (le-ltb most_readings (all_readings p) a.repeats.1)

pub accepts : (p : Plan) → Accepted p → plan_refused p ≡ 0
unfolding plan_refused
accepts p a =
    rw (levels-right a, factors-right a, counts-right a, words_right a, apart-right a, independent-right a, clear-right a, repeats-right a) refl

abbrev pub again : ℕ → Plan → Plan
again r p = record {
  levels = p.levels;
  k = p.k;
  added = p.added;
  words = p.words;
  signs = p.signs;
  blocks = p.blocks;
  blockwords = p.blockwords;
  repeats = r;
}

pub made_again : (p : Plan) (r : ℕ) → is_repeats r ≡ true → runs_of p * r ≤ most_readings → Accepted p → Accepted (again r p)
unfolding factors_of
made_again p r h l a = record {
  levels = a.levels;
  factors = a.factors;
  counts = a.counts;
  words = a.words;
  signs = a.signs;
  blocks = a.blocks;
  digits = a.digits;
  apart = a.apart;
  lost = a.lost;
  repeats = (h, l);
}
