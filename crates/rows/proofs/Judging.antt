-- Refusal 13 as the code judges it: marks over 1, then the mean, then the combinations of block words.
--
--   over-bad, mean-bad    each makes the marks bad
--   blocks-or-none        where neither applies, the combinations decide
--   judged                so the three decide
use mathlib.Core.Path.{◌≡◌, refl, sym, ◌∙◌, ap}
use mathlib.Core.Bool.{Bool, true, false, ◌&&◌, ◌||◌, or-true, and-false, true≢false}
use mathlib.Core.List.{List}
use Prim.Native.Nat.{ℕ, ◌<◌}
use native.Mathlib.Decide.{dec_lt}
use native.Mathlib.Omega.{arith}
use borrow.Author.Tests.{eq-eqb, ne_eqb, eqb-true}
use lib.Dec.{eqb, ltb}
use lib.ListN.{length, get_or}
use Rattle.algebra.specs.Laws.Search.{some-true, some-false, some_at, none-at}
use Rattle.algebra.specs.Laws.Tab.{get_d_past}
use Rattle.words.specs.Words.{combined}
use Rattle.plan.specs.declared.types.Plan.{Plan}
use Rattle.plan.specs.Plan.{block_words, some_combination, combines_to, confounded_in}
use Rattle.plan.proofs.Laws.Combinations.{combination, the-combination, each-fails}
use Rattle.rows.specs.Kinds.{marked, bad_mark, bad_marks}
use Rattle.rows.specs.Inner.Written.{any_over}

-- a row that has a mark is one of the rows that the marks are of
there : (marks : List ℕ) (w : ℕ) → marked marks w ≡ true → w < length marks
there marks w e = by (dec_lt w (length marks))
  where
    by : Dec (w < length marks) → w < length marks
    by (yes h) = h
    by (no h) =
        absurd (true≢false (sym e ∙ rw (get_d_past 0 marks w (omega arith)) refl))

module _ (p : Plan) (marks : List ℕ) where
  pub over-bad : any_over marks ≡ true → true ≡ bad_marks p marks
  unfolding any_over bad_marks bad_mark
  over-bad e =
      let s = some_at (length marks) (λ w. ltb 1 (get_or marks w 0)) e in
      sym (some-true (length marks) (λ w. bad_mark p w (get_or marks w 0)) s.0 s.1 (rw s.2 refl))

  -- a row that may have no mark
  bare-bad : (w : ℕ) → marked marks w ≡ true → (eqb w 0 || confounded_in p w) ≡ true → true ≡ bad_marks p marks
  unfolding bad_marks bad_mark
  bare-bad w e d =
      sym (some-true (length marks) (λ w. bad_mark p w (get_or marks w 0)) w (there marks w e) (rw (e, d) (or-true (ltb 1 (get_or marks w 0)))))

  pub mean-bad : marked marks 0 ≡ true → true ≡ bad_marks p marks
  mean-bad e = bare-bad 0 e refl

  blocks-bad : some_combination (block_words p) (marked marks) ≡ true → true ≡ bad_marks p marks
  unfolding combines_to
  blocks-bad e =
      let c = the-combination (block_words p) (marked marks) e in
      let v = combined 0 c.0 (block_words p) in
      let d : confounded_in p v ≡ true = combination (block_words p) (λ u. eqb u v) c.0 c.1 c.2 (eq-eqb v v refl) in
      bare-bad v c.3 (rw d (or-true (eqb v 0)))

  module _ (over : any_over marks ≡ false) (mean : marked marks 0 ≡ false) (blocks : some_combination (block_words p) (marked marks) ≡ false) where
    not-lost : (w : ℕ) → marked marks w ≡ true → confounded_in p w ≡ false
    unfolding combines_to
    not-lost w e = by (confounded_in p w) refl
      where
        by : (b : Bool) → confounded_in p w ≡ b → confounded_in p w ≡ false
        by false d = d
        by true d =
            let c = the-combination (block_words p) (λ u. eqb u w) d in
            let v = combined 0 c.0 (block_words p) in
            absurd (true≢false (sym e ∙ ap (marked marks) (sym (eqb-true v w c.3)) ∙ each-fails (block_words p) (marked marks) blocks c.0 c.1 c.2))

    each : (w : ℕ) → w < length marks → bad_mark p w (get_or marks w 0) ≡ false
    unfolding any_over bad_mark
    each w h = rw (none-at (length marks) (λ w. ltb 1 (get_or marks w 0)) over w h) (by (marked marks w) refl)
      where
        first : marked marks w ≡ true → eqb w 0 ≡ false
        first e = ne_eqb w 0 (λ d. true≢false (sym e ∙ rw d mean))

        by : (b : Bool) → marked marks w ≡ b → (marked marks w && (eqb w 0 || confounded_in p w)) ≡ false
        by false e = rw e refl
        by true e = rw (first e, not-lost w e) (and-false (marked marks w))

    none-bad : false ≡ bad_marks p marks
    unfolding bad_marks
    none-bad = sym (some-false (length marks) (λ w. bad_mark p w (get_or marks w 0)) each)

  pub blocks-or-none : any_over marks ≡ false → marked marks 0 ≡ false → some_combination (block_words p) (marked marks) ≡ bad_marks p marks
  blocks-or-none over mean = by (some_combination (block_words p) (marked marks)) refl
    where
      by : (b : Bool) → some_combination (block_words p) (marked marks) ≡ b → some_combination (block_words p) (marked marks) ≡ bad_marks p marks
      by true e = e ∙ blocks-bad e
      by false e = e ∙ none-bad over mean e

  pub judged : bad_marks p marks ≡ (any_over marks || (marked marks 0 || some_combination (block_words p) (marked marks)))
  judged = by (any_over marks) (marked marks 0) refl refl
    where
      by : (a b : Bool) → any_over marks ≡ a → marked marks 0 ≡ b → bad_marks p marks ≡ (a || (b || some_combination (block_words p) (marked marks)))
      by true b over mean = sym (over-bad over)
      by false true over mean = sym (mean-bad mean)
      by false false over mean = sym (blocks-or-none over mean)
