-- The loops that put kinds at rows, and the kinds that they leave.
--
--   Marking marks kinds row ys                    the rows below `row` go by their marks
--   marking-long                                  its length
--   marking-none, marking-more, marking-all       before the first row, after one more, after the last
--   Blocking words kinds c ys                     the combinations of the choices below c are blocks
--   blocking-long                                 its length
--   blocking-none, blocking-more, blocking-all    before the first choice, after one more, after the last
--   all_kinds                                     marks, blocks and mean together
use mathlib.Core.Path.{◌≡◌, refl, sym, ◌∙◌, ap}
use mathlib.Core.Bool.{Bool, cond, ◌&&◌, or-true, or-false}
use mathlib.Core.List.{List}
use Prim.Native.Nat.{ℕ, suc, ◌+◌, ◌^◌, ◌<◌, ◌≤◌, min}
use native.Mathlib.Numerals.{add-one}
use native.Mathlib.Decide.{dec_lt}
use native.Mathlib.Omega.{arith}
use borrow.Author.Tests.{eq-eqb, ne_eqb, lt-ltb, le-ltb}
use lib.Dec.{eqb, ltb}
use lib.ListN.{length, get_or, set, replicate, length-replicate, get_or-replicate}
use Rattle.algebra.specs.Laws.Fill.{Filled, filled_none, filled-long, filled_more}
use Rattle.algebra.specs.Search.{some}
use Rattle.algebra.specs.Tab.{tab}
use Rattle.algebra.specs.Laws.Tab.{length-tab, get_or-tab, is-tab, tab-cong, tab-set, get_d_past}
use Rattle.words.specs.Words.{combined}
use Rattle.plan.specs.declared.types.Plan.{Plan}
use Rattle.plan.specs.Plan.{block_words, some_combination, combines_to, confounded_in}
use Rattle.rows.specs.Kinds.{Kind, mean_row, blocks_row, kept_row, kind_by_mark, kind_of, kinds_of}
use Rattle.rows.specs.Inner.Written.{with_marks, with_blocks}

-- ---- marks

abbrev by_mark : List ℕ → List Kind → ℕ → Kind
by_mark marks kinds w = cond (ltb w (length marks)) (kind_by_mark (get_or marks w 0)) (get_or kinds w kept_row)

pub record Marking (marks : List ℕ) (kinds : List Kind) (row : ℕ) (ys : List Kind) : Type 0 where
  pub so : Filled (length kinds) (by_mark marks kinds) (λ w. get_or kinds w kept_row) row ys

pub marking-none : (marks : List ℕ) (kinds : List Kind) → Marking marks kinds 0 kinds
marking-none marks kinds = record { so = filled_none kept_row (length kinds) (by_mark marks kinds) (λ w. get_or kinds w kept_row) kinds refl (λ j h. refl) }

module _ {marks : List ℕ} {kinds : List Kind} {row : ℕ} {ys : List Kind} (w : Marking marks kinds row ys) where
  pub marking-long : length ys ≡ length kinds
  marking-long = filled-long kept_row w.so

  pub marking-more : row < length marks → row < length kinds → {k : Kind} → k ≡ kind_by_mark (get_or marks row 0) → Marking marks kinds (row + 1) (set ys row k)
  marking-more h l e = record { so = filled_more kept_row w.so l (e ∙ rw (lt-ltb row (length marks) h)) }

  pub marking-all : min (length marks) (length kinds) ≤ row → ys ≡ with_marks marks kinds
  unfolding with_marks
  marking-all h = w.so.so ∙ tab-cong kept_row (length kinds) _ (by_mark marks kinds) (λ j l. by j l (dec_lt j row))
    where
      by : (j : ℕ) → j < length kinds → Dec (j < row) → cond (ltb j row) (by_mark marks kinds j) (get_or kinds j kept_row) ≡ by_mark marks kinds j
      by j l (yes k) = rw (lt-ltb j row k)
      by j l (no k) = rw (le-ltb j row (omega arith), le-ltb j (length marks) (omega arith))

-- ---- blocks

abbrev chosen : List ℕ → ℕ → ℕ → Bool
chosen words w c = ltb 0 c && eqb (combined 0 c words) w

abbrev blocked : List ℕ → List Kind → ℕ → ℕ → Kind
blocked words kinds c w = cond (some c (chosen words w)) blocks_row (get_or kinds w kept_row)

pub record Blocking (words : List ℕ) (kinds : List Kind) (c : ℕ) (ys : List Kind) : Type 0 where
  pub some_word : 0 < c
  pub upto : c ≤ 2 ^ length words
  pub so : ys ≡ tab (length kinds) (blocked words kinds c)

pub blocking-none : (words : List ℕ) (kinds : List Kind) → 1 ≤ 2 ^ length words → Blocking words kinds 1 kinds
unfolding some
blocking-none words kinds h = record { some_word = omega arith; upto = h; so = is-tab kept_row kinds (length kinds) _ refl (λ j l. refl) }

module _ {words : List ℕ} {kinds : List Kind} {c : ℕ} {ys : List Kind} (w : Blocking words kinds c ys) where
  pub blocking-long : length ys ≡ length kinds
  blocking-long = rw w.so (length-tab (length kinds) (blocked words kinds c))

  pub blocking-more : c < 2 ^ length words → {v : ℕ} → v ≡ combined 0 c words → {zs : List Kind} → zs ≡ set ys v blocks_row → Blocking words kinds (c + 1) zs
  unfolding some
  blocking-more h {v} e d =
      record {
        some_word = omega arith;
        upto = omega arith;
        so = d ∙ rw (add-one c, e)
            (tab-set kept_row (length kinds) (combined 0 c words) (blocked words kinds c) (blocked words kinds (suc c)) blocks_row ys w.so own others);
      }
    where
      own : blocks_row ≡ blocked words kinds (suc c) (combined 0 c words)
      own = rw (lt-ltb 0 c w.some_word, eq-eqb (combined 0 c words) (combined 0 c words) refl, or-true (some c (chosen words (combined 0 c words)))) refl

      others : (j : ℕ) → j < length kinds → (j ≡ combined 0 c words → ⊥) → blocked words kinds c j ≡ blocked words kinds (suc c) j
      others j l d = rw (lt-ltb 0 c w.some_word, ne_eqb (combined 0 c words) j (λ s. d (sym s)), or-false (some c (chosen words j))) refl

  pub blocking-all : 2 ^ length words ≤ c → ys ≡ with_blocks words kinds
  unfolding with_blocks combines_to some_combination
  blocking-all h =
      let e : c ≡ 2 ^ length words = omega (arith, w.upto) in
      w.so ∙ rw e refl

-- ---- all kinds

no-mark : kept_row ≡ kind_by_mark 0
unfolding kind_by_mark
no-mark = refl

pub all_kinds : (p : Plan) (marks : List ℕ) {xs ys : List Kind} → xs ≡ with_marks marks (replicate 1024 kept_row) → ys ≡ with_blocks (block_words p) xs
    → set ys 0 mean_row ≡ kinds_of p marks
unfolding kinds_of kind_of with_blocks with_marks
all_kinds p marks {xs} {ys} e d =
    tab-set kept_row 1024 0 between (kind_of p marks) mean_row ys (d ∙ rw long (tab-cong kept_row 1024 _ between (λ w h. by-marks w h))) refl others
  where
    between : ℕ → Kind
    between w = cond (confounded_in p w) blocks_row (kind_by_mark (get_or marks w 0))

    long : length xs ≡ 1024
    long = rw e (length-tab _ _ ∙ length-replicate {A = Kind} 1024 kept_row)

    by-marks : (w : ℕ) → w < 1024 → cond (confounded_in p w) blocks_row (get_or xs w kept_row) ≡ between w
    by-marks w h =
        ap (λ k. cond (confounded_in p w) blocks_row k)
        (rw e (rw (length-replicate {A = Kind} 1024 kept_row) (get_or-tab kept_row 1024 _ w h ∙ unmarked w h (dec_lt w (length marks)))))
      where
        unmarked : (w : ℕ) → w < 1024 → Dec (w < length marks)
            → cond (ltb w (length marks)) (kind_by_mark (get_or marks w 0)) (get_or (replicate {A = Kind} 1024 kept_row) w kept_row) ≡ kind_by_mark (get_or marks w 0)
        unmarked w h (yes k) = rw (lt-ltb w (length marks) k)
        unmarked w h (no k) =
            rw (le-ltb w (length marks) (omega arith), get_or-replicate {A = Kind} 1024 w kept_row kept_row h, get_d_past 0 marks w (omega arith)) no-mark

    others : (w : ℕ) → w < 1024 → (w ≡ 0 → ⊥) → between w ≡ kind_of p marks w
    others w h k = rw (ne_eqb w 0 k) refl
