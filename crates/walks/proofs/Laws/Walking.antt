-- The walk, effect by effect: what a loop holds after e totals is what effects 0 to e - 1 bring.
--
--   walking-none, walking-more       before the first total, and after one more
--   sum-small                        no sum of the first totals wraps
--   rows_long, sums-within           the rows stay as many, and no sum of the four kinds wraps
--   total-small, numerator-small     nor does a total or a numerator
--   row_fits, addable                what the next total brings fits
--   sums-held                        the sums that the parts hold
--   own_row                          at two levels a row is 0 before its effect has come
--   two-walks, three-walks           the course of each loop is such a walk
--
-- No sum wraps: each numerator, and each sum of some of them, is at most the sum of all; and a total is at most its numerator in size, so
-- the sum of the totals is within the same bound.
use Rattle.std.specs.Prelude.{◌≡◌, List, ◌⊎◌, ℕ, zero, suc, ◌+◌, ◌*◌, ◌%◌, ◌^◌, ◌<◌, ◌≤◌, ℤ, pos, nat_abs, ◌+ℤ◌, length, get_or, set, replicate}
use Rattle.std.proofs.Math.Path.{refl}
use Rattle.std.proofs.Common.{sym, ◌∙◌, ap, inl, inr, mod-lt, zero-add, add-one, arith, lit<}
use Rattle.std.proofs.Math.Decide.{ℕ_discrete}
use Rattle.std.proofs.Math.ListN.{get_or-replicate}
use Rattle.algebra.specs.Laws.Naturals.{Σℕ-le, Σℕ-term, Σℕ-shorter, Σℕ-ones}
use Rattle.algebra.specs.Laws.Size.{nat_abs-Σ, size_below}
use Rattle.algebra.specs.Laws.Sorted.{sorted_none, sorted_more, sorted-at, sum-least, sum-next, sum-own, sum-other, sum_low}
use Rattle.algebra.specs.Laws.Tab.{length-tab, get_or-tab, tab-cong}
use Rattle.algebra.specs.Naturals.{Σℕ}
use Rattle.algebra.specs.Sorted.{sum_at}
use Rattle.algebra.specs.Sum.{Σ}
use Rattle.contrasts.specs.Columns.{read}
use Rattle.contrasts.specs.Totals.{Column}
use Rattle.rows.specs.Kinds.{Kind}
use Rattle.walks.specs.After.{sums_by}
use Rattle.walks.specs.State.{code_at, place_of, plus_at, brought, sum_in, held_in, zeros, square_at, numerator_by, course_two, course_three}
use Rattle.walks.specs.Inner.Ready.{Addable, Walkable}
use Rattle.walks.specs.Inner.Walk.{Walking, WalkingTwo, WalkingThree}
use Rattle.walks.proofs.Laws.Parts.{which, part_of, own-numerators, own-degrees, other-still, brought-long}

module _ {row num kind : ℕ → ℕ} {t : Column} {n r : ℕ} (pre : Walkable row num kind t n r) where
  pub walking-none : Walking row num kind t n r 0 (zeros r) (replicate 16 0) (pos 0)
  unfolding Σ sum_at Σℕ zeros
  walking-none =
      record {
        upto = omega arith;
        rows-hold = sorted_none r row num (zeros r) (length-tab r (λ w. 0)) (λ w h. get_or-tab 0 r (λ w. 0) w h);
        places = refl;
        numerators-hold = λ c h. nothing 0 c (lit< tt) h;
        degrees-hold = λ c h. nothing 1 c (lit< tt) h;
        totals-hold = refl;
      }
    where
      nothing : (i c : ℕ) → i < 2 → c < 4 → sum_in (replicate 16 0) i c ≡ 0
      nothing i c h k =
          rw (get_or-replicate {A = ℕ} 16 (i + 4 * c) 0 0 (omega arith), get_or-replicate {A = ℕ} 16 (i + 4 * c + 2) 0 0 (omega arith)) refl

  -- a total is at most its numerator in size
  below : (e : ℕ) → e < n → nat_abs (t e) ≤ num e
  below e h = omega (arith, size_below (nat_abs (t e)), pre.squares e h)

  pub sum-small : (e : ℕ) → e ≤ n → nat_abs (Σ e t) < 2 ^ 63
  sum-small e h =
      omega (
        arith,
        pre.sum_fits,
        nat_abs-Σ e t,
        Σℕ-le e (λ i. nat_abs (t i)) num (λ i k. below i (omega arith)),
        Σℕ-shorter e n num h,
      )

  pub total-small : (e : ℕ) → e < n → nat_abs (t e) < 2 ^ 63
  total-small e h = omega (arith, pre.sum_fits, below e h, Σℕ-term n num e h)

  pub numerator-small : (e : ℕ) → e < n → num e < 2 ^ 63
  numerator-small e h = omega (arith, pre.sum_fits, Σℕ-term n num e h)

  module _ {e : ℕ} {rows parts : List ℕ} {s : ℤ} (w : Walking row num kind t n r e rows parts s) where
    pub rows_long : length rows ≡ r
    rows_long = rw w.rows-hold (length-tab r _)

    pub sums-within : (i c : ℕ) → i < 2 → c < 4 → sum_in parts i c < 2 ^ 63
    sums-within i c h k = by (which i h)
      where
        by : (i ≡ 0) ⊎ (i ≡ 1) → sum_in parts i c < 2 ^ 63
        by (inl z) = rw z (rw (w.numerators-hold c k) (omega (arith, pre.sum_fits, sum-least kind num e n c w.upto)))
        by (inr z) =
            rw z (rw (w.degrees-hold c k) (omega (arith, pre.few, Σℕ-ones n, sum-least kind (λ i. 1) e n c w.upto)))

    module _ (low : e < n) where
      pub row_fits : get_or rows (row e) 0 + num e < 2 ^ 63
      row_fits =
          rw (sorted-at r row num e w.rows-hold (row e) (pre.row-there e low))
          (omega (arith, pre.sum_fits, sum-next row num e n low))

      pub addable : (half : ℕ) → half < 2 → Addable (place_of (kind e) half) (num e) parts
      addable half b =
          let k = pre.four-kinds e low in
          let own = part_of parts (kind e) half 0 (place_of (kind e) half) (omega arith) b in
          let beside = part_of parts (kind e) half 1 (place_of (kind e) half + 1) (omega arith) b in
          record {
            inside = omega (arith, w.places, k, b);
            numerator-fits = omega (arith, pre.sum_fits, sum-next kind num e n low, w.numerators-hold (kind e) k, own);
            degree-fits = omega (arith, pre.few, Σℕ-ones n, sum-next kind (λ i. 1) e n low, w.degrees-hold (kind e) k, beside);
          }

      next-sum : Σ e t +ℤ t e ≡ Σ (suc e) t
      unfolding Σ
      next-sum = refl

      pub walking-more : (half : ℕ) → half < 2 → Walking row num kind t n r (suc e)
          (plus_at rows (row e) (num e)) (brought parts (place_of (kind e) half) (num e)) (s +ℤ t e)
      unfolding plus_at
      walking-more half b =
          record {
            upto = low;
            rows-hold = rw (add-one e) at (sorted_more r row num e w.rows-hold (pre.row-there e low));
            places = brought-long parts (place_of (kind e) half) (num e) ∙ w.places;
            numerators-hold = λ c h. numerators c (ℕ_discrete c (kind e)) h;
            degrees-hold = λ c h. degrees c (ℕ_discrete c (kind e)) h;
            totals-hold = rw w.totals-hold next-sum;
          }
        where
          k : kind e < 4
          k = pre.four-kinds e low

          numerators : (c : ℕ) → Dec (c ≡ kind e) → c < 4 → sum_in (brought parts (place_of (kind e) half) (num e)) 0 c ≡ sum_at kind num (suc e) c
          numerators c (yes z) h =
              rw z (own-numerators parts w.places (kind e) half (num e) k b ∙ rw (w.numerators-hold (kind e) k) (sum-own kind num e))
          numerators c (no z) h =
              other-still parts w.places (kind e) half (num e) k b 0 c (lit< tt) z ∙ w.numerators-hold c h ∙ sum-other kind num e c z

          degrees : (c : ℕ) → Dec (c ≡ kind e) → c < 4 → sum_in (brought parts (place_of (kind e) half) (num e)) 1 c ≡ sum_at kind (λ i. 1) (suc e) c
          degrees c (yes z) h =
              rw z (own-degrees parts w.places (kind e) half (num e) k b ∙ rw (w.degrees-hold (kind e) k) (sum-own kind (λ i. 1) e))
          degrees c (no z) h =
              other-still parts w.places (kind e) half (num e) k b 1 c (lit< tt) z ∙ w.degrees-hold c h ∙ sum-other kind (λ i. 1) e c z

-- the sums that the parts hold
pub sums-held : {row num kind : ℕ → ℕ} {t : Column} {n r e : ℕ} {rows parts : List ℕ} {s : ℤ} → Walking row num kind t n r e rows parts s
    → held_in parts s ≡ sums_by kind num t e
unfolding held_in sums_by
sums-held {num = num} {kind = kind} {e = e} {parts = parts} w =
    λ i. record {
      numerators = tab-cong 0 4 (sum_in parts 0) (sum_at kind num e) w.numerators-hold i;
      degrees = tab-cong 0 4 (sum_in parts 1) (sum_at kind (λ j. 1) e) w.degrees-hold i;
      totals = w.totals-hold i;
    }

-- ---- the course of the loops

-- at two levels a row is 0 before its effect has come
own_row : {num kind : ℕ → ℕ} {t : Column} {n r e : ℕ} {rows parts : List ℕ} {s : ℤ} → Walking (λ i. i) num kind t n r e rows parts s → e < r
    → (m : ℕ) → set rows e m ≡ plus_at rows e m
unfolding plus_at
own_row {num} {r = r} {e = e} {rows} w low m =
    ap (set rows e) (sym (rw (sorted-at r (λ i. i) num e w.rows-hold e low, sum_low (λ i. i) num e e (λ i k z. omega (arith, k, z))) (zero-add m)))

pub two-walks : (ts : List ℤ) (kinds : List Kind) (r : ℕ) → Walkable (λ i. i) (square_at ts) (λ i. code_at kinds i) (read ts) (length ts) r
    → (e : ℕ) → e ≤ length ts
    → WalkingTwo ts kinds r e (course_two ts kinds r e).rows (course_two ts kinds r e).parts (course_two ts kinds r e).sum
unfolding course_two
two-walks ts kinds r pre zero h = walking-none pre
two-walks ts kinds r pre (suc e) h =
    let w = two-walks ts kinds r pre e (omega (arith, h)) in
    rw (own_row w (pre.row-there e h) (square_at ts e)) (walking-more pre w h (e % 2) (mod-lt e (lit< tt)))

pub three-walks : (ts : List ℤ) (effects weights : List ℕ) (kinds : List Kind) (r : ℕ)
    → Walkable (λ i. get_or effects i 0) (numerator_by ts weights) (λ i. code_at kinds (get_or effects i 0)) (read ts) (length ts) r
    → (e : ℕ) → e ≤ length ts
    → WalkingThree ts effects weights kinds r e (course_three ts effects weights kinds r e).rows (course_three ts effects weights kinds r e).parts
    (course_three ts effects weights kinds r e).sum
unfolding course_three
three-walks ts effects weights kinds r pre zero h = walking-none pre
three-walks ts effects weights kinds r pre (suc e) h =
    walking-more pre (three-walks ts effects weights kinds r pre e (omega (arith, h))) h (e % 2) (mod-lt e (lit< tt))
