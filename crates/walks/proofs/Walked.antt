-- The loops over the totals.
--
--   cleared                                        rows of 0
--   square-kept, numerator-kept                    a total squared, and times its weight, of a total as code holds it
--   product-fits, product_is                       a numerator
--   pairs-none, pairs-more, pairs-all              the loop at two levels before the first total, after two more, after the last
--   second-there                                   a turn is two effects
--   brings-two                                     what an effect brings fits
--   threes-none, threes-more, threes-all           the loop at three levels
--   brings-three                                   what an effect brings fits
--   gatherable, check-fits                         and so do the sums
use mathlib.Core.Path.{◌≡◌, refl, sym, ◌∙◌}
use mathlib.Core.List.{List}
use Prim.Native.Nat.{ℕ, suc, ◌+◌, ◌*◌, ◌%◌, ◌^◌, ◌<◌, ◌≤◌}
use native.Mathlib.Nat.{mod-lt, mul-mod_right, add-mul-mod_self_left}
use native.Mathlib.Numerals.{add-one}
use native.Mathlib.Omega.{arith}
use lib.Dec.{lit<}
use lib.Signed.{mag}
use lib.IntN.{ℤ, pos, nat_abs, ◌+ℤ◌}
use lib.ListN.{length, get_or, set, replicate}
use mir.Syntax.{w64}
use mir.Val.{SFits}
use mir.Facts.{to_z-of_z}
use Rattle.std.proofs.lemmas.List.{length-replicate, get_or-replicate}
use Rattle.algebra.specs.Laws.Tab.{is-tab}
use Rattle.algebra.specs.Laws.Machine.{fits, wrap}
use Rattle.algebra.proofs.Laws.Machine.{back, kept}
use Rattle.algebra.specs.Sum.{Σ}
use Rattle.contrasts.specs.Columns.{read}
use Rattle.contrasts.specs.Totals.{Column}
use Rattle.rows.specs.Kinds.{Kind, kept_row}
use Rattle.walks.specs.State.{code_at, place_of, plus_at, brought, held_in, zeros, Held, Holding, course_two, course_three, RunningTwo, RunningThree}
use Rattle.walks.specs.Inner.Ready.{Weighable, Gatherable, BringsTwo, BringsThree, Walkable, WalkableTwo, WalkableThree}
use Rattle.walks.specs.Inner.Walk.{Walking, WalkingTwo, WalkingThree, Walked, WalkedTwo, WalkedThree}
use Rattle.walks.proofs.Laws.Walking.{sum-small, total-small, numerator-small, rows_long, sums-within, row_fits, addable, sums-held, two-walks, three-walks}

-- ---- rows of 0

pub cleared : (n : ℕ) {rows : List ℕ} → rows ≡ replicate n 0 → rows ≡ zeros n
unfolding zeros
cleared n e = e ∙ is-tab 0 (replicate n 0) n (λ w. 0) (length-replicate n 0) (λ w h. get_or-replicate n w 0 0 h)

-- ---- a numerator

-- of a total, as code holds it
module _ (t : ℤ) (h : mag t < 2 ^ 63) {q : ℕ} where
  pub square-kept : q ≡ nat_abs (wrap t) * nat_abs (wrap t) → q ≡ nat_abs t * nat_abs t
  square-kept e = e ∙ rw (kept t h) refl

  pub numerator-kept : (w : ℕ) → q ≡ nat_abs (wrap t) * nat_abs (wrap t) * w → q ≡ nat_abs t * nat_abs t * w
  numerator-kept w e = e ∙ rw (kept t h) refl

module _ {t : ℤ} {weight : ℕ} (pre : Weighable t weight) {q : ℕ} (e : q ≡ nat_abs t * nat_abs t) where
  pub product-fits : q * weight < 2 ^ 63
  product-fits = rw e pre.product-fits

  pub product_is : q * weight ≡ nat_abs t * nat_abs t * weight
  product_is = rw e refl

-- ---- what the variables of a loop hold

module _ {row num kind : ℕ → ℕ} {t : Column} {n r : ℕ} (pre : Walkable row num kind t n r) {e : ℕ} {h : Held}
    (w : Walking row num kind t n r e h.rows h.parts h.sum) {rows parts : List ℕ} {s : ℤ} (held : Holding h rows parts s) where
  pub as_long : length rows ≡ r
  as_long = rw held.rows_are (rows_long pre w)

  pub as_many : length parts ≡ 16
  as_many = rw held.parts_are w.places

  sum_back : s ≡ h.sum
  sum_back = held.sum_is

  pub gatherable : Gatherable parts
  gatherable = record { places = as_many; sums-fit = rw held.parts_are (sums-within pre w) }

  pub held_all : n ≤ e → Walked row num kind t n r (held_in parts s) rows
  held_all k =
      let z : e ≡ n = omega (arith, w.upto) in
      record { sums-are = rw (held.parts_are, sum_back, ← z) (sums-held w); rows_are = held.rows_are ∙ w.rows-hold ∙ rw z refl }

  module _ (low : e < n) where
    -- the total, as code holds it
    pub total-is : wrap (t e) ≡ t e
    total-is = back (t e) (total-small pre e low)

    pub sum-next : s +ℤ wrap (t e) ≡ h.sum +ℤ t e
    sum-next = rw (sum_back, total-is) refl

    next_fits : SFits w64 (Σ e t +ℤ t e)
    unfolding Σ
    next_fits = fits (Σ (suc e) t) (sum-small pre (suc e) low)

    pub check-fits : SFits w64 (s +ℤ wrap (t e))
    check-fits = rw (sum-next, w.totals-hold) (next_fits)

    pub sum-kept : wrap (s +ℤ wrap (t e)) ≡ h.sum +ℤ t e
    sum-kept = to_z-of_z check-fits ∙ sum-next

-- ---- two levels

module _ {ts : List ℤ} {kinds : List Kind} {rows₀ : List ℕ} (pre : WalkableTwo ts kinds rows₀) where
  pub pairs-none : RunningTwo ts kinds (length rows₀) 0 rows₀ (replicate 16 0) (pos 0)
  unfolding course_two
  pairs-none =
      record { upto = omega arith; pairs = 0; in_pairs = refl; holding = record { rows_are = pre.cleared; parts_are = refl; sum_is = refl } }

  pub course-two : (e : ℕ) → e ≤ length ts
      → WalkingTwo ts kinds (length rows₀) e (course_two ts kinds (length rows₀) e).rows (course_two ts kinds (length rows₀) e).parts
      (course_two ts kinds (length rows₀) e).sum
  course-two = two-walks ts kinds (length rows₀) pre.walkable

  module _ {e : ℕ} {rows parts : List ℕ} {s : ℤ} (held : Holding (course_two ts kinds (length rows₀) e) rows parts s) (low : e < length ts) where
    walk : WalkingTwo ts kinds (length rows₀) e (course_two ts kinds (length rows₀) e).rows (course_two ts kinds (length rows₀) e).parts
        (course_two ts kinds (length rows₀) e).sum
    walk = course-two e (omega (arith, low))

    own-total : wrap (read ts e) ≡ read ts e
    own-total = total-is pre.walkable walk held low

    pub held-places : length parts ≡ 16
    held-places = as_many pre.walkable walk held

    pub two_fits : SFits w64 (s +ℤ wrap (read ts e))
    two_fits = check-fits pre.walkable walk held low

    pub brings-two : (half : ℕ) → half < 2 → BringsTwo e (wrap (read ts e)) (get_or kinds e kept_row) half rows parts
    brings-two half b =
        rw own-total
        (record {
          row-there = rw (as_long pre.walkable walk held) (pre.walkable.row-there e low);
          squarable = numerator-small pre.walkable e low;
          one-half = b;
          addable = rw held.parts_are (addable pre.walkable walk low half b);
        })

    -- what the loop holds after one more effect
    pub two-more : (half : ℕ) → half ≡ e % 2 → {rows' parts' : List ℕ}
        → (rows' ≡ set rows e (nat_abs (wrap (read ts e)) * nat_abs (wrap (read ts e))))
        × (parts' ≡ brought parts (place_of (code_at kinds e) half) (nat_abs (wrap (read ts e)) * nat_abs (wrap (read ts e))))
        → Holding (course_two ts kinds (length rows₀) (e + 1)) rows' parts' (wrap (s +ℤ wrap (read ts e)))
    unfolding course_two
    two-more half b h =
        rw (add-one e)
        (record {
          rows_are = h.0 ∙ rw (own-total, held.rows_are) refl;
          parts_are = h.1 ∙ rw (own-total, held.parts_are, b) refl;
          sum_is = sum-kept pre.walkable walk held low;
        })

  module _ {e : ℕ} {rows parts : List ℕ} {s : ℤ} (w : RunningTwo ts kinds (length rows₀) e rows parts s) where
    pub two-places : length parts ≡ 16
    two-places = as_many pre.walkable (course-two e w.upto) w.holding

    pub two-long : length rows ≡ length rows₀
    two-long = as_long pre.walkable (course-two e w.upto) w.holding

    pub two-gatherable : Gatherable parts
    two-gatherable = gatherable pre.walkable (course-two e w.upto) w.holding

    pub pairs-all : length ts ≤ e → WalkedTwo ts kinds (length rows₀) (held_in parts s) rows
    pairs-all = held_all pre.walkable (course-two e w.upto) w.holding

    pub second-there : e < length ts → e + 1 < length ts
    second-there low = omega (arith, pre.in_pairs, w.in_pairs)

    pub first-half : 0 ≡ e % 2
    first-half = sym (rw w.in_pairs (mul-mod_right 2 w.pairs))

    pub second-half : 1 ≡ (e + 1) % 2
    second-half = let z : e + 1 ≡ 1 + 2 * w.pairs = omega (arith, w.in_pairs) in sym (rw z (add-mul-mod_self_left 1 2 w.pairs))

    pub pairs-more : e < length ts → {m : ℕ} → m ≡ e + 1 + 1 → {rows' parts' : List ℕ} {s' : ℤ}
        → Holding (course_two ts kinds (length rows₀) (e + 1 + 1)) rows' parts' s' → RunningTwo ts kinds (length rows₀) m rows' parts' s'
    pairs-more low d h =
        rw d (record { upto = omega (arith, second-there low); pairs = w.pairs + 1; in_pairs = omega (arith, w.in_pairs); holding = h })

-- ---- three levels

module _ {ts : List ℤ} {effects weights : List ℕ} {kinds : List Kind} {rows₀ : List ℕ} (pre : WalkableThree ts effects weights kinds rows₀) where
  pub threes-none : RunningThree ts effects weights kinds (length rows₀) 0 rows₀ (replicate 16 0) (pos 0)
  unfolding course_three
  threes-none = record { upto = omega arith; holding = record { rows_are = pre.cleared; parts_are = refl; sum_is = refl } }

  module _ {e : ℕ} {rows parts : List ℕ} {s : ℤ} (w : RunningThree ts effects weights kinds (length rows₀) e rows parts s) where
    walk₃ : WalkingThree ts effects weights kinds (length rows₀) e (course_three ts effects weights kinds (length rows₀) e).rows
        (course_three ts effects weights kinds (length rows₀) e).parts (course_three ts effects weights kinds (length rows₀) e).sum
    walk₃ = three-walks ts effects weights kinds (length rows₀) pre.walkable e w.upto

    pub three-places : length parts ≡ 16
    three-places = as_many pre.walkable walk₃ w.holding

    pub three-long : length rows ≡ length rows₀
    three-long = as_long pre.walkable walk₃ w.holding

    pub three-gatherable : Gatherable parts
    three-gatherable = gatherable pre.walkable walk₃ w.holding

    pub threes-all : length ts ≤ e → WalkedThree ts effects weights kinds (length rows₀) (held_in parts s) rows
    threes-all = held_all pre.walkable walk₃ w.holding

    module _ (low : e < length ts) where
      own-total₃ : wrap (read ts e) ≡ read ts e
      own-total₃ = total-is pre.walkable walk₃ w.holding low

      pub three-fits : SFits w64 (s +ℤ wrap (read ts e))
      three-fits = check-fits pre.walkable walk₃ w.holding low

      own-half : e % 2 < 2
      own-half = mod-lt e (lit< tt)

      pub brings-three : BringsThree (get_or effects e 0) (wrap (read ts e)) (get_or weights e 0) (get_or kinds (get_or effects e 0) kept_row) (e % 2) rows parts
      brings-three =
          rw own-total₃
          (record {
            row-there = rw three-long (pre.walkable.row-there e low);
            one-half = own-half;
            weighable = record {
              square-fits = omega (arith, pre.walkable.squares e low, numerator-small pre.walkable e low);
              product-fits = numerator-small pre.walkable e low;
            };
            row_fits = rw w.holding.rows_are (row_fits pre.walkable walk₃ low);
            addable = rw w.holding.parts_are (addable pre.walkable walk₃ low (e % 2) own-half);
          })

      pub threes-more : {rows' parts' : List ℕ}
          → (rows' ≡ plus_at rows (get_or effects e 0) (nat_abs (wrap (read ts e)) * nat_abs (wrap (read ts e)) * get_or weights e 0))
          × (parts' ≡ brought parts (place_of (code_at kinds (get_or effects e 0)) (e % 2)) (nat_abs (wrap (read ts e)) * nat_abs (wrap (read ts e)) * get_or weights e 0))
          → RunningThree ts effects weights kinds (length rows₀) (e + 1) rows' parts' (wrap (s +ℤ wrap (read ts e)))
      unfolding course_three
      threes-more h =
          rw (add-one e)
          (record {
            upto = low;
            holding = record {
              rows_are = h.0 ∙ rw (own-total₃, w.holding.rows_are) refl;
              parts_are = h.1 ∙ rw (own-total₃, w.holding.parts_are) refl;
              sum_is = sum-kept pre.walkable walk₃ w.holding low;
            };
          })
