-- The passes of all factors, one after the other or two in one go.
--
--   AllPassed levels k xs s f ys               ys is xs after the passes of the first f factors, and the next one's values lie s apart
--   all-long, all_small, spacing-fits          its length and its values; the spacing after the next pass is at most its length
--   all_none, all-ready, all_more, all_done    before the first pass, before each, after each, after the last
--   two_ready, two_fits, two-more              the same of two factors in one go
--   first-ready, first_more                    and of the first two, from the readings
use mathlib.Core.Path.{◌≡◌, refl, sym, ◌∙◌, ap}
use mathlib.Core.List.{List}
use Prim.Native.Nat.{ℕ, suc, ◌+◌, ◌-◌, ◌*◌, ◌^◌, ◌<◌, ◌≤◌}
use native.Mathlib.Nat.{pow-succ', pow-suc, pow-zero, one-le-pow, pow-le-pow_right, mul_assoc, mul_comm, mul-one, one-mul}
use native.Mathlib.Numerals.{add-one}
use native.Mathlib.Omega.{arith}
use lib.IntN.{ℤ}
use lib.Pow.{pow-add}
use lib.ListN.{length, replicate, length-replicate, get_or-replicate, take}
use lib.Seq.{take-length}
use Rattle.algebra.specs.Tab.{tab}
use Rattle.algebra.specs.Laws.Tab.{length-tab, get_or-tab}
use Rattle.contrasts.specs.Columns.{read, AllWithin, passes_of, totals_of}
use Rattle.contrasts.specs.Limits.{value_limit}
use Rattle.contrasts.proofs.Factors.{of_levels}
use Rattle.contrasts.specs.Totals.{size}
use Rattle.contrasts.specs.Passes.{passes, count}
use Rattle.contrasts.proofs.Laws.Both.{both_over, BothStretches, FirstStretches}
use Rattle.contrasts.proofs.Laws.Replicated.{size-alike, spacing-alike}
use Rattle.contrasts.proofs.Laws.Levels.{some-levels}
use Rattle.contrasts.proofs.Laws.Small.{value-mild}
use Rattle.contrasts.proofs.Laws.Limits.{values-fit}
use Rattle.contrasts.proofs.Laws.Lists.{tab-read, pass-over, passes-list, passes-more, order-list}
use Rattle.contrasts.proofs.Laws.Within.{within-tab}
use Rattle.contrasts.proofs.Laws.Order.{in_order, in-order}
use Rattle.contrasts.proofs.Laws.Stretches.{pass_over}
use Rattle.passes.specs.Ready.{Stretches, PassReadings}
use Rattle.passes.specs.Laws.Powers.{in-stretches}
use Rattle.passes.specs.Inner.Lent.{SeveralFactors}

-- ---- one factor after the other

pub record AllPassed (l k : ℕ) (xs : List ℤ) (s f : ℕ) (ys : List ℤ) : Type 0 where
  pub some : f ≤ k
  pub apart : s ≡ l ^ f
  pub so : ys ≡ passes_of (replicate k (of_levels l)) (take f (in_order k)) xs

module _ {l k : ℕ} {xs : List ℤ} (pre : PassReadings l k xs) where
  pub all_none : AllPassed l k xs 1 0 xs
  unfolding passes_of
  all_none = record { some = omega arith; apart = sym (pow-zero l); so = refl }

  whole : length xs ≡ size (replicate k (of_levels l))
  whole = pre.whole ∙ sym (size-alike k (of_levels l) ∙ rw pre.kind refl)

  module _ {s f : ℕ} {ys : List ℤ} (w : AllPassed l k xs s f ys) where
    column : ys ≡ tab (size (replicate k (of_levels l))) (passes (replicate k (of_levels l)) (take f (in_order k)) (read xs))
    column = w.so ∙ passes-list (replicate k (of_levels l)) (take f (in_order k)) xs (read xs) (tab-read xs _ whole)

    pub all-long : length ys ≡ length xs
    all-long = rw column (length-tab _ _) ∙ sym whole

    once : (j : ℕ) → j < length (replicate k (of_levels l)) → count j (in_order k) ≡ 1
    once j h = in-order k j (rw (length-replicate k (of_levels l)) at h)

    pub all_small : AllWithin value_limit ys
    all_small =
        rw column
        (within-tab _ value_limit _
        (values-fit pre.passable (read xs) (λ r _. pre.within r) (in_order k) (λ j h. omega (arith, once j h)) f))

    pub all_done : k ≤ f → ys ≡ totals_of (replicate k (of_levels l)) xs
    all_done h =
        let e : f ≡ length (in_order k) = omega (arith, w.some, length-tab k (λ (i : ℕ). i)) in
        w.so ∙ rw (e, take-length (in_order k)) (order-list (replicate k (of_levels l)) (in_order k) xs whole once)

    module _ (low : f < k) where
      pub all-ready : Stretches l s ys
      all-ready = in-stretches l f k s ys pre.kind low w.apart (all-long ∙ pre.whole) (value-mild ys all_small)

      pub spacing-fits : s * l ≤ length xs
      spacing-fits = rw (w.apart, pre.whole, ← (pow-suc l f)) (pow-le-pow_right (some-levels l pre.kind) low)

      pub all_more : {zs : List ℤ} → zs ≡ pass_over s (of_levels l) ys → AllPassed l k xs (s * l) (f + 1) zs
      all_more e =
          record {
            some = omega arith;
            apart = rw (w.apart, add-one f) (sym (pow-suc l f));
            so = e ∙ sym (rw (add-one f) (
                passes-more (replicate k (of_levels l)) (in_order k) xs f (omega (arith, length-tab k (λ (i : ℕ). i)))
                ∙ rw (← w.so, get_or-tab 0 k (λ (i : ℕ). i) f low)
                (pass-over (replicate k (of_levels l)) f (of_levels l) ys (all-long ∙ whole) (omega (arith, length-replicate k (of_levels l)))
                ∙ rw (get_or-replicate k f (of_levels l) (of_levels l) low, spacing-alike k (of_levels l) f low, pre.kind, w.apart) refl)));
          }

-- ---- two factors in one go: n values belong together, n being the square of the levels

module _ {l k : ℕ} {xs : List ℤ} (pre : PassReadings l k xs) {n : ℕ} (square : n ≡ l * l) where
  module _ {s f : ℕ} {ys : List ℤ} (w : AllPassed l k xs s f ys) (low : f + 1 < k) where
    some : 0 < l
    some = some-levels l pre.kind

    fold : n * s ≡ l ^ suc (suc f)
    fold = rw (square, w.apart, mul_assoc l l (l ^ f), pow-succ' l (suc f), pow-succ' l f) refl

    pub two_ready : BothStretches n s ys
    two_ready =
        record {
          some = rw w.apart (one-le-pow f l some);
          count = l ^ (k - suc (suc f));
          more = one-le-pow (k - suc (suc f)) l some;
          whole = all-long pre w ∙ pre.whole ∙ sym (rw (fold, ← (pow-add l (k - suc (suc f)) (suc (suc f)))) (ap (λ m. l ^ m) (omega arith)));
          within = all_small pre w;
        }

    first-of-two : AllPassed l k xs (s * l) (f + 1) (pass_over s (of_levels l) ys)
    first-of-two = all_more pre w (omega arith) refl

    spacings : s * l * l ≡ s * n
    spacings = rw square (mul_assoc s l l)

    pub two_fits : s * n ≤ length xs
    two_fits = rw (← spacings) (spacing-fits pre first-of-two low)

    pub two-more : {zs : List ℤ} → zs ≡ both_over s (of_levels l) ys → AllPassed l k xs (s * n) (f + 2) zs
    unfolding both_over
    two-more e = rw (spacings, places) at (all_more pre first-of-two low (e ∙ rw (pre.kind, mul_comm l s) refl))
      where
        places : f + 1 + 1 ≡ f + 2
        places = omega arith

module _ {l k : ℕ} {xs old : List ℤ} (pre : SeveralFactors l k xs old) {n : ℕ} (square : n ≡ l * l) where
  two-of : BothStretches n 1 xs
  two-of = two_ready pre.readings square (all_none pre.readings) (omega (arith, pre.several))

  pub first-ready : FirstStretches n xs old
  first-ready = record { count = two-of.count; whole = two-of.whole ∙ rw (mul-one n) refl; same = pre.same; within = two-of.within }

  pub first_more : {zs : List ℤ} → zs ≡ both_over 1 (of_levels l) xs → AllPassed l k xs n 2 zs
  first_more e = rw (one-mul n) at (two-more pre.readings square (all_none pre.readings) (omega (arith, pre.several)) e)
