-- The loops that divide the table of divisors.
--
--   Divided xs e ys                            the entries of xs below e are divided by 3
--   divided-long                               its length
--   divided-none, divided-more, divided-all    before the first entry, after one more, after the last
--   Missing k n ys                             the table is that of n factors, of which there are to be k
--   missing-long                               its length
--   missing-none, missing-more, missing-all    before the first division, after one more, after the last
use mathlib.Core.Path.{◌≡◌, refl, sym, ◌∙◌, ap}
use mathlib.Core.List.{List}
use Prim.Native.Nat.{ℕ, suc, ◌+◌, ◌-◌, ◌/◌, ◌^◌, ◌<◌, ◌≤◌}
use native.Mathlib.Nat.{div-div-eq-div-mul, pow-suc, div-one}
use native.Mathlib.Omega.{arith}
use lib.ListN.{length, get_or, set, replicate}
use Rattle.algebra.specs.Laws.Fill.{Filled, filled_none, filled-long, filled-old, filled_more, filled-all}
use Rattle.algebra.specs.Laws.Tab.{length-tab, get_or-tab, tab-cong}
use Rattle.contrasts.proofs.Factors.{three}
use Rattle.contrasts.specs.Totals.{divisor*}
use Rattle.effects.specs.Inner.Divisors.{six_factors, thirds, divisors_of}

pub record Divided (xs : List ℕ) (e : ℕ) (ys : List ℕ) : Type 0 where
  pub so : Filled (length xs) (λ j. get_or xs j 0 / 3) (λ j. get_or xs j 0) e ys

pub divided-none : (xs : List ℕ) → Divided xs 0 xs
divided-none xs = record { so = filled_none 0 (length xs) (λ j. get_or xs j 0 / 3) (λ j. get_or xs j 0) xs refl (λ j h. refl) }

module _ {xs : List ℕ} {e : ℕ} {ys : List ℕ} (w : Divided xs e ys) where
  pub divided-long : length ys ≡ length xs
  divided-long = filled-long 0 w.so

  pub divided-more : e < length ys → Divided xs (e + 1) (set ys e (get_or ys e 0 / 3))
  divided-more h =
      let l : e < length xs = omega (arith, divided-long) in
      record { so = filled_more 0 w.so l (ap (λ n. n / 3) (filled-old 0 w.so e (omega arith) l)) }

  pub divided-all : length ys ≤ e → ys ≡ thirds xs
  unfolding thirds
  divided-all h = filled-all 0 w.so (omega (arith, divided-long))

pub record Missing (k n : ℕ) (ys : List ℕ) : Type 0 where
  pub most : n ≤ 6
  -- no factor is missing that is to be there
  pub there : 6 - n ≤ 6 - k
  pub so : ys ≡ divisors_of n

pub missing-none : (k : ℕ) {ys : List ℕ} → ys ≡ six_factors → Missing k 6 ys
unfolding six_factors divisors_of
missing-none k e =
    record { most = omega arith; there = omega arith; so = e ∙ tab-cong 0 729 six (λ e. six e / 3 ^ (6 - 6)) (λ i h. sym (div-one (six i))) }
  where
    six : ℕ → ℕ
    six = divisor* (replicate 6 three)

module _ {k n : ℕ} {ys : List ℕ} (w : Missing k n ys) where
  pub missing-long : length ys ≡ 729
  unfolding divisors_of
  missing-long = rw w.so (length-tab 729 _)

  pub missing-all : n ≤ k → ys ≡ divisors_of k
  unfolding divisors_of
  missing-all h =
      let e : 6 - n ≡ 6 - k = omega (arith, w.there) in
      w.so ∙ rw e refl

  module _ (h : k < n) where
    one_more : (x : ℕ) → x / 3 ^ (6 - n) / 3 ≡ x / 3 ^ (6 - (n - 1))
    one_more x =
        let e : 6 - (n - 1) ≡ suc (6 - n) = omega (arith, w.most) in
        rw (e, pow-suc 3 (6 - n)) (div-div-eq-div-mul x (3 ^ (6 - n)) 3)

    pub missing-more : {m : ℕ} → m ≡ n - 1 → {zs : List ℕ} → zs ≡ thirds ys → Missing k m zs
    unfolding thirds divisors_of
    missing-more d e =
        rw d
        (record {
          most = omega (arith, w.most);
          there = omega (arith, w.most);
          so = e ∙ rw missing-long (rw w.so (tab-cong 0 729 _ _ (λ i l. ap (λ x. x / 3) (get_or-tab 0 729 _ i l) ∙ one_more (divisor* (replicate 6 three) i))));
        })
