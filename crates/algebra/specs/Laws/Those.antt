-- Laws of the entries that pass a test.
--
--   those-append             of two lists joined
--   those-pass, those-skip   of one value more, which passes or does not
--   those-fewer              of fewer values there are not more
--   flat-long                how long lists of w entries each are, joined, of those that pass
use Rattle.std.specs.Prelude.{◌≡◌, Bool, ℕ, ◌+◌, ◌*◌, ◌-◌, ◌<◌, ◌≤◌, length, get_or}
use Rattle.std.proofs.Math.Path.{refl}
use Rattle.std.proofs.Common.{ap, ◌∙◌, arith, length-append}
use Rattle.std.proofs.Math.Bool.{true, false, cond}
use mathlib.Core.List.{List, [], ◌∷◌, ◌++◌, append-nil, flatten}
use Rattle.algebra.specs.Tab.{tab}
use Rattle.algebra.specs.Those.{those}
use Rattle.algebra.specs.Laws.Among.{those-of, tab-of, in-at}
use Rattle.algebra.specs.Laws.Joined.{tab-plus, tab-more, flat-wide}

module _ {A : Type 0} (test : A → Bool) where
  pub those-append : (xs ys : List A) → those test (xs ++ ys) ≡ those test xs ++ those test ys
  unfolding those
  those-append [] ys = refl
  those-append (x ∷ xs) ys = rw (those-append xs ys) (by (test x))
    where
      by : (b : Bool) → cond b (x ∷ (those test xs ++ those test ys)) (those test xs ++ those test ys)
          ≡ cond b (x ∷ those test xs) (those test xs) ++ those test ys
      by true = refl
      by false = refl

  module _ (f : ℕ → A) where
    pub those-pass : (i : ℕ) → test (f i) ≡ true → those test (tab (i + 1) f) ≡ those test (tab i f) ++ (f i ∷ [])
    unfolding those
    those-pass i e = rw (tab-more i f) (those-append (tab i f) (f i ∷ []) ∙ rw e refl)

    pub those-skip : (i : ℕ) → test (f i) ≡ false → those test (tab (i + 1) f) ≡ those test (tab i f)
    unfolding those
    those-skip i e = rw (tab-more i f) (those-append (tab i f) (f i ∷ []) ∙ rw (e, append-nil) refl)

    pub those-fewer : (i n : ℕ) → i ≤ n → length (those test (tab i f)) ≤ length (those test (tab n f))
    those-fewer i n h =
        let e : n ≡ i + (n - i) = omega arith in
        rw (e, tab-plus i (n - i) f, those-append, length-append) (omega arith)

pub flat-long : {A : Type 0} (test : List A → Bool) (f : ℕ → List A) (w : ℕ) → ((i : ℕ) → length (f i) ≡ w)
    → (n : ℕ) → length (flatten (those test (tab n f))) ≡ length (those test (tab n f)) * w
flat-long test f w wide n = flat-wide w (those test (tab n f)) each
  where
    each : (i : ℕ) → i < length (those test (tab n f)) → length (get_or (those test (tab n f)) i []) ≡ w
    each i h =
        let t = tab-of n f (those-of test (tab n f) (in-at [] (those test (tab n f)) i h)).0 in
        ap length t.2 ∙ wide t.0
