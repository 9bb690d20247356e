-- That the lists by their numbers are all lists, in their order.
--
--   lists-tab          the lists by their numbers are all lists, in their order
--   blockings-tab      and so the ways to block a plan are those of them that pass
use Rattle.std.specs.Prelude.{◌≡◌, refl, ℕ, zero, suc, ◌+◌, ◌*◌, ◌-◌, ◌/◌, ◌%◌, ◌^◌, ◌<◌}
use Rattle.std.proofs.Common.{sym, ap, ◌∙◌, mul-zero, mul-suc, arith, pow-add}
use mathlib.Core.List.{[], ◌∷◌, flatten}
use Rattle.std.proofs.Math.Pow.{field, mod-mod-pow, shr_mod}
use Rattle.algebra.specs.Tab.{tab, tab_from}
use Rattle.algebra.specs.Those.{those}
use Rattle.algebra.specs.Laws.Tab.{tab-cong}
use Rattle.algebra.specs.Laws.Joined.{map-tab, tab-parts, tab-first}
use Rattle.blockings.specs.Blockings.{lists_of, is_blocking, blockings_of}
use Rattle.blockings.specs.Inner.Numbered.{word_at, words_at}

-- ---- the first word, and the rest

-- the words after the first are those of the remainder
later : (k b i j : ℕ) → j < b → word_at k (suc b) i (suc j) ≡ word_at k b (i % 2 ^ (k * b)) j
unfolding word_at
later k b i j h =
    let e = b - j - 1 in
    let same : suc b - suc j - 1 ≡ e = omega arith in
    let parts : b ≡ j + 1 + e = omega arith in
    let whole : k * b ≡ (k * j + k) + k * e = ap (λ (m : ℕ). k * m) parts ∙ omega arith in
    rw (same, whole, field i (k * j + k) (k * e), mod-mod-pow (i / 2 ^ (k * e)) (k * j) k) refl

first : (k b i : ℕ) → i < 2 ^ (k + k * b) → word_at k (suc b) i 0 ≡ i / 2 ^ (k * b)
unfolding word_at
first k b i h =
    let same : suc b - 0 - 1 ≡ b = omega arith in
    rw same (shr_mod k (k * b) h)

by_first : (k b i : ℕ) → i < 2 ^ (k + k * b) → words_at k (suc b) i ≡ i / 2 ^ (k * b) ∷ words_at k b (i % 2 ^ (k * b))
by_first k b i h =
    tab-first b (word_at k (suc b) i)
    ∙ rw (first k b i h) (ap (λ ws. i / 2 ^ (k * b) ∷ ws) (tab-cong 0 b _ _ (λ j l. later k b i j l)))

-- ---- all lists

pub lists-tab : (k b : ℕ) → lists_of k b ≡ tab (2 ^ (k * b)) (words_at k b)
unfolding lists_of tab_from
lists-tab k zero = rw (mul-zero k) refl
lists-tab k (suc b) =
    let m = 2 ^ (k * b) in
    let one_more : k * suc b ≡ k + k * b = omega (arith, mul-suc k b) in
    let size : 2 ^ (k * suc b) ≡ 2 ^ k * m = ap (λ (n : ℕ). 2 ^ n) one_more ∙ pow-add 2 k (k * b) in
    rw (lists-tab k b, size)
    (ap flatten (tab-cong [] (2 ^ k) _ _ (λ w l. map-tab (λ ws. w ∷ ws) m (words_at k b)))
    ∙ tab-parts [] (2 ^ k) m (λ q d. q ∷ words_at k b d)
    ∙ tab-cong [] (2 ^ k * m) _ _ (λ i l. sym (by_first k b i (rw (pow-add 2 k (k * b)) l))))

pub blockings-tab : (k b : ℕ) → blockings_of k b ≡ those (is_blocking k) (tab (2 ^ (k * b)) (words_at k b))
unfolding blockings_of
blockings-tab k b = rw (lists-tab k b) refl
