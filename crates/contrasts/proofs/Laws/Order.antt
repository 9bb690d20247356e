-- Passes in any order. What stands in the column after some calls is known at every moment, and at the end it is the totals.
--
--   share, rest      one factor's share in it, and the other factors' calls
--   mixed Fs m x     the column in which the factors k with 0 < m k have been passed
--   mixed-all        where all have been, it is the totals
--   count-take       a beginning of a list calls no position more often
--   after            any calls that repeat no factor leave the mixed column of those called
--   after-each       and so does every beginning of the list of calls
--   in_order k       the calls of the first k positions, one after the other; each is named once (in-order)
--   order            THE ORDER THEOREM: calls that name each factor once, in any order, with any other numbers among them, end as the totals
use Rattle.std.specs.Prelude.{◌≡◌, refl, List, [], ◌∷◌, ℕ, zero, suc, ◌+◌, ◌*◌, ◌/◌, ◌%◌, ◌<◌, ◌≤◌, length, take, ℤ, ◌*ℤ◌}
use Rattle.std.proofs.Common.{sym, ◌∙◌, ap, mod-lt, div-add-mod', add-zero, arith, eq-eqb, ne_eqb}
use Rattle.std.proofs.Math.Path.{fun_ext}
use Rattle.std.proofs.Math.Decide.{dec_lt, ℕ_discrete}
use Rattle.std.proofs.Math.Arith.{digits_div, digits_mod, lt-one}
use Rattle.algebra.specs.Laws.Ring.{ac*}
use Rattle.algebra.specs.Sum.{Σ}
use Rattle.algebra.specs.Laws.Sum.{Σ-cong, Σ-ext, Σ-mul, Σ-swap}
use Rattle.algebra.specs.Tab.{tab, tab_from}
use Rattle.contrasts.specs.Factor.{Factor}
use Rattle.contrasts.specs.Totals.{Column, size, total}
use Rattle.contrasts.specs.Passes.{digit_at, with_digit, pass_at, pass_from, pass, passes, hit, count}
use Rattle.contrasts.proofs.Laws.Digits.{level, rest_lt, total-nil, total-cons, pass-zero, pass-suc, pass-beyond}

-- ---- the column after some calls

-- one factor's share: where it has been passed, the sum by its row d; where it has not, the value at level d
unfoldable pub share : Factor → ℕ → ℕ → Column → ℤ
share F zero d y = y d
share F (suc n) d y = Σ F.levels (λ j. F.coef d j *ℤ y j)

-- without the first factor
abbrev pub rest : (ℕ → ℕ) → ℕ → ℕ
rest m k = m (suc k)

-- totals over the levels of the factors that have been passed, at fixed levels of the others
unfoldable pub mixed : List Factor → (ℕ → ℕ) → Column → Column
mixed [] m x i = x i
mixed (F ∷ Fs) m x i = share F (m 0) (i % F.levels) (λ j. mixed Fs (rest m) (level F j x) (i / F.levels))

share-cong : (F : Factor) (n d : ℕ) {y z : Column} → d < F.levels → ((j : ℕ) → j < F.levels → y j ≡ z j) → share F n d y ≡ share F n d z
unfolding share
share-cong F zero d p h = h d p
share-cong F (suc n) d p h = Σ-cong F.levels (λ j k. rw (h j k))

mixed-cong : (Fs : List Factor) (m m' : ℕ → ℕ) (x : Column) (i : ℕ) → ((k : ℕ) → k < length Fs → m k ≡ m' k)
    → mixed Fs m x i ≡ mixed Fs m' x i
unfolding mixed
mixed-cong [] m m' x i h = refl
mixed-cong (F ∷ Fs) m m' x i h =
    rw (h 0 (omega arith))
    (share-cong F (m' 0) (i % F.levels) (mod-lt i F.some_level)
    (λ j _. mixed-cong Fs (rest m) (rest m') (level F j x) (i / F.levels) (λ k p. h (suc k) (omega arith))))

-- none passed: the column itself
mixed-none : (Fs : List Factor) (x : Column) (i : ℕ) → mixed Fs (λ k. 0) x i ≡ x i
unfolding mixed share
mixed-none [] x i = refl
mixed-none (F ∷ Fs) x i = mixed-none Fs (level F (i % F.levels) x) (i / F.levels) ∙ rw (div-add-mod' i F.levels)

-- all passed: the totals
pub mixed-all : (Fs : List Factor) (m : ℕ → ℕ) (x : Column) (i : ℕ) → ((k : ℕ) → k < length Fs → m k ≡ 1)
    → i < size Fs → mixed Fs m x i ≡ total Fs x i
unfolding mixed share size
mixed-all [] m x i h p = rw (lt-one p) (sym (total-nil x 0))
mixed-all (F ∷ Fs) m x i h p =
    rw (h 0 (omega arith), total-cons F Fs x i)
    (Σ-ext F.levels (λ j. ap (λ z. F.coef (i % F.levels) j *ℤ z)
    (mixed-all Fs (rest m) (level F j x) (i / F.levels) (λ k q. h (suc k) (omega arith)) (rest_lt F.some_level p))))

-- ---- one more pass

mixed-digit : (F : Factor) (Fs : List Factor) (m : ℕ → ℕ) (x : Column) (q d : ℕ) → d < F.levels
    → mixed (F ∷ Fs) m x (q * F.levels + d) ≡ share F (m 0) d (λ j. mixed Fs (rest m) (level F j x) q)
unfolding mixed
mixed-digit F Fs m x q d h = rw (digits_div q h, digits_mod q h)

-- a pass goes into another factor's share
pass-share : (s : ℕ) (Fs : List Factor) (f : ℕ) (F : Factor) (n d : ℕ) (y : ℕ → Column) (i : ℕ)
    → pass_from s Fs f (λ q. share F n d (λ j. y j q)) i ≡ share F n d (λ j. pass_from s Fs f (y j) i)
unfolding pass_from share pass_at
pass-share s [] f F n d y i = refl
pass-share s (G ∷ Fs) zero F zero d y i = refl
pass-share s (G ∷ Fs) zero F (suc n) d y i =
    Σ-ext G.levels (λ j. sym (Σ-mul (g j) F.levels (λ k. F.coef d k *ℤ y k (place j))))
    ∙ Σ-swap G.levels F.levels (λ j k. g j *ℤ (F.coef d k *ℤ y k (place j)))
    ∙ Σ-ext F.levels (λ k. Σ-ext G.levels (λ j. simp ac*) ∙ Σ-mul (F.coef d k) G.levels (λ j. g j *ℤ y k (place j)))
  where
    g : ℕ → ℤ
    g j = G.coef (digit_at s G.levels i) j

    place : ℕ → ℕ
    place j = with_digit s G.levels j i
pass-share s (G ∷ Fs) (suc f) F n d y i = pass-share (s * G.levels) Fs f F n d y i

share-zero : (F : Factor) (n d : ℕ) (y : Column) → n ≡ 0 → share F n d y ≡ y d
unfolding share
share-zero F n d y e = rw e

share-one : (F : Factor) (n d : ℕ) (y : Column) → n ≡ 1 → share F n d y ≡ Σ F.levels (λ j. F.coef d j *ℤ y j)
unfolding share
share-one F n d y e = rw e

-- the pass of a factor that has not been passed
pass-mixed : (Fs : List Factor) (f : ℕ) (m m' : ℕ → ℕ) (x : Column) (i : ℕ)
    → f < length Fs → m f ≡ 0 → m' f ≡ 1 → ((k : ℕ) → (k ≡ f → ⊥) → m' k ≡ m k)
    → pass Fs f (mixed Fs m x) i ≡ mixed Fs m' x i
unfolding mixed
pass-mixed [] f m m' x i p a b h = absurd (omega arith)
pass-mixed (F ∷ Fs) zero m m' x i p a b h =
    pass-zero F Fs (mixed (F ∷ Fs) m x) i
    ∙ Σ-cong F.levels (λ j k. ap (λ z. F.coef (i % F.levels) j *ℤ z)
    (mixed-digit F Fs m x (i / F.levels) j k
    ∙ share-zero F (m 0) j (λ j. mixed Fs (rest m) (level F j x) (i / F.levels)) a
    ∙ mixed-cong Fs (rest m) (rest m') (level F j x) (i / F.levels) (λ k _. sym (h (suc k) (λ e. omega arith)))))
    ∙ sym (share-one F (m' 0) (i % F.levels) (λ j. mixed Fs (rest m') (level F j x) (i / F.levels)) b)
pass-mixed (F ∷ Fs) (suc f) m m' x i p a b h =
    pass-suc F Fs f (mixed (F ∷ Fs) m x) i
    ∙ ap (λ y. pass Fs f y (i / F.levels)) (fun_ext (λ q. mixed-digit F Fs m x q (i % F.levels) (mod-lt i F.some_level)))
    ∙ pass-share 1 Fs f F (m 0) (i % F.levels) (λ j. mixed Fs (rest m) (level F j x)) (i / F.levels)
    ∙ share-cong F (m 0) (i % F.levels) (mod-lt i F.some_level)
    (λ j _. pass-mixed Fs f (rest m) (rest m') (level F j x) (i / F.levels) (omega arith) a b (λ k g. h (suc k) (λ e. g (omega arith))))
    ∙ ap (λ n. share F n (i % F.levels) (λ j. mixed Fs (rest m') (level F j x) (i / F.levels))) (sym (h 0 (λ e. omega arith)))

-- ---- lists of calls

hit_same : (f : ℕ) → hit f f ≡ 1
hit_same f = rw (eq-eqb f f refl)

hit_other : (k f : ℕ) → (k ≡ f → ⊥) → hit k f ≡ 0
hit_other k f h = rw (ne_eqb k f h)

passes-mixed : (Fs : List Factor) (fs : List ℕ) (m : ℕ → ℕ) (x : Column) (i : ℕ) → ((k : ℕ) → k < length Fs → m k + count k fs ≤ 1)
    → passes Fs fs (mixed Fs m x) i ≡ mixed Fs (λ k. m k + count k fs) x i
unfolding passes count
passes-mixed Fs [] m x i h = mixed-cong Fs m (λ k. m k + 0) x i (λ k _. sym (add-zero (m k)))
passes-mixed Fs (f ∷ fs) m x i h = go (dec_lt f (length Fs)) (passes-mixed Fs fs m x i) (passes-mixed Fs fs (λ k. m k + hit k f) x i)
  where
    go : Dec (f < length Fs)
        → (((k : ℕ) → k < length Fs → m k + count k fs ≤ 1) → passes Fs fs (mixed Fs m x) i ≡ mixed Fs (λ k. m k + count k fs) x i)
        → (((k : ℕ) → k < length Fs → m k + hit k f + count k fs ≤ 1)
        → passes Fs fs (mixed Fs (λ k. m k + hit k f) x) i ≡ mixed Fs (λ k. m k + hit k f + count k fs) x i)
        → passes Fs fs (pass Fs f (mixed Fs m x)) i ≡ mixed Fs (λ k. m k + (hit k f + count k fs)) x i
    go (yes p) r s =
        ap (λ y. passes Fs fs y i) (fun_ext (λ n. pass-mixed Fs f m (λ k. m k + hit k f) x n p
        (omega (arith, h f p, hit_same f)) (omega (arith, h f p, hit_same f)) (λ k g. omega (arith, hit_other k f g))))
        ∙ s (λ k l. omega (arith, h k l))
        ∙ mixed-cong Fs (λ k. m k + hit k f + count k fs) (λ k. m k + (hit k f + count k fs)) x i (λ k _. omega arith)
    go (no p) r s =
        ap (λ y. passes Fs fs y i) (pass-beyond 1 Fs f (mixed Fs m x) (omega arith))
        ∙ r (λ k l. omega (arith, h k l))
        ∙ mixed-cong Fs (λ k. m k + count k fs) (λ k. m k + (hit k f + count k fs)) x i (λ k l. omega (arith, hit_other k f (λ e. omega arith)))

pub after : (Fs : List Factor) (calls : List ℕ) (x : Column) (i : ℕ) → ((k : ℕ) → k < length Fs → count k calls ≤ 1)
    → passes Fs calls x i ≡ mixed Fs (λ k. count k calls) x i
after Fs calls x i h =
    ap (λ y. passes Fs calls y i) (fun_ext (λ n. sym (mixed-none Fs x n)))
    ∙ passes-mixed Fs calls (λ k. 0) x i (λ k l. omega (arith, h k l))
    ∙ mixed-cong Fs (λ k. 0 + count k calls) (λ k. count k calls) x i (λ k _. omega arith)

pub count-take : (k n : ℕ) (calls : List ℕ) → count k (take n calls) ≤ count k calls
unfolding count
count-take k zero calls = omega arith
count-take k (suc n) [] = omega arith
count-take k (suc n) (f ∷ fs) = omega (arith, count-take k n fs)

pub after-each : (Fs : List Factor) (calls : List ℕ) (x : Column) (n i : ℕ) → ((k : ℕ) → k < length Fs → count k calls ≤ 1)
    → passes Fs (take n calls) x i ≡ mixed Fs (λ k. count k (take n calls)) x i
after-each Fs calls x n i h = after Fs (take n calls) x i (λ k l. omega (arith, h k l, count-take k n calls))

pub order : (Fs : List Factor) (calls : List ℕ) (x : Column) (i : ℕ) → ((k : ℕ) → k < length Fs → count k calls ≡ 1)
    → i < size Fs → passes Fs calls x i ≡ total Fs x i
order Fs calls x i h p =
    after Fs calls x i (λ k l. omega (arith, h k l)) ∙ mixed-all Fs (λ k. count k calls) x i h p

-- ---- one such list

abbrev pub in_order : ℕ → List ℕ
in_order k = tab k (λ i. i)

none_from : (s n j : ℕ) → j < s → count j (tab_from s n (λ i. i)) ≡ 0
unfolding count tab_from
none_from s zero j h = refl
none_from s (suc n) j h = omega (arith, hit_other j s (λ e. omega arith), none_from (suc s) n j (omega arith))

once-from : (s n j : ℕ) → s ≤ j → j < s + n → count j (tab_from s n (λ i. i)) ≡ 1
unfolding count tab_from
once-from s zero j h l = absurd (omega arith)
once-from s (suc n) j h l = by (ℕ_discrete j s) (once-from (suc s) n j)
  where
    by : Dec (j ≡ s) → (suc s ≤ j → j < suc s + n → count j (tab_from (suc s) n (λ i. i)) ≡ 1) → hit j s + count j (tab_from (suc s) n (λ i. i)) ≡ 1
    by (yes e) r = rw e (omega (arith, hit_same s, none_from (suc s) n s (omega arith)))
    by (no e) r = omega (arith, hit_other j s e, r (omega arith) (omega arith))

pub in-order : (k j : ℕ) → j < k → count j (in_order k) ≡ 1
in-order k j h = once-from 0 k j (omega arith) (omega arith)
