-- The theorems over columns that are lists.
--
--   tab-read         a list is the table of its column
--   pass-over        the pass of a position is the pass of its factor at its spacing
--   passes-list      passes over lists are passes over columns
--   passes-more      one pass more
--   pass-past        a pass of a position that there is not
--   order-list       calls that name each factor once, in any order, end as the totals
--   steps-list       a step for each factor ends as the totals
--   steps_alike      steps of k factors that are alike, over lists and over columns
--   steps-more       one step more
use Rattle.std.specs.Prelude.{◌≡◌, refl, List, [], ◌∷◌, ℕ, zero, suc, ◌-◌, ◌*◌, ◌^◌, ◌<◌, ◌≤◌, ℤ, pos, length, get_or, take, replicate}
use Rattle.std.proofs.Common.{sym, ◌∙◌, ap, mul-one, mul-pos, mul_assoc, arith, lit<, pow-add}
use Rattle.algebra.specs.Tab.{tab}
use Rattle.algebra.specs.Laws.Tab.{get_or-tab, is-tab, tab-cong}
use Rattle.contrasts.specs.Columns.{read, totals_of, pass_of, passes_of, step_of, steps_of}
use Rattle.contrasts.specs.Factor.{Factor}
use Rattle.contrasts.specs.Totals.{Column, size, total}
use Rattle.contrasts.specs.Passes.{pass, passes, count, spacing}
use Rattle.contrasts.specs.Steps.{step, steps}
use Rattle.contrasts.proofs.Laws.Replicated.{size-alike}
use Rattle.contrasts.proofs.Laws.Digits.{size-pos, pass-cong, pass-beyond}
use Rattle.contrasts.proofs.Laws.Order.{order}
use Rattle.contrasts.proofs.Laws.Steps.{step-cong, rotated, all-steps}
use Rattle.contrasts.proofs.Laws.Stretches.{pass_over, pass-is}

pub tab-read : (xs : List ℤ) (n : ℕ) → length xs ≡ n → xs ≡ tab n (read xs)
tab-read xs n e = is-tab (pos 0) xs n (read xs) e (λ i h. refl)

read_of : (n : ℕ) (xs : List ℤ) (x : Column) → xs ≡ tab n x → (r : ℕ) → r < n → read xs r ≡ x r
read_of n xs x e r h = rw e (get_or-tab (pos 0) n x r h)

-- ---- passes

pub pass-over : (Fs : List Factor) (f : ℕ) (G : Factor) (xs : List ℤ) → length xs ≡ size Fs → f < length Fs
    → pass_of Fs f xs ≡ pass_over (spacing Fs f) (get_or Fs f G) xs
unfolding pass_of pass_over
pass-over Fs f G xs e h = rw (e, pass-is Fs f G (read xs) h)

pub passes-list : (Fs : List Factor) (calls : List ℕ) (xs : List ℤ) (x : Column) → xs ≡ tab (size Fs) x
    → passes_of Fs calls xs ≡ tab (size Fs) (passes Fs calls x)
unfolding passes_of pass_of passes
passes-list Fs [] xs x e = e
passes-list Fs (f ∷ fs) xs x e =
    passes-list Fs fs (tab (size Fs) (pass Fs f (read xs))) (pass Fs f x)
    (tab-cong (pos 0) (size Fs) (pass Fs f (read xs)) (pass Fs f x) (pass-cong Fs f (read xs) x (read_of (size Fs) xs x e)))

pub passes-more : (Fs : List Factor) (calls : List ℕ) (xs : List ℤ) (n : ℕ) → n < length calls
    → passes_of Fs (take (suc n) calls) xs ≡ pass_of Fs (get_or calls n 0) (passes_of Fs (take n calls) xs)
unfolding passes_of
passes-more Fs [] xs n h = absurd (omega arith)
passes-more Fs (f ∷ fs) xs zero h = refl
passes-more Fs (f ∷ fs) xs (suc n) h = passes-more Fs fs (pass_of Fs f xs) n (omega arith)

pub pass-past : (Fs : List Factor) (f : ℕ) (xs : List ℤ) → length xs ≡ size Fs → length Fs ≤ f → pass_of Fs f xs ≡ xs
unfolding pass_of
pass-past Fs f xs e h = rw (pass-beyond 1 Fs f (read xs) h) (sym (tab-read xs (size Fs) e))

pub order-list : (Fs : List Factor) (calls : List ℕ) (xs : List ℤ) → length xs ≡ size Fs → ((k : ℕ) → k < length Fs → count k calls ≡ 1)
    → passes_of Fs calls xs ≡ totals_of Fs xs
unfolding totals_of
order-list Fs calls xs e h =
    passes-list Fs calls xs (read xs) (tab-read xs (size Fs) e)
    ∙ tab-cong (pos 0) (size Fs) (passes Fs calls (read xs)) (total Fs (read xs)) (λ i p. order Fs calls (read xs) i h p)

-- ---- steps

-- the levels of every factor divide N
steps-from : (N m : ℕ) (Fs : List Factor) (xs : List ℤ) (x : Column) → 0 < m → N ≡ size Fs * m → xs ≡ tab N x
    → steps_of N Fs xs ≡ tab N (steps N Fs x)
unfolding steps_of step_of steps size
steps-from N m [] xs x some e h = h
steps-from N m (F ∷ Fs) xs x some e h =
    steps-from N (m * F.levels) Fs (tab N (step N F (read xs))) (step N F x) (mul-pos some F.some_level) (e ∙ rotated F.levels (size Fs) m)
    (tab-cong (pos 0) N (step N F (read xs)) (step N F x) (λ i _. one i))
  where
    whole : N ≡ F.levels * (size Fs * m)
    whole = e ∙ mul_assoc F.levels (size Fs) m

    one : (i : ℕ) → step N F (read xs) i ≡ step N F x i
    one i =
        rw whole
        (step-cong F (size Fs * m) (read xs) x (mul-pos (size-pos Fs) some) (λ r k. read_of N xs x h r (rw whole k)) i)

pub steps-list : (Fs : List Factor) (xs : List ℤ) → length xs ≡ size Fs → steps_of (size Fs) Fs xs ≡ totals_of Fs xs
unfolding totals_of
steps-list Fs xs e =
    steps-from (size Fs) 1 Fs xs (read xs) (lit< tt) (sym (mul-one (size Fs))) (tab-read xs (size Fs) e)
    ∙ tab-cong (pos 0) (size Fs) (steps (size Fs) Fs (read xs)) (total Fs (read xs)) (λ i p. all-steps Fs (read xs) i p)

pub steps_alike : (k t : ℕ) (F : Factor) (xs : List ℤ) → t ≤ k → length xs ≡ size (replicate k F)
    → steps_of (size (replicate k F)) (replicate t F) xs ≡ tab (size (replicate k F)) (steps (size (replicate k F)) (replicate t F) (read xs))
steps_alike k t F xs h e =
    steps-from (size (replicate k F)) (size (replicate (k - t) F)) (replicate t F) xs (read xs) (size-pos (replicate (k - t) F)) whole
    (tab-read xs (size (replicate k F)) e)
  where
    whole : size (replicate k F) ≡ size (replicate t F) * size (replicate (k - t) F)
    whole =
        rw (size-alike k F, size-alike t F, size-alike (k - t) F, ← (pow-add F.levels t (k - t)))
        (ap (λ n. F.levels ^ n) (omega arith))

pub steps-more : (N : ℕ) (F : Factor) (n : ℕ) (xs : List ℤ) → steps_of N (replicate (suc n) F) xs ≡ step_of N F (steps_of N (replicate n F) xs)
unfolding steps_of
steps-more N F zero xs = refl
steps-more N F (suc n) xs = steps-more N F n (step_of N F xs)
