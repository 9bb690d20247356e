-- The first number that applies in the order of checks: of refusals that stand in that order, the first that holds.
--
--   is-lowest           `lowest` gives it, where the refusals stand in the order
--   with-plan           the number of a call on a plan is that of the plan's refusals and its own, in one list
--   lowest-with-plan    so it is the first of the order that applies of all these
use Rattle.std.specs.Prelude.{◌≡◌, refl, Bool, true, false, cond, ◌&&◌, ◌||◌, List, [], ◌∷◌, ◌++◌, ℕ, ◌<◌, ◌≤◌, T, eqb, leb, length}
use Rattle.std.proofs.Common.{ap, arith, eq-eqb, ne_eqb, leb→le}
use Rattle.algebra.specs.Laws.Tests.{and_left, and_right}
use Rattle.plan.specs.declared.types.Plan.{Plan}
use Rattle.plan.specs.Outcome.{Refusal, refusal, lowest, order, rank, rising, applies, Lowest}
use Rattle.plan.specs.Check.{plan_refusals, plan_refused, with_plan}

-- ---- refusals in the order of checks

-- the first number stands at place `last` or after it, and those after it rise from its own place on
from : (last n : ℕ) (holds : Bool) (rest : List Refusal) → T (rising last (refusal n holds ∷ rest)) → last ≤ rank n
from last n holds rest t = leb→le last (rank n) (and_left (leb last (rank n)) (leb (rank n) (length order) && rising (rank n) rest) t)

ordered : (last n : ℕ) (holds : Bool) (rest : List Refusal) → T (rising last (refusal n holds ∷ rest))
    → T (leb (rank n) (length order) && rising (rank n) rest)
ordered last n holds rest t = and_right (leb last (rank n)) (leb (rank n) (length order) && rising (rank n) rest) t

after : (last n : ℕ) (holds : Bool) (rest : List Refusal) → T (rising last (refusal n holds ∷ rest)) → T (rising (rank n) rest)
after last n holds rest t = and_right (leb (rank n) (length order)) (rising (rank n) rest) (ordered last n holds rest t)

-- 0 is not one of the order, so the first number is not 0
past : length order < rank 0
unfolding rank
past = omega arith

not-zero : (last n : ℕ) (holds : Bool) (rest : List Refusal) → T (rising last (refusal n holds ∷ rest)) → n ≡ 0 → ⊥
not-zero last n holds rest t e =
    let l = leb→le (rank n) (length order) (and_left (leb (rank n) (length order)) (rising (rank n) rest) (ordered last n holds rest t)) in
    omega (arith, l, ap rank e, past)

-- a number that comes before another is another
other : (m n : ℕ) → rank m < rank n → m ≡ n → ⊥
other m n h e = omega (arith, h, ap rank e)

-- a refusal that does not hold may be left out, and so may one of another number
idle : (b c : Bool) → c ≡ false → ((b && false) || c) ≡ false
idle true c e = e
idle false c e = e

idle-true : (b c : Bool) → c ≡ true → ((b && false) || c) ≡ true
idle-true true c e = e
idle-true false c e = e

-- no number that comes before place `last` applies
low : (refusals : List Refusal) (last m : ℕ) → T (rising last refusals) → rank m < last → applies m refusals ≡ false
low [] last m t h = refl
low (refusal n holds ∷ rest) last m t h =
    let l = from last n holds rest t in
    let earlier : rank m < rank n = omega (arith, l, h) in
    rw (ne_eqb m n (other m n earlier)) (low rest (rank n) m (after last n holds rest t) earlier)

first-own : (refusals : List Refusal) → (lowest refusals ≡ 0 → ⊥) → applies (lowest refusals) refusals ≡ true
first-own [] h = absurd (h refl)
first-own (refusal n true ∷ rest) h = rw (eq-eqb n n refl) refl
first-own (refusal n false ∷ rest) h = idle-true (eqb (lowest rest) n) (applies (lowest rest) rest) (first-own rest h)

first_below : (refusals : List Refusal) (last : ℕ) → T (rising last refusals) → (m : ℕ) → rank m < rank (lowest refusals) → applies m refusals ≡ false
first_below [] last t m h = refl
first_below (refusal n true ∷ rest) last t m h = rw (ne_eqb m n (other m n h)) (low rest (rank n) m (after last n true rest t) h)
first_below (refusal n false ∷ rest) last t m h = idle (eqb m n) (applies m rest) (first_below rest (rank n) (after last n false rest t) m h)

first-none : (refusals : List Refusal) (last : ℕ) → T (rising last refusals) → lowest refusals ≡ 0 → (m : ℕ) → applies m refusals ≡ false
first-none [] last t e m = refl
first-none (refusal n true ∷ rest) last t e m = absurd (not-zero last n true rest t e)
first-none (refusal n false ∷ rest) last t e m = idle (eqb m n) (applies m rest) (first-none rest (rank n) (after last n false rest t) e m)

pub is-lowest : (refusals : List Refusal) → T (rising 0 refusals) → Lowest (lowest refusals) refusals
is-lowest refusals t = record { own = first-own refusals; below = first_below refusals 0 t; none = first-none refusals 0 t }

-- ---- the refusals of a plan before those of a call

joined : (refusals further : List Refusal) (last : ℕ) → T (rising last refusals)
    → cond (eqb (lowest refusals) 0) (lowest further) (lowest refusals) ≡ lowest (refusals ++ further)
joined [] further last t = refl
joined (refusal n true ∷ rest) further last t = rw (ne_eqb n 0 (not-zero last n true rest t)) refl
joined (refusal n false ∷ rest) further last t = joined rest further (rank n) (after last n false rest t)

pub with-plan : (p : Plan) (further : List Refusal) → with_plan p further ≡ lowest (plan_refusals p ++ further)
unfolding with_plan plan_refused rank
with-plan p further = joined (plan_refusals p) further 0 tt

pub lowest-with-plan : (p : Plan) (further : List Refusal) → T (rising 0 (plan_refusals p ++ further)) → Lowest (with_plan p further) (plan_refusals p ++ further)
lowest-with-plan p further t = rw (with-plan p further) (is-lowest (plan_refusals p ++ further) t)
