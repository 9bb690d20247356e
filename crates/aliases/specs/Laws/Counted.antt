-- The loop that counts the replaced letters with sign 1, and the numbers of the alias call.
--
--   Counted, counted_none, counted-more, counted-all
--                the loop that counts the replaced letters with sign 1
--   alias-two    of an accepted plan of two levels only refusal 10 is left
use Rattle.std.specs.Prelude.{◌≡◌, refl, Bool, true, false, ◌&&◌, List, ℕ, ◌+◌, ◌<◌, ◌≤◌, get_or}
use Rattle.std.proofs.Math.Path.{ap}
use Rattle.std.proofs.Common.{◌∙◌, add-one, arith, ne_eqb}
use Rattle.std.proofs.Math.Bool.{cond}
use Rattle.std.proofs.Math.Dec.{eqb}
use Rattle.std.proofs.Math.ListN.{length}
use Rattle.algebra.specs.Naturals.{Σℕ}
use Rattle.plan.specs.declared.types.Plan.{Plan}
use Rattle.words.specs.Words.{has, beyond}
use Rattle.plan.specs.Plan.{all_letters}
use Rattle.plan.specs.Check.{plan_refused}
use Rattle.aliases.specs.Alias.{sign_ones, alias_refused}
use Rattle.plan.proofs.Laws.Answers.{after-plan}

-- of the first j added factors, n are replaced and have sign 1
pub record Counted (replaced : ℕ) (signs : List ℕ) (j n : ℕ) : Type 0 where
  pub within : j ≤ length signs
  pub few : n ≤ j
  pub so : n ≡ Σℕ j (λ i. cond (has replaced i && eqb (get_or signs i 0) 1) 1 0)

pub counted_none : (replaced : ℕ) (signs : List ℕ) → Counted replaced signs 0 0
unfolding Σℕ
counted_none replaced signs = record { within = omega arith; few = omega arith; so = refl }

one_at_most : (b : Bool) → cond b 1 0 ≤ 1
one_at_most true = omega arith
one_at_most false = omega arith

module _ {replaced : ℕ} {signs : List ℕ} {j n : ℕ} (w : Counted replaced signs j n) where
  pub counted-more : j < length signs → (one : ℕ) {b : Bool} → b ≡ has replaced j → one ≡ cond (b && eqb (get_or signs j 0) 1) 1 0
      → Counted replaced signs (j + 1) (n + one)
  unfolding Σℕ
  counted-more h one {b} t e = record {
    within = omega arith;
    few = omega (arith, w.few, e, one_at_most (b && eqb (get_or signs j 0) 1));
    so = rw (add-one j, ← w.so, ← t, e) refl;
  }

  pub counted-all : length signs ≤ j → n ≡ sign_ones replaced signs
  unfolding sign_ones
  counted-all h = let e : j ≡ length signs = omega (arith, w.within) in w.so ∙ ap (λ (m : ℕ). Σℕ m (λ i. cond (has replaced i && eqb (get_or signs i 0) 1) 1 0)) e

pub alias-two : (p : Plan) (e : ℕ) → plan_refused p ≡ 0 → (p.levels ≡ 3 → ⊥) → alias_refused p e ≡ cond (beyond (all_letters p) e) 10 0
unfolding alias_refused
alias-two p e z t = after-plan p _ z ∙ rw (ne_eqb p.levels 3 t) refl
