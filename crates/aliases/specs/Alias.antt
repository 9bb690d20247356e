-- The alias call: the base word that an effect of all factors reduces to, and whether the sign turns.
--
--   base_word k words e    the base word
--   sign_ones, odd_signs   how many of the replaced letters have sign 1, and whether that is an odd number
--   turned                 whether the sign turns, high minus low
--   alias_values p e       both, of a plan
--   alias_refusals p e     the refusals of the call besides those of the plan
--   alias_refused p e      the first number that applies, 0 where the alias is given
--   alias_outcome          the cases of the call's answer
use Rattle.std.specs.Prelude.{Result, Bool, cond, not, ◌&&◌, List, [], ◌∷◌, ℕ, ◌/◌, ◌%◌, ◌^◌, eqb, length, get_or}
use Rattle.algebra.specs.Naturals.{Σℕ}
use Rattle.algebra.specs.Tests.{differ}
use Rattle.plan.specs.declared.types.Plan.{Plan}
use Rattle.aliases.specs.declared.types.Alias.{Alias}
use Rattle.plan.specs.declared.refusals.Refusal as refusals
use Rattle.plan.specs.Refusals.{outcome_by}
use Rattle.plan.specs.Outcome.{Refusal, refusal, Outcome}
use Rattle.words.specs.Words.{has, odd, odd_word, beyond, combined}
use Rattle.plan.specs.Plan.{added_words, added_signs, all_letters}
use Rattle.plan.specs.Check.{with_plan}

-- E9: "Each added letter is replaced by its word": the effect's base letters are combined with the words that its added letters choose.
unfoldable pub base_word : ℕ → List ℕ → ℕ → ℕ
base_word k words e = combined (e % 2 ^ k) (e / 2 ^ k) words

-- E10: "the number of replaced letters with sign 1"
unfoldable pub sign_ones : ℕ → List ℕ → ℕ
sign_ones replaced signs = Σℕ (length signs) (λ j. cond (has replaced j && eqb (get_or signs j 0) 1) 1 0)

-- E10: "is odd": the turn with the report's signs, low minus high
unfoldable pub odd_signs : ℕ → List ℕ → ℕ → Bool
odd_signs k signs e = odd (sign_ones (e / 2 ^ k) signs)

-- E10: "The alias call's turn is reversed when the effect and its base word differ in being odd or even.": the turn with the signs that
-- journals print, high minus low
unfoldable pub turned : ℕ → List ℕ → List ℕ → ℕ → Bool
turned k words signs e =
    let reversed = differ (odd_word e) (odd_word (base_word k words e)) in
    cond reversed (not (odd_signs k signs e)) (odd_signs k signs e)

-- E8: the values of the alias call
abbrev pub alias_values : Plan → ℕ → ℕ × Bool
alias_values p e = (base_word p.k (added_words p) e, turned p.k (added_words p) (added_signs p) e)

-- L7: "the run and alias calls 9, 10"
-- N9: "estimate, alias [..] asked at three levels"; N10: "alias letter [..] not in the plan"
abbrev pub alias_refusals : Plan → ℕ → List Refusal
alias_refusals p e = refusal 9 (eqb p.levels 3) ∷ refusal 10 (beyond (all_letters p) e) ∷ []

unfoldable pub alias_refused : Plan → ℕ → ℕ
alias_refused p e = with_plan p (alias_refusals p e)

-- F12
abbrev pub alias_outcome : Result Alias refusals.Refusal → Outcome (ℕ × Bool)
alias_outcome answer = outcome_by (λ (alias : Alias). (alias.word, alias.turned)) answer
