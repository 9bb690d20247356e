-- What every call answers: its values, or the number of its refusal, the first that applies in the order of checks.
--
--   Refusal, lowest         a refusal: its number, and whether its condition holds; the number of the first that holds
--   order                   the numbers of all refusals, those of requests to come among them, in the order of checks
--   place numbers n         the place of n among these numbers
--   rank n                  the place of number n in the order of checks
--   rising last refusals    the numbers of the refusals stand in the order of checks, at place `last` or after it
--   applies m refusals      a refusal of number m is one of these, and holds
--   Lowest n refusals       n is the first number in the order of checks that applies of these refusals, and 0 where none does
--   Outcome, refused_of     a call's values, or the number of its refusal
--   outcome n v             the answer of a call whose number is n, and whose values are v where n is 0
--   written n new old       what such a call leaves in a slice that it is lent to write
use Rattle.std.specs.Prelude.{Bool, true, false, cond, ◌&&◌, ◌||◌, List, [], ◌∷◌, ◌≡◌, ℕ, suc, ◌<◌, eqb, leb, length}

pub data Refusal : Type 0 where
  refusal : ℕ → Bool → Refusal

-- L1: "The lowest number that applies is returned alone": of refusals in the order of checks the first that holds, 0 where none does
abbrev pub lowest : List Refusal → ℕ
lowest [] = 0
lowest (refusal n holds ∷ rest) = cond holds n (lowest rest)

-- ---- the order of checks

-- L12: "an order of checks named in a request goes before lowest first". It is one order for all calls: 16 comes "after 8" (request 7),
-- 21 "after 16" (request 12), 15 "after 11; then 12" (request 5), 14 "after 11" (request 2), and all other numbers lowest first
abbrev pub order : List ℕ
order = 1 ∷ 2 ∷ 3 ∷ 4 ∷ 5 ∷ 6 ∷ 7 ∷ 8 ∷ 16 ∷ 21 ∷ 9 ∷ 10 ∷ 11 ∷ 15 ∷ 12 ∷ 13 ∷ 14 ∷ 17 ∷ 18 ∷ 19 ∷ 20 ∷ []

-- the place of a number in a list, from 1 on; a number that is not there comes after all that are
abbrev pub place : List ℕ → ℕ → ℕ
place [] n = 1
place (m ∷ rest) n = cond (eqb n m) 1 (suc (place rest n))

-- L12
unfoldable pub rank : ℕ → ℕ
rank n = place order n

-- L1, L12: each number is one of the order, and stands there at the place of the one before it or after that; where the refusals stand so,
-- the first that holds is the first of the order that applies (`Laws/Lowest.antt`)
abbrev pub rising : ℕ → List Refusal → Bool
rising last [] = true
rising last (refusal n holds ∷ rest) = leb last (rank n) && (leb (rank n) (length order) && rising (rank n) rest)

-- L1
abbrev pub applies : ℕ → List Refusal → Bool
applies m [] = false
applies m (refusal n holds ∷ rest) = (eqb m n && holds) || applies m rest

-- L1, L12: a number is the first in the order of checks that applies, and 0 where none does
pub record Lowest (n : ℕ) (refusals : List Refusal) : Type 0 where
  pub own : (n ≡ 0 → ⊥) → applies n refusals ≡ true
  pub below : (m : ℕ) → rank m < rank n → applies m refusals ≡ false
  pub none : n ≡ 0 → (m : ℕ) → applies m refusals ≡ false

-- ---- the answer

-- D1.6: "it refuses faulty input with one of thirteen numbers", which "new numbers join"
pub data Outcome (A : Type 0) : Type 0 where
  given : A → Outcome A
  refused : ℕ → Outcome A

-- the table's number, 0 where nothing is refused
abbrev pub refused_of : {A : Type 0} → Outcome A → ℕ
refused_of (given v) = 0
refused_of (refused n) = n

abbrev pub outcome : {A : Type 0} → ℕ → A → Outcome A
outcome n v = cond (eqb n 0) (given v) (refused n)

-- L2: "and no lent place changes"; D1.8: "writes nothing at all"
abbrev pub written : {A : Type 0} → ℕ → A → A → A
written n new old = cond (eqb n 0) new old
