-- V21 to V23, L14, N9, N13, N21: "a narrower profile, one more table call, admits a two-level plan exactly when the plan check does and no main
-- effect, base or added, reduces to the same base word as an interaction of two factors. The row of a main effect's base word may not be marked
-- as error; the table is otherwise ordinary. Errors: 9 at three levels; 21, two effects meet as described, after 16; 13 also for a marked main
-- effect.", by what the plan check, the alias call, the table call and the screening call give.
--
--   ReducesTo p e w            the effect of the letters e reduces to the base word w
--   SameWord p e f             two effects reduce to one base word
--   MeetAt p m i j, Meet p     the main effect of m and the interaction of i and j do; some such do
--   MarkedAt, MarkedMain       the row of the base word of factor m's main effect has mark 1; that of some factor's has
--   Screens p                  the plan is one of two levels that the plan check accepts, and nothing meets
--   Admitted p                 the screening call makes a table of the plan, for some readings, marks and columns
--   Admits                     CLAIM: it does exactly where `Screens` holds
--   Screened ..                what the screening call answers and leaves, in every case
--   Screening                  THE CLAIM
--   CombineAt, ThreeCombine    the words of the factors i, j and l combine to the empty word; those of some three do
--   AboveThree                 CLAIM: nothing meets exactly when there are no three such factors
use Rattle.std.specs.Prelude.{◌≡◌, Bool, List, ℕ, ◌+◌, ◌^◌, ◌<◌, ℤ, get_or}
use Rattle.plan.specs.declared.types.Plan.{Plan}
use Rattle.plan.specs.Outcome.{given, refused}
use Rattle.plan.specs.Plan.{all_letters}
use Rattle.anova.specs.declared.types.Figures.{Figures}
use Rattle.promises.specs.Promised.{promised_check, promised_alias, promised_table, promised_screen}

-- ---- effects that meet

-- E8, E9: as the alias call gives it, with either sign
abbrev pub ReducesTo : Plan → ℕ → ℕ → Type 0
ReducesTo p e w = (turned : Bool) × (promised_alias p e ≡ given (w, turned))

abbrev pub SameWord : Plan → ℕ → ℕ → Type 0
SameWord p e f = (w : ℕ) × ReducesTo p e w × ReducesTo p f w

-- V21: "main effect, base or added": that of factor m, one of all the plan's; "an interaction of two factors": of any two, i and j
pub record MeetAt (p : Plan) (m i j : ℕ) : Type 0 where
  pub main : m < all_letters p
  pub pair : (i < j) × (j < all_letters p)
  pub same : SameWord p (2 ^ m) (2 ^ i + 2 ^ j)

abbrev pub Meet : Plan → Type 0
Meet p = (m : ℕ) × (i : ℕ) × (j : ℕ) × MeetAt p m i j

-- V22: "The row of a main effect's base word"
pub record MarkedAt (p : Plan) (marks : List ℕ) (m w : ℕ) : Type 0 where
  pub main : m < all_letters p
  pub word : ReducesTo p (2 ^ m) w
  pub mark : get_or marks w 0 ≡ 1

abbrev pub MarkedMain : Plan → List ℕ → Type 0
MarkedMain p marks = (m : ℕ) × (w : ℕ) × MarkedAt p marks m w

-- ---- the profile

-- V21: "a two-level plan exactly when the plan check does and no main effect, base or added, reduces to the same base word as an interaction of
-- two factors"
pub record Screens (p : Plan) : Type 0 where
  pub two : p.levels ≡ 2
  pub accepted : promised_check p ≡ given tt
  pub nothing-meets : Meet p → ⊥

abbrev pub Admitted : Plan → Type 0
Admitted p =
    (readings : List ℤ) × (marks : List ℕ) × (totals : List ℤ) × (rows : List ℕ) × (f : Figures)
    × ((promised_screen p readings marks totals rows).answer ≡ given f)

-- V21: "admits a two-level plan exactly when [..]"
abbrev pub Admits : Type 0
Admits = (p : Plan) → (Admitted p → Screens p) × (Screens p → Admitted p)

pub record Screened (p : Plan) (readings : List ℤ) (marks : List ℕ) (totals : List ℤ) (rows : List ℕ) : Type 0 where
  -- V21 to V23: it makes a table of no other plan, nor where a main effect is marked; and where it makes one, so does the table call, with the
  -- same figures
  pub only : (f : Figures) → (promised_screen p readings marks totals rows).answer ≡ given f
      → Screens p × (MarkedMain p marks → ⊥) × ((promised_table p readings marks totals rows).answer ≡ given f)
  -- V23: "the table is otherwise ordinary": where the profile admits the plan and no main effect is marked, answer, totals and rows are the table
  -- call's, its refusals too
  pub ordinary : Screens p → (MarkedMain p marks → ⊥) → promised_screen p readings marks totals rows ≡ promised_table p readings marks totals rows
  -- N13, V22: "13 also for a marked main effect", where the table call would make the table; its own refusals stay
  pub marked : Screens p → MarkedMain p marks → (f : Figures) → (promised_table p readings marks totals rows).answer ≡ given f
      → (promised_screen p readings marks totals rows).answer ≡ refused 13
  pub table-refusals : Screens p → (n : ℕ) → (promised_table p readings marks totals rows).answer ≡ refused n
      → (promised_screen p readings marks totals rows).answer ≡ refused n
  -- L14: the plan's own numbers, 16 among them, come first ..
  pub plan-first : (n : ℕ) → promised_check p ≡ refused n → (promised_screen p readings marks totals rows).answer ≡ refused n
  -- N21: .. then 21, whatever else applies ..
  pub meeting : promised_check p ≡ given tt → Meet p → (promised_screen p readings marks totals rows).answer ≡ refused 21
  -- N9: .. and 9 at three levels, where nothing meets
  pub three-levels : promised_check p ≡ given tt → p.levels ≡ 3 → (promised_screen p readings marks totals rows).answer ≡ refused 9
  -- D1.8: "and then writes nothing at all"
  pub unwritten : (n : ℕ) → (promised_screen p readings marks totals rows).answer ≡ refused n
      → ((promised_screen p readings marks totals rows).totals ≡ totals) × ((promised_screen p readings marks totals rows).rows ≡ rows)

abbrev pub Screening : Type 0
Screening = (p : Plan) (readings : List ℤ) (marks : List ℕ) (totals : List ℤ) (rows : List ℕ) → Screened p readings marks totals rows

-- ---- for readers: resolution above III, as the trade says. That no factor's word is empty and no two are the same, refusals 5 and 6 see to

-- the effect of the letters of three factors reduces to the empty word
pub record CombineAt (p : Plan) (i j l : ℕ) : Type 0 where
  pub factors : (i < j) × (j < l) × (l < all_letters p)
  pub nothing : ReducesTo p (2 ^ i + 2 ^ j + 2 ^ l) 0

abbrev pub ThreeCombine : Plan → Type 0
ThreeCombine p = (i : ℕ) × (j : ℕ) × (l : ℕ) × CombineAt p i j l

abbrev pub AboveThree : Type 0
AboveThree =
    (p : Plan) → promised_check p ≡ given tt → p.levels ≡ 2 → (Meet p → ThreeCombine p) × (ThreeCombine p → Meet p)
