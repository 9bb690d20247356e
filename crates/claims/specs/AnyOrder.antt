-- Demand 3, passes in any order (D3.1 to D3.6, T23 to T27): of calls that name each base factor once, in any order and with any other calls
-- among them, just those are refused that name no base factor; each of the others makes its own pass and no more; and the column ends as the
-- effect totals.
--
--   after_calls p calls column   the column after a list of pass calls, each on what the last one left
--   RunSums p column             a column of N run sums within r times the reading limit
--   EachOnce p calls             the list names each base factor once; other numbers may stand anywhere in it
--   call calls n                 the factor that call n asks for
--   found p calls column n       the column that it finds
--   answer p calls column n      what it answers
--   done_or_ten p f              what a call of the factor f is to answer
--   own_pass p f column          what it is to leave
--   InAnyOrder p column calls    what is claimed of such a list
--   AnyOrder                     THE CLAIM
use Rattle.std.specs.Prelude.{◌≡◌, cond, List, [], ◌∷◌, ℕ, suc, ◌<◌, ltb, ℤ, length, get_or, take}
use Rattle.contrasts.specs.Columns.{AllWithin, pass_of, totals_of}
use Rattle.contrasts.specs.Passes.{count}
use Rattle.plan.specs.declared.types.Plan.{Plan}
use Rattle.plan.specs.Check.{plan_refused}
use Rattle.plan.specs.Outcome.{Outcome, given, refused, outcome}
use Rattle.plan.specs.Plan.{factors_of, runs_of}
use Rattle.plan.specs.Limits.{run_limit}
use Rattle.yates.specs.Calls.{pass_refused, pass_column}

-- D3.3: "Each call works on what the last one left, and nobody else writes": `pass_column` is what the pass call promises to leave
unfoldable pub after_calls : Plan → List ℕ → List ℤ → List ℤ
after_calls p [] column = column
after_calls p (f ∷ fs) column = after_calls p fs (pass_column p f column)

-- D3.1: "a column with one place per run", which "now starts as run sums within r times the reading limit"; with r = 1 these are the
-- readings
pub record RunSums (p : Plan) (column : List ℤ) : Type 0 where
  pub whole : length column ≡ runs_of p
  pub within : AllWithin (run_limit p) column

-- D3.2: "names each base factor exactly once"
abbrev pub EachOnce : Plan → List ℕ → Type 0
EachOnce p calls = (f : ℕ) → f < p.k → count f calls ≡ 1

-- the factor that call n asks for, and the column that it finds
abbrev pub call : List ℕ → ℕ → ℕ
call calls n = get_or calls n 0

abbrev pub found : Plan → List ℕ → List ℤ → ℕ → List ℤ
found p calls column n = after_calls p (take n calls) column

-- what call n answers: `pass_refused` is the first number that applies to it, 0 where it is done
abbrev pub answer : Plan → List ℕ → List ℤ → ℕ → Outcome Unit
answer p calls column n = outcome (pass_refused p (call calls n) (found p calls column n)) tt

-- T25, T26: "A call whose factor is not a base factor gives 10 [..]; every other call in such a list is accepted"
abbrev pub done_or_ten : Plan → ℕ → Outcome Unit
done_or_ten p f = cond (ltb f p.k) (given tt) (refused 10)

-- D3.5, T25: a base factor's call makes its own pass of what it finds, and no more; another one "leaves the column as it was"
abbrev pub own_pass : Plan → ℕ → List ℤ → List ℤ
own_pass p f column = cond (ltb f p.k) (pass_of (factors_of p) f column) column

-- what is claimed of such a list: of each of its calls, and of the whole
pub record InAnyOrder (p : Plan) (column : List ℤ) (calls : List ℕ) : Type 0 where
  -- D3.4: "a call is refused exactly when its factor is no base factor of the plan"; so no call gives 12, or any number but 10
  pub answers : (n : ℕ) → n < length calls → answer p calls column n ≡ done_or_ten p (call calls n)
  -- D3.5: "any other makes the pass of its own factor and no more"
  pub leaves : (n : ℕ) → n < length calls → found p calls column (suc n) ≡ own_pass p (call calls n) (found p calls column n)
  -- D3.6: "and the column ends, place by place, as the report's effect totals"
  pub ends : after_calls p calls column ≡ totals_of (factors_of p) column

-- for every accepted plan, every column of N run sums within r times the reading limit, and every list of calls that names each base factor once
abbrev pub AnyOrder : Type 0
AnyOrder =
    (p : Plan) → plan_refused p ≡ 0
    → (column : List ℤ) → RunSums p column
    → (calls : List ℕ) → EachOnce p calls
    → InAnyOrder p column calls
