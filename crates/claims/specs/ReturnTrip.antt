-- D2.11, T32 to T34, N14, L15: "Given a plan and N totals, write the N readings. The call succeeds exactly when readings within the limit exist
-- that have those totals. Demand 2 now covers this return trip. Errors: 14, no such readings exist, after 11; no 12 here."; "Recovery gives the N
-- run sums, within r times the reading limit." Stated by what the plan check, the totals call, the pass call and the recovery call promise.
--
--   Have p readings ts         the readings have the totals ts, as the totals call gives them; so they are N r, and within the limit
--   answer, left               what the recovery call answers, and the column that it leaves
--   WrongLengths p ts column   the totals, or the places of the column, are not N
--   Reason p ts column n       what a refusal with the number n is for
--   Returned p ts column       what is claimed of a recovery
--   ReturnTrip                 THE CLAIM
--
-- Of other files: `run_sums_of` is the sum of each run's readings; `RunSums` N sums within r times the limit; `EachOnce` a list of pass calls that names
-- each base factor once; `after_calls` the column after such calls.
use Rattle.std.specs.Prelude.{◌≡◌, ◌⊎◌, List, ℕ, ℤ, length}
use Rattle.plan.specs.declared.types.Plan.{Plan}
use Rattle.plan.specs.Outcome.{Outcome, given, refused}
use Rattle.plan.specs.Plan.{runs_of, run_sums_of}
use Rattle.promises.specs.Promised.{promised_check, promised_totals, promised_recover}
use Rattle.claims.specs.AnyOrder.{RunSums, EachOnce, after_calls}

-- T33: "readings within the limit [..] that have those totals": for some column that it is lent, the totals call is done and leaves ts. It takes N r
-- readings within the limit and no others, sums those of each run, and leaves the report's totals
abbrev pub Have : Plan → List ℤ → List ℤ → Type 0
Have p readings ts = (column : List ℤ) × (promised_totals p readings column ≡ record { answer = given tt; column = ts })

abbrev pub answer : Plan → List ℤ → List ℤ → Outcome Unit
answer p ts column = (promised_recover p ts column).answer

abbrev pub left : Plan → List ℤ → List ℤ → List ℤ
left p ts column = (promised_recover p ts column).column

-- N11: "totals [..] not N", or a column for readings that has not N places
abbrev pub WrongLengths : Plan → List ℤ → List ℤ → Type 0
WrongLengths p ts column = (length ts ≡ runs_of p → ⊥) ⊎ (length column ≡ runs_of p → ⊥)

-- L15: the plan's own numbers, then "14, no such readings exist, after 11; no 12 here"
abbrev pub Reason : Plan → List ℤ → List ℤ → ℕ → Type 0
Reason p ts column n =
    (promised_check p ≡ refused n) ⊎ (((n ≡ 11) × WrongLengths p ts column) ⊎ ((n ≡ 14) × ((readings : List ℤ) → Have p readings ts → ⊥)))

pub record Returned (p : Plan) (ts column : List ℤ) : Type 0 where
  -- T33: "exactly when" is the first two together: it succeeds whenever there are such readings, with a column of N places; whichever they are, their
  -- run sums are what it writes
  pub whenever : (readings : List ℤ) → Have p readings ts → length column ≡ runs_of p
      → promised_recover p ts column ≡ record { answer = given tt; column = run_sums_of p readings }
  -- and it succeeds only where readings within the limit exist that have those totals
  pub only : answer p ts column ≡ given tt → (readings : List ℤ) × Have p readings ts × (left p ts column ≡ run_sums_of p readings)
  -- T34: it gives "the N run sums, within r times the reading limit" ..
  pub sums : answer p ts column ≡ given tt → RunSums p (left p ts column)
  -- .. and any such come back from the totals that passes, in any order, make of them
  pub any-sums : promised_check p ≡ given tt → (xs : List ℤ) → RunSums p xs → (calls : List ℕ) → EachOnce p calls → after_calls p calls xs ≡ ts
      → length column ≡ runs_of p → promised_recover p ts column ≡ record { answer = given tt; column = xs }
  -- D2.11: the trip back: passes over what is written, in any order, end as the totals
  pub back : answer p ts column ≡ given tt → (calls : List ℕ) → EachOnce p calls → after_calls p calls (left p ts column) ≡ ts
  -- T32: of runs that are made once it writes the readings themselves: they have the totals, and no others have. So recovery after the totals call
  -- gives the readings, and the totals call after recovery the totals
  pub once : p.repeats ≡ 1 → answer p ts column ≡ given tt
      → Have p (left p ts column) ts × ((readings : List ℤ) → Have p readings ts → readings ≡ left p ts column)
  -- L15: the plan's own numbers come first, then 11 ..
  pub plan-first : (n : ℕ) → promised_check p ≡ refused n → answer p ts column ≡ refused n
  pub lengths : promised_check p ≡ given tt → WrongLengths p ts column → answer p ts column ≡ refused 11
  -- N14: .. then "14, no such readings exist" ..
  pub none : promised_check p ≡ given tt → length ts ≡ runs_of p → length column ≡ runs_of p
      → ((readings : List ℤ) → Have p readings ts → ⊥) → answer p ts column ≡ refused 14
  -- .. each number for its own reason alone, and "no 12 here"
  pub reasons : (n : ℕ) → answer p ts column ≡ refused n → Reason p ts column n
  pub no-twelve : answer p ts column ≡ refused 12 → ⊥
  -- D1.8: "and then writes nothing at all"
  pub unwritten : (n : ℕ) → answer p ts column ≡ refused n → left p ts column ≡ column

abbrev pub ReturnTrip : Type 0
ReturnTrip = (p : Plan) (ts column : List ℤ) → Returned p ts column
