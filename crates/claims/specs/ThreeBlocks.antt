-- P14, P15, R11, R12, V17 to V20, N4 to N9: three-level plans in three blocks, by what the check, the run call and the table call give, and by the
-- plan's own fields.
--
--   word p, digit w i          the first of the plan's block words, and its digit i, A's being digit 0
--   level run i                the level of factor i in a run
--   Lawful k w, LawfulWord     CLAIM: the digit rule, and that the check goes by it
--   three_refusals p           what is refused of a three-level plan
--   runs_in p j                how many runs block j has
--   sum_of p readings j         the sum of the readings of block j
--   sum_of_all p readings      the sum of all readings
--   squared z                  the square of a number
--   InThree p                  a three-level plan that is accepted
--   RunsOf p                   what the run call gives of the runs of such a plan
--   HasWord p                  one that has a block word
--   BlocksOf p                 what the word does: each block has a third of the runs, and what blocks differ by stays in one row
--   Amount p readings marks totals rows    what the table call gives then
--   ThreeBlocks                THE CLAIM
--   WithoutWord                CLAIM: tables of other plans have no block amount
use Rattle.std.specs.Prelude.{◌≡◌, ◌⊎◌, cond, false, ◌||◌, List, [], ◌∷◌, ℕ, ◌+◌, ◌*◌, ◌/◌, ◌%◌, ◌^◌, ◌<◌, ◌≤◌, eqb, ltb, ℤ, pos, nat_abs, ◌+ℤ◌, length, get_or}
use Rattle.algebra.specs.Naturals.{Σℕ}
use Rattle.algebra.specs.Sum.{Σ}
use Rattle.contrasts.specs.Columns.{read}
use Rattle.contrasts.specs.Rows.{row_of, degrees_of, row_numerator}
use Rattle.contrasts.specs.Totals.{Column, total}
use Rattle.words.specs.Words.{any}
use Rattle.plan.specs.declared.types.Plan.{Plan}
use Rattle.plan.specs.Check.{bad_digits, bad_repeats, plan_refused}
use Rattle.plan.specs.Outcome.{Refusal, refusal, lowest}
use Rattle.plan.specs.Plan.{three_words, word_row, factors_of, runs_of, all_readings, run_sums_of}
use Rattle.rows.specs.Kinds.{blocks_row, kind_by_mark, kind_of, bad_mark}
use Rattle.runs.specs.Run.{run_refused}
use Rattle.anova.specs.Table.{row_degrees, row_left, source_of, table_refused, table_figures, table_totals, table_rows}
use Rattle.claims.specs.Letters.{high, block}
use Rattle.claims.specs.SumOfSquares.{numerator_in}

-- ---- words

abbrev pub word : Plan → ℕ
word p = get_or p.blockwords 0 0

-- P15: "a number in base 3 of k digits, A lowest"
abbrev pub digit : ℕ → ℕ → ℕ
digit w i = w / 3 ^ i % 3

-- R2: "Run numbers have A as the lowest digit"
abbrev pub level : ℕ → ℕ → ℕ
level run i = run / 3 ^ i % 3

-- P15: "a number in base 3 of k digits, A lowest, with at least two digits not zero and the lowest such digit equal to 1": that at `place`
pub record Lawful (k w : ℕ) : Type 0 where
  pub digits : w < 3 ^ k
  pub two : 2 ≤ Σℕ k (λ i. cond (eqb (digit w i) 0) 0 1)
  pub place : ℕ
  pub inside : place < k
  pub one : digit w place ≡ 1
  pub none_below : (i : ℕ) → i < place → digit w i ≡ 0

-- N5: "a word that breaks the digit rule"
abbrev pub LawfulWord : Type 0
LawfulWord = (k w : ℕ) → (bad_digits k w ≡ false → Lawful k w) × (Lawful k w → bad_digits k w ≡ false)

-- "Errors, at three levels: 4 for an added factor or a second block word [..]; 5 only for a word that breaks the digit rule; no 7 or 8"; there is no 6
-- either
abbrev pub three_refusals : Plan → List Refusal
three_refusals p =
    refusal 3 (eqb p.k 0 || ltb 6 p.k)
    ∷ refusal 4 (ltb 0 p.added || ltb 1 p.blocks)
    ∷ refusal 5 (any (bad_digits p.k) (three_words p))
    ∷ refusal 16 (bad_repeats (runs_of p) p.repeats)
    ∷ []

-- ---- runs and blocks

abbrev pub runs_in : Plan → ℕ → ℕ
runs_in p j = Σℕ (runs_of p) (λ run. cond (eqb (block p run) j) 1 0)

-- R10: a run's readings stand together, so that the one at place i is of run i / p.repeats
abbrev pub sum_of : Plan → List ℤ → ℕ → ℤ
sum_of p readings j = Σ (all_readings p) (λ i. cond (eqb (block p (i / p.repeats)) j) (read readings i) (pos 0))

abbrev pub sum_of_all : Plan → List ℤ → ℤ
sum_of_all p readings = Σ (all_readings p) (read readings)

abbrev pub squared : ℤ → ℕ
squared z = nat_abs z * nat_abs z

pub record InThree (p : Plan) : Type 0 where
  pub accepted : plan_refused p ≡ 0
  pub three : p.levels ≡ 3

pub record RunsOf (p : Plan) : Type 0 where
  -- R12: "The run call takes three-level plans too": "no 9 from the run call"; N10
  pub answered : (run : ℕ) → run < runs_of p → run_refused p run ≡ 0
  pub beyond : (run : ℕ) → runs_of p ≤ run → run_refused p run ≡ 10
  -- R12: "no letters"
  pub no-letters : (run : ℕ) → high p run ≡ 0
  -- R12: "the block, 0 without a word"
  pub without-word : p.blocks ≡ 0 → (run : ℕ) → block p run ≡ 0

-- the places of its block words are there, as they are in every plan that a call is given
pub record HasWord (p : Plan) : Type 0 where
  pub in_three : InThree p
  pub one : p.blocks ≡ 1
  pub placed : 0 < length p.blockwords

pub record BlocksOf (p : Plan) : Type 0 where
  pub lawful : Lawful p.k (word p)
  -- R11: "A run's block is the sum of digit times level, modulo 3."
  pub the_block : (run : ℕ) → block p run ≡ Σℕ p.k (λ i. digit (word p) i * level run i) % 3
  pub third : (j : ℕ) → j < 3 → 3 * runs_in p j ≡ runs_of p
  -- V18: "the row of the letters used"
  pub the_row : word_row p ≡ row_of (factors_of p) (word p)
  -- adding a number of its own to all readings of each block changes no total but those of the mean and of that row
  pub untouched : (x : Column) (h : ℕ → ℤ) (e : ℕ) → (row_of (factors_of p) e ≡ 0 → ⊥) → (row_of (factors_of p) e ≡ word_row p → ⊥)
      → total (factors_of p) (λ run. x run +ℤ h (block p run)) e ≡ total (factors_of p) x e

-- ---- the table

pub record Amount (p : Plan) (readings : List ℤ) (marks : List ℕ) (totals : List ℤ) (rows : List ℕ) : Type 0 where
  -- V18: "with 2 degrees"
  pub degrees : (table_figures p readings marks).blocks.degrees ≡ 2
  -- V17: "the sum over blocks of the squared block sum over its number of readings, less the mean's square term", over the table's denominator; times
  -- the number of all readings, of which each block has a third
  pub amount : all_readings p * (table_figures p readings marks).blocks.numerator + (table_figures p readings marks).denominator * squared (sum_of_all p readings)
      ≡ (table_figures p readings marks).denominator * (3 * Σℕ 3 (λ j. squared (sum_of p readings j)))
  -- V18 to V20: "It leaves the row of the letters used, with 2 degrees, and goes to the blocks line. That row [..] holds the remainder": what is left of
  -- its effects' numerators, which "is never negative"
  pub remainder : get_or (table_rows p readings marks totals rows) (word_row p) 0 + (table_figures p readings marks).blocks.numerator
      ≡ Σℕ (runs_of p) (λ e. cond (eqb (row_of (factors_of p) e) (word_row p)) (numerator_in p (table_totals p readings marks totals rows) e) 0)
  pub degrees-left : row_degrees p (word_row p) + 2 ≡ degrees_of (factors_of p) (word_row p)
  -- V19: "printed without `blocks`": no row of these plans is of that kind; "and may be marked as error"
  pub not-blocks : (w : ℕ) → kind_of p marks w ≡ blocks_row → ⊥
  pub by-mark : kind_of p marks (word_row p) ≡ kind_by_mark (get_or marks (word_row p) 0)
  pub markable : bad_mark p (word_row p) 1 ≡ false

pub record ThreeBlocks : Type 0 where
  pub refused : (p : Plan) → p.levels ≡ 3 → plan_refused p ≡ lowest (three_refusals p)
  pub runs : (p : Plan) → InThree p → RunsOf p
  pub blocks : (p : Plan) → HasWord p → BlocksOf p
  pub table : (p : Plan) (readings : List ℤ) (marks : List ℕ) (totals : List ℤ) (rows : List ℕ) → HasWord p
      → table_refused p readings marks totals rows ≡ 0 → Amount p readings marks totals rows

-- of a plan of other levels than three, and of one without block words, no row leaves anything, and the blocks line has its rows alone
abbrev pub WithoutWord : Type 0
WithoutWord =
    (p : Plan) → (p.levels ≡ 3 → ⊥) ⊎ (p.blocks ≡ 0) → (readings : List ℤ) (marks : List ℕ)
    → ((table_figures p readings marks).blocks ≡ source_of p (run_sums_of p readings) marks blocks_row)
    × ((w : ℕ) → (row_degrees p w ≡ degrees_of (factors_of p) w) × (row_left p (run_sums_of p readings) w ≡ row_numerator (factors_of p) (read (run_sums_of p readings)) w))
