-- R13 to R17, L13: "For k from 2 to 5 and one to three block words, write all lists of strictly rising words that the plan check accepts at two
-- levels with no added factor. They come in rising order of first, second and third word, each once, one place per word. The number of lists is
-- returned, and places beyond the last word are untouched.", by what the plan check and the blocking call give.
--
--   block_word p j           block word j of a plan
--   Blocked k b p            a two-level plan of k factors with no added factor and b block words
--   list_word lists i j      word j of list i
--   HasList b lists i p      the block words of the plan are list i
--   TheLists k b lists       which lists these are, and in which order
--   left_at k b column m      what the call leaves at place m of a column
--   Writes k b lists         what the call answers and leaves where k and b are in their ranges
--   EveryBlocking            THE CLAIM
--   OutOfRange               CLAIM: what it answers and leaves where one of them is not
use Rattle.std.specs.Prelude.{◌≡◌, ◌⊎◌, true, List, [], ℕ, ◌+◌, ◌*◌, ◌^◌, ◌<◌, ◌≤◌, length, get_or}
use Rattle.contrasts.specs.Limits.{is_repeats}
use Rattle.plan.specs.declared.types.Plan.{Plan}
use Rattle.plan.specs.Outcome.{given, refused}
use Rattle.promises.specs.Promised.{promised_check, promised_blockings}

-- ---- plans

abbrev pub block_word : Plan → ℕ → ℕ
block_word p j = get_or p.blockwords j 0

-- R14: "at two levels with no added factor"; the places of the block words are there and hold 16 bits, as in every plan that a call is given;
-- each run is made 1, 2, 4 or 8 times
pub record Blocked (k b : ℕ) (p : Plan) : Type 0 where
  pub two : p.levels ≡ 2
  pub factors : p.k ≡ k
  pub none-added : p.added ≡ 0
  pub blocks : p.blocks ≡ b
  pub placed : b ≤ length p.blockwords
  pub bits : (j : ℕ) → j < b → block_word p j < 2 ^ 16
  pub repeats : is_repeats p.repeats ≡ true

-- ---- the lists

abbrev pub list_word : List (List ℕ) → ℕ → ℕ → ℕ
list_word lists i j = get_or (get_or lists i []) j 0

abbrev pub HasList : ℕ → List (List ℕ) → ℕ → Plan → Type 0
HasList b lists i p = (j : ℕ) → j < b → block_word p j ≡ list_word lists i j

pub record TheLists (k b : ℕ) (lists : List (List ℕ)) : Type 0 where
  -- each word is one of k letters, so that there is a plan with these block words
  pub within : (i j : ℕ) → i < length lists → j < b → list_word lists i j < 2 ^ k
  -- R14: "lists of strictly rising words"
  pub rising : (i j : ℕ) → i < length lists → j + 1 < b → list_word lists i j < list_word lists i (j + 1)
  -- R14: "that the plan check accepts": it accepts every plan whose block words are one of the lists ..
  pub accepted : (i : ℕ) → i < length lists → (p : Plan) → Blocked k b p → HasList b lists i p → promised_check p ≡ given tt
  -- R14: "all": .. and where it accepts a plan whose block words rise, they are one of the lists
  pub all : (p : Plan) → Blocked k b p → ((j : ℕ) → j + 1 < b → block_word p j < block_word p (j + 1)) → promised_check p ≡ given tt
      → (i : ℕ) × (i < length lists) × HasList b lists i p
  -- R15: "in rising order of first, second and third word": at the first place m where two lists differ, the former has the lower word
  pub in-order : (i j : ℕ) → i < j → j < length lists
      → (m : ℕ) × (m < b) × ((l : ℕ) → l < m → list_word lists i l ≡ list_word lists j l) × (list_word lists i m < list_word lists j m)
  -- R15: "each once"
  pub once : (i j : ℕ) → i < j → j < length lists → ((m : ℕ) → m < b → list_word lists i m ≡ list_word lists j m) → ⊥

-- ---- the call

abbrev pub left_at : ℕ → ℕ → List ℕ → ℕ → ℕ
left_at k b column m = get_or (promised_blockings k b column).column m 0

pub record Writes (k b : ℕ) (lists : List (List ℕ)) : Type 0 where
  -- R17: "The number of lists is returned"
  pub answered : (column : List ℕ) → length lists * b ≤ length column → (promised_blockings k b column).answer ≡ given (length lists)
  -- R16: "one place per word"
  pub words : (column : List ℕ) → length lists * b ≤ length column
      → (i j : ℕ) → i < length lists → j < b → left_at k b column (i * b + j) ≡ list_word lists i j
  -- R16: "places beyond the last word are untouched"
  pub untouched : (column : List ℕ) → (m : ℕ) → length lists * b ≤ m → left_at k b column m ≡ get_or column m 0
  -- the column has as many places as before
  pub as_long : (column : List ℕ) → length (promised_blockings k b column).column ≡ length column
  -- N18: "18, fewer places in the lent column than words to write"; L2: nothing is written then
  pub refused-18 : (column : List ℕ) → length column < length lists * b
      → ((promised_blockings k b column).answer ≡ refused 18) × ((promised_blockings k b column).column ≡ column)

-- R13: "For k from 2 to 5 and one to three block words"
abbrev pub EveryBlocking : Type 0
EveryBlocking = (k b : ℕ) → 2 ≤ k → k ≤ 5 → 1 ≤ b → b ≤ 3 → (lists : List (List ℕ)) × TheLists k b lists × Writes k b lists

-- N3: "3, k outside this range"; N17: "17, word count outside it"; L13: in this order, and before anything is written
pub record OutOfRange : Type 0 where
  pub factors : (k b : ℕ) (column : List ℕ) → (k < 2) ⊎ (5 < k)
      → ((promised_blockings k b column).answer ≡ refused 3) × ((promised_blockings k b column).column ≡ column)
  pub words : (k b : ℕ) (column : List ℕ) → 2 ≤ k → k ≤ 5 → (b < 1) ⊎ (3 < b)
      → ((promised_blockings k b column).answer ≡ refused 17) × ((promised_blockings k b column).column ≡ column)
