-- The lines of a printed table, as bytes.
--
--   space, newline                    the two bytes by which fields and lines are parted
--   line_of fields                     a line of some fields
--   label_of w                         the label of row w
--   kind_words c                      `error` or `blocks`, for a row of the kind c
--   row_line w degrees numerator c     the line of a row
--   named_line name n                 a line of a name and a number
--   source_line name degrees numerator
--   check_line totals readings        the line of both check numbers
use Rattle.std.specs.Prelude.{cond, List, [], ◌∷◌, ◌++◌, ℕ, eqb, ℤ}
use Rattle.text.specs.Text.{ascii}
use Rattle.text.specs.Spelled.{letters_of, decimal, signed}
use Rattle.rows.specs.Kinds.{Kind, mean_row, blocks_row, error_row, kept_row}

-- W9
abbrev pub space : ℕ
space = 32

-- W10
abbrev pub newline : ℕ
newline = 10

-- W9, W10: "Fields are parted by one space, and each line ends with a newline byte."
unfoldable pub line_of : List (List ℕ) → List ℕ
line_of [] = newline ∷ []
line_of (f ∷ []) = f ++ (newline ∷ [])
line_of (f ∷ g ∷ fs) = f ++ (space ∷ line_of (g ∷ fs))

-- W6: "label (`mean` for row 0, else the row's letters, A first)"
unfoldable pub label_of : ℕ → List ℕ
label_of w = cond (eqb w 0) (ascii "mean") (letters_of w)

-- W7: "and, if so, `error` or `blocks`"
unfoldable pub kind_words : Kind → List (List ℕ)
kind_words error_row = ascii "error" ∷ []
kind_words blocks_row = ascii "blocks" ∷ []
kind_words mean_row = []
kind_words kept_row = []

-- W6, W7: "Row lines [..] hold label [..], degrees, numerator and, if so, `error` or `blocks`."
unfoldable pub row_line : ℕ → ℕ → ℕ → Kind → List ℕ
row_line w degrees numerator c = line_of (label_of w ∷ decimal degrees ∷ decimal numerator ∷ kind_words c)

-- W11: "`over` gives the denominator"; W3: and `refused` gives a number
unfoldable pub named_line : List ℕ → ℕ → List ℕ
named_line name n = line_of (name ∷ decimal n ∷ [])

-- W8: "The `blocks`, `error` and `total` lines below them hold degrees and numerator."
unfoldable pub source_line : List ℕ → ℕ → ℕ → List ℕ
source_line name degrees numerator = line_of (name ∷ decimal degrees ∷ decimal numerator ∷ [])

-- W12: "`check` the sum of totals, then the number from the readings"
unfoldable pub check_line : ℤ → ℤ → List ℕ
check_line totals readings = line_of (ascii "check" ∷ signed totals ∷ signed readings ∷ [])
