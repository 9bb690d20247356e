-- The line of a list of block words: its words, a colon, and the effects that they confound.
--
--   confounded_of k ws   the words of the confounded effects, in rising order
--   list_fields k ws     the fields of the line
--   list_line k ws       the line
use Rattle.std.specs.Prelude.{List, ◌∷◌, ◌++◌, map, ℕ, ◌^◌}
use Rattle.algebra.specs.Tab.{tab}
use Rattle.algebra.specs.Those.{those}
use Rattle.plan.specs.Plan.{confounded_in}
use Rattle.text.specs.Text.{ascii}
use Rattle.text.specs.Spelled.{letters_of}
use Rattle.lines.specs.Lines.{line_of}
use Rattle.blockings.specs.Blockings.{blocked_plan}

-- R6: "all combinations of one or more block words"; in the order of rows, A, B, AB, C and so on
unfoldable pub confounded_of : ℕ → List ℕ → List ℕ
confounded_of k ws = those (confounded_in (blocked_plan k ws)) (tab (2 ^ k) (λ w. w))

-- a field for each block word, then a colon, then one for each confounded effect
abbrev pub list_fields : ℕ → List ℕ → List (List ℕ)
list_fields k ws = map letters_of ws ++ (ascii ":" ∷ map letters_of (confounded_of k ws))

-- W9, W10: fields are parted, and the line is ended, as in a printed table
unfoldable pub list_line : ℕ → List ℕ → List ℕ
list_line k ws = line_of (list_fields k ws)
