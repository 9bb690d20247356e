-- The text that the program prints for a number of factors and one of block words.
--
--   list_lines k lists     the lines of some lists
--   lists_text k lists     how many lists there are, and their lines
--   blockings_text k b     the text for k factors and b block words
use Rattle.std.specs.Prelude.{cond, List, [], ◌∷◌, ◌++◌, ℕ, eqb, length}
use Rattle.text.specs.Text.{ascii}
use Rattle.lines.specs.Lines.{named_line}
use Rattle.blockings.specs.Blockings.{blockings_of, blockings_refused}
use Rattle.blockwords.specs.Listed.{list_line}

-- R15: in the order of the lists
unfoldable pub list_lines : ℕ → List (List ℕ) → List ℕ
list_lines k [] = []
list_lines k (ws ∷ lists) = list_line k ws ++ list_lines k lists

-- R17: "The number of lists is returned"
abbrev pub lists_text : ℕ → List (List ℕ) → List ℕ
lists_text k lists = named_line (ascii "lists") (length lists) ++ list_lines k lists

-- the number of the refusal alone, where there is one; the program lends the blocking call 3,360 places
unfoldable pub blockings_text : ℕ → ℕ → List ℕ
blockings_text k b =
    cond (eqb (blockings_refused k b 3360) 0) (lists_text k (blockings_of k b)) (named_line (ascii "refused") (blockings_refused k b 3360))
