-- The two halves of a line, as the loops write them.
--
--   space_after ws    the letters of each word, and a space after each
--   space_before ws   the same with the space before each
use Rattle.std.specs.Prelude.{List, [], ◌∷◌, ◌++◌, ℕ}
use Rattle.text.specs.Spelled.{letters_of}
use Rattle.lines.specs.Lines.{space}

unfoldable pub space_after : List ℕ → List ℕ
space_after [] = []
space_after (w ∷ ws) = letters_of w ++ (space ∷ space_after ws)

unfoldable pub space_before : List ℕ → List ℕ
space_before [] = []
space_before (w ∷ ws) = (space ∷ letters_of w) ++ space_before ws
