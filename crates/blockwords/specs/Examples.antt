-- Arguments and lines, computed over the definitions.
--
--   numbers, others             arguments that are numbers, two of them above 255, and arguments that are none
--   one_word, two-words         lines of lists for two and for three factors
--   three-words                 four factors: all seven combinations are confounded
use Rattle.std.specs.Prelude.{◌≡◌, refl, [], ◌∷◌, map, None, Some}
use Rattle.algebra.specs.Bits.{bits}
use Rattle.algebra.specs.Naturals.{Σℕ}
use Rattle.algebra.specs.Search.{some}
use Rattle.algebra.specs.Tab.{tab_from}
use Rattle.algebra.specs.Those.{those}
use Rattle.words.specs.Words.{times, combined}
use Rattle.plan.specs.Plan.{some_combination, combines_to}
use Rattle.text.specs.Text.{ascii}
use Rattle.text.specs.Spelled.{letter_of, letters_in}
use Rattle.lines.specs.Lines.{line_of}
use Rattle.blockwords.specs.Arguments.{is_digit, all_digits, argument_of}
use Rattle.blockwords.specs.Listed.{confounded_of, list_line}

numbers : map argument_of (ascii "4" ∷ ascii "007" ∷ ascii "259" ∷ ascii "1000000000000000000000" ∷ [])
    ≡ Some 4 ∷ Some 7 ∷ Some 255 ∷ Some 255 ∷ []
unfolding argument_of all_digits is_digit
numbers = refl

others : map argument_of ([] ∷ ascii "-1" ∷ ascii "4 " ∷ ascii "x" ∷ []) ≡ None ∷ None ∷ None ∷ None ∷ []
unfolding argument_of all_digits is_digit
others = refl

-- R6
one_word : list_line 2 (3 ∷ []) ≡ ascii "AB : AB\n"
unfolding list_line line_of letters_in letter_of confounded_of those tab_from combines_to some_combination combined times some bits Σℕ
one_word = refl

-- R6: AB and AC combine to BC
two-words : list_line 3 (3 ∷ 5 ∷ []) ≡ ascii "AB AC : AB AC BC\n"
unfolding list_line line_of letters_in letter_of confounded_of those tab_from combines_to some_combination combined times some bits Σℕ
two-words = refl

-- R6
three-words : list_line 4 (3 ∷ 5 ∷ 9 ∷ []) ≡ ascii "AB AC AD : AB AC BC AD BD CD ABCD\n"
unfolding list_line line_of letters_in letter_of confounded_of those tab_from combines_to some_combination combined times some bits Σℕ
three-words = refl
