-- What a program has of its input when it has read until its buffer was full or the input ended.
--
--   Holds whole buffer count    the first `count` bytes of the buffer are as much of the input `whole` as the buffer has room for
--   DecidesFor t buffer count   what t makes of these bytes is what it makes of the input, however the input goes on
--   Decides buffer count        so it is of the text that is printed
use Rattle.std.specs.Prelude.{◌≡◌, List, ℕ, length, take}
use Rattle.printing.specs.Printed.{text_of}

-- all of it, or the first of its bytes where it is longer than the buffer
abbrev pub Holds : List ℕ → List ℕ → ℕ → Type 0
Holds whole buffer count = take count buffer ≡ take (length buffer) whole

-- W1: "reads one sheet from standard input": the sheet is the input and not a part of it
abbrev pub DecidesFor : (List ℕ → List ℕ) → List ℕ → ℕ → Type 0
DecidesFor t buffer count = (whole : List ℕ) → Holds whole buffer count → t (take count buffer) ≡ t whole

abbrev pub Decides : List ℕ → ℕ → Type 0
Decides buffer count = DecidesFor text_of buffer count
