-- The codings of factors of two, three, four and five levels: their rows of coefficients, as numbers.
-- The rows of two and three levels are those of section 5 of the rules; four and five levels are named by the request for mixed levels.
--
--   Coding                         rows of coefficients, a divisor for each, a common denominator
--   levels_of, coef_of, divisor_of   its numbers
--   neg n                          the number - n
--   two_coding, three_coding, four_coding, five_coding
--                                  the four codings
use Rattle.std.specs.Prelude.{List, [], ◌∷◌, ℕ, length, get_or, ℤ, pos, neg_ℤ}

pub record Coding : Type 0 where
  pub rows : List (List ℤ)
  pub divisors : List ℕ
  pub common : ℕ

abbrev pub levels_of : Coding → ℕ
levels_of t = length t.rows

abbrev pub coef_of : Coding → ℕ → ℕ → ℤ
coef_of t d j = get_or (get_or t.rows d []) j (pos 0)

abbrev pub divisor_of : Coding → ℕ → ℕ
divisor_of t d = get_or t.divisors d 0

-- ---- the four codings

abbrev pub neg : ℕ → ℤ
neg n = neg_ℤ (pos n)

-- T9: "(1, 1) or (1, -1) at two levels"; T15, T18: "2 to the power k at two levels"
abbrev pub two_coding : Coding
two_coding = record {
  rows = (pos 1 ∷ pos 1 ∷ [])
      ∷ (pos 1 ∷ neg 1 ∷ [])
      ∷ [];
  divisors = 2 ∷ 2 ∷ [];
  common = 2;
}

-- T9: "(1, 1, 1), (1, 0, -1) or (1, -2, 1) at three"; T15: "at three levels the product of 3, 2 or 6 by digit"; T18: 6
abbrev pub three_coding : Coding
three_coding = record {
  rows = (pos 1 ∷ pos 1 ∷ pos 1 ∷ [])
      ∷ (pos 1 ∷ pos 0 ∷ neg 1 ∷ [])
      ∷ (pos 1 ∷ neg 2 ∷ pos 1 ∷ [])
      ∷ [];
  divisors = 3 ∷ 2 ∷ 6 ∷ [];
  common = 6;
}

-- F9, of the request for mixed levels: "Four levels: (1,1,1,1), (3,1,-1,-3), (1,-1,-1,1), (1,-3,3,-1), divisors 4, 20, 4, 20."
abbrev pub four_coding : Coding
four_coding = record {
  rows = (pos 1 ∷ pos 1 ∷ pos 1 ∷ pos 1 ∷ [])
      ∷ (pos 3 ∷ pos 1 ∷ neg 1 ∷ neg 3 ∷ [])
      ∷ (pos 1 ∷ neg 1 ∷ neg 1 ∷ pos 1 ∷ [])
      ∷ (pos 1 ∷ neg 3 ∷ pos 3 ∷ neg 1 ∷ [])
      ∷ [];
  divisors = 4 ∷ 20 ∷ 4 ∷ 20 ∷ [];
  common = 20;
}

-- F9, of the request for mixed levels: "Five levels: (1,1,1,1,1), (2,1,0,-1,-2), (2,-1,-2,-1,2), (1,-2,0,2,-1), (1,-4,6,-4,1), divisors 5, 10, 14, 10, 70."
abbrev pub five_coding : Coding
five_coding = record {
  rows = (pos 1 ∷ pos 1 ∷ pos 1 ∷ pos 1 ∷ pos 1 ∷ [])
      ∷ (pos 2 ∷ pos 1 ∷ pos 0 ∷ neg 1 ∷ neg 2 ∷ [])
      ∷ (pos 2 ∷ neg 1 ∷ neg 2 ∷ neg 1 ∷ pos 2 ∷ [])
      ∷ (pos 1 ∷ neg 2 ∷ pos 0 ∷ pos 2 ∷ neg 1 ∷ [])
      ∷ (pos 1 ∷ neg 4 ∷ pos 6 ∷ neg 4 ∷ pos 1 ∷ [])
      ∷ [];
  divisors = 5 ∷ 10 ∷ 14 ∷ 10 ∷ 70 ∷ [];
  common = 70;
}
