-- The factors of two, three, four and five levels, each made of its coding with the proof that the coding is lawful.
--
--   codings, coding-lawful    the four codings by their number, and that all are lawful
--   two, three, four, five    the factors
--   of_levels n               the factor of two levels, or that of three
use Rattle.std.specs.Prelude.{cond, [], ◌∷◌, ℕ, ◌<◌, T, eqb, get_or}
use Rattle.std.proofs.Common.{lit<}
use Rattle.algebra.specs.Sum.{Σ}
use Rattle.algebra.specs.Tests.{every}
use Rattle.algebra.specs.Laws.Tests.{every-at}
use Rattle.contrasts.specs.Factor.{Factor}
use Rattle.contrasts.specs.Codings.{Coding, two_coding, three_coding, four_coding, five_coding}
use Rattle.contrasts.specs.Factors.{lawful, tests, dividing, rows_apart, columns_apart, factor_of}

-- ---- the one test of all four, and the factors

unfoldable pub codings : ℕ → Coding
codings n = get_or (two_coding ∷ three_coding ∷ four_coding ∷ five_coding ∷ []) n two_coding

-- F9: "orthogonality tested once over them"
all-lawful : T (every 4 (λ n. lawful (codings n)))
unfolding codings lawful tests dividing rows_apart columns_apart every Σ
all-lawful = tt

pub coding-lawful : (n : ℕ) → n < 4 → T (lawful (codings n))
coding-lawful n h = every-at 4 (λ n. lawful (codings n)) all-lawful n h

unfoldable pub two : Factor
unfolding codings
two = factor_of two_coding (coding-lawful 0 (lit< tt))

unfoldable pub three : Factor
unfolding codings
three = factor_of three_coding (coding-lawful 1 (lit< tt))

unfoldable pub four : Factor
unfolding codings
four = factor_of four_coding (coding-lawful 2 (lit< tt))

unfoldable pub five : Factor
unfolding codings
five = factor_of five_coding (coding-lawful 3 (lit< tt))

-- the kind of a plan's base factors, which are alike: two, or three for any other number; a plan of other levels is refused before this is
-- asked
abbrev pub of_levels : ℕ → Factor
of_levels n = cond (eqb n 2) two three
