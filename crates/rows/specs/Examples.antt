-- Kinds of rows, computed over the definitions.
--
--   counts    how many rows there are, for any plan
--   kinds     three factors with the block word ABC and mark 1 on AB, and the first of the rows that the plan has not
--   codes     and their numbers
use Rattle.std.specs.Prelude.{◌≡◌, refl, List, [], ◌∷◌, ℕ, map, take}
use Rattle.algebra.specs.Bits.{bits}
use Rattle.algebra.specs.Naturals.{Σℕ}
use Rattle.algebra.specs.Search.{some}
use Rattle.algebra.specs.Tab.{tab, tab_from}
use Rattle.contrasts.specs.Limits.{most_two}
use Rattle.words.specs.Words.{times, combined}
use Rattle.plan.specs.declared.types.Plan.{Plan}
use Rattle.plan.specs.Examples.{plan, ABC}
use Rattle.plan.specs.Plan.{some_combination, combines_to}
use Rattle.rows.specs.Kinds.{row_count, mean_row, blocks_row, error_row, kept_row, kind_by_mark, kind_of, code_of, kinds_of}

-- three factors, ten, and eleven, which no plan has
counts : row_count (plan 3 3 [] [] []) ∷ row_count (plan 2 10 [] [] []) ∷ row_count (plan 2 11 [] [] []) ∷ [] ≡ 8 ∷ 1024 ∷ 0 ∷ []
unfolding row_count most_two
counts = refl

abbrev blocked : Plan
blocked = plan 2 3 [] [] (ABC ∷ [])

abbrev marks_ab : List ℕ
marks_ab = 0 ∷ 0 ∷ 0 ∷ 1 ∷ 0 ∷ 0 ∷ 0 ∷ 0 ∷ []

kinds : tab 9 (kind_of blocked marks_ab) ≡ mean_row ∷ kept_row ∷ kept_row ∷ error_row ∷ kept_row ∷ kept_row ∷ kept_row ∷ blocks_row ∷ kept_row ∷ []
unfolding kind_of kind_by_mark combines_to some_combination some combined times bits Σℕ tab_from
kinds = refl

codes : map code_of (take 9 (kinds_of blocked marks_ab)) ≡ 2 ∷ 0 ∷ 0 ∷ 1 ∷ 0 ∷ 0 ∷ 0 ∷ 3 ∷ 0 ∷ []
unfolding kinds_of kind_of kind_by_mark combines_to some_combination some combined times bits Σℕ tab_from
codes = refl
