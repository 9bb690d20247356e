-- The order of figures and checks in their slices, and the number of a call without room for them, computed over the definitions.
--
--   figures, in-order, checks-in-order    some figures, all unlike, and their numbers
--   rooms                                 the numbers of calls with slices of other lengths
use Rattle.std.specs.Prelude.{◌≡◌, refl, [], ◌∷◌, pos, negsuc, replicate}
use Rattle.algebra.specs.Bits.{bits}
use Rattle.algebra.specs.Naturals.{Σℕ}
use Rattle.algebra.specs.Search.{some}
use Rattle.contrasts.specs.Limits.{most_two, most_three, is_repeats, most_readings}
use Rattle.contrasts.proofs.Factors.{two, three}
use Rattle.contrasts.specs.Totals.{size}
use Rattle.words.specs.Words.{letters, beyond, times, combined, any, among, repeated}
use Rattle.plan.specs.Check.{bad_levels, bad_factors, bad_counts, bad_word, bad_sign, bad_words, dependent, factor_word, loses_factor, bad_repeats, plan_refused, with_plan}
use Rattle.plan.specs.Examples.{plan}
use Rattle.plan.specs.Plan.{factors_of, some_combination, combines_to}
use Rattle.anova.specs.declared.types.Figures.{Figures}
use Rattle.figures.specs.Numbers.{figure_numbers, check_numbers, wrong_room, room_refused, call_refused}

abbrev figures : Figures
figures = record {
  denominator = 16;
  mean = record { degrees = 1; numerator = 400 };
  kept = record { degrees = 7; numerator = 52 };
  blocks = record { degrees = 3; numerator = 8 };
  error = record { degrees = 5; numerator = 4 };
  total = record { degrees = 17; numerator = 464 };
  checks = record { totals = pos 12; readings = negsuc 12 };
}

-- V13: the denominator, then degrees and numerator of mean, kept effects, blocks, error and total; both checks
in-order : figure_numbers figures ≡ 16 ∷ 1 ∷ 400 ∷ 7 ∷ 52 ∷ 3 ∷ 8 ∷ 5 ∷ 4 ∷ 17 ∷ 464 ∷ []
in-order = refl

checks-in-order : check_numbers figures ≡ pos 12 ∷ negsuc 12 ∷ []
checks-in-order = refl

-- N11, L4: no room for the figures of an accepted plan, with a reading beyond its limit too, and for its checks; of a plan of 4 levels its own number
rooms : call_refused (plan 2 1 [] [] []) (pos 2000000 ∷ []) [] [] [] (replicate 10 0) (replicate 2 (pos 0))
    ∷ call_refused (plan 2 1 [] [] []) [] [] [] [] (replicate 11 0) (replicate 3 (pos 0))
    ∷ call_refused (plan 4 1 [] [] []) [] [] [] [] (replicate 12 0) (replicate 2 (pos 0))
    ∷ []
    ≡ 11 ∷ 11 ∷ 2 ∷ []
unfolding call_refused wrong_room room_refused with_plan plan_refused bad_levels bad_factors most_two most_three bad_counts bad_words bad_word bad_sign repeated dependent loses_factor factor_word bad_repeats is_repeats most_readings any among beyond letters combined times some_combination combines_to some bits Σℕ factors_of size two three
rooms = refl
