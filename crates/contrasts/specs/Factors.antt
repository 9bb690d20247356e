-- What makes a coding a factor. The laws of a coding are one test of the whole of it, which is computed.
--
--   dividing, rows_apart, columns_apart   the tests of its divisors, of its rows and of its columns
--   tests, lawful                         all tests, by their number, and whether all pass
--   some_level, some-common, divides, rows, columns
--                                        the laws that a lawful coding has
--   factor_of                            so it makes a factor
--
-- The factors are in proofs/Factors.antt, for each is made with the proof that its coding is lawful.
use Rattle.std.specs.Prelude.{◌≡◌, Bool, true, cond, [], ◌∷◌, ℕ, ◌*◌, ◌/◌, ◌<◌, T, ltb, eqb, get_or, pos, ◌*ℤ◌}
use Rattle.std.proofs.Math.Dec.{ltb→lt, eqb→eq}
use Rattle.std.proofs.Common.{lit<}
use Rattle.algebra.specs.Sum.{Σ}
use Rattle.algebra.specs.Tests.{every, eq_z}
use Rattle.algebra.specs.Laws.Tests.{every-at, eqZ→eq}
use Rattle.contrasts.specs.Factor.{Factor}
use Rattle.contrasts.specs.Codings.{Coding, levels_of, coef_of, divisor_of}

-- ---- the test

unfoldable pub dividing : Coding → Bool
dividing t = every (levels_of t) (λ d. eqb (divisor_of t d * (t.common / divisor_of t d)) t.common)

unfoldable pub rows_apart : Coding → Bool
rows_apart t =
    every (levels_of t) (λ c. every (levels_of t) (λ d.
    eq_z (Σ (levels_of t) (λ j. coef_of t c j *ℤ coef_of t d j)) (cond (eqb c d) (pos (divisor_of t c)) (pos 0))))

unfoldable pub columns_apart : Coding → Bool
columns_apart t =
    every (levels_of t) (λ i. every (levels_of t) (λ j.
    eq_z (Σ (levels_of t) (λ d. pos (t.common / divisor_of t d) *ℤ (coef_of t d i *ℤ coef_of t d j)))
    (cond (eqb i j) (pos t.common) (pos 0))))

-- every test, by its number
unfoldable pub tests : Coding → ℕ → Bool
tests t n = get_or (ltb 0 (levels_of t) ∷ ltb 0 t.common ∷ dividing t ∷ rows_apart t ∷ columns_apart t ∷ []) n true

unfoldable pub lawful : Coding → Bool
lawful t = every 5 (tests t)

-- ---- a factor from a coding that passes

module _ (t : Coding) (ok : T (lawful t)) where
  passes : (n : ℕ) → n < 5 → T (tests t n)
  unfolding lawful
  passes n h = every-at 5 (tests t) ok n h

  pub some_level : 0 < levels_of t
  unfolding tests
  some_level = ltb→lt 0 (levels_of t) (passes 0 (lit< tt))

  pub some-common : 0 < t.common
  unfolding tests
  some-common = ltb→lt 0 t.common (passes 1 (lit< tt))

  pub divides : (d : ℕ) → d < levels_of t → divisor_of t d * (t.common / divisor_of t d) ≡ t.common
  unfolding tests dividing
  divides d h = eqb→eq _ _ (every-at (levels_of t) _ (passes 2 (lit< tt)) d h)

  pub rows : (c d : ℕ) → c < levels_of t → d < levels_of t
      → Σ (levels_of t) (λ j. coef_of t c j *ℤ coef_of t d j) ≡ cond (eqb c d) (pos (divisor_of t c)) (pos 0)
  unfolding tests rows_apart
  rows c d h k = eqZ→eq _ _ (every-at (levels_of t) _ (every-at (levels_of t) _ (passes 3 (lit< tt)) c h) d k)

  pub columns : (i j : ℕ) → i < levels_of t → j < levels_of t
      → Σ (levels_of t) (λ d. pos (t.common / divisor_of t d) *ℤ (coef_of t d i *ℤ coef_of t d j)) ≡ cond (eqb i j) (pos t.common) (pos 0)
  unfolding tests columns_apart
  columns i j h k = eqZ→eq _ _ (every-at (levels_of t) _ (every-at (levels_of t) _ (passes 4 (lit< tt)) i h) j k)

  abbrev pub factor_of : Factor
  factor_of = record {
    levels = levels_of t;
    coef = coef_of t;
    divisor = divisor_of t;
    common = t.common;
    some_level = some_level;
    some-common = some-common;
    divides = divides;
    rows = rows;
    columns = columns;
  }
