-- Whether a test holds of one of some words, by their places.
--
--   any_placed   `any` is whether the test holds at one of the places
--   none_at      where it holds of none it fails at each place
--   all_fail     and where it fails at each place it holds of none
use Rattle.std.specs.Prelude.{◌≡◌, Bool, false, List, ℕ, ◌<◌, length, get_or}
use Rattle.std.proofs.Common.{sym, ◌∙◌}
use Rattle.algebra.specs.Search.{some}
use Rattle.algebra.specs.Laws.Search.{none-at, some-false, some_listed}
use Rattle.words.specs.Words.{any}

pub any_placed : (f : ℕ → Bool) (ws : List ℕ) → any f ws ≡ some (length ws) (λ j. f (get_or ws j 0))
unfolding any
any_placed f ws = sym (some_listed f 0 ws)

pub none_at : (f : ℕ → Bool) (ws : List ℕ) → any f ws ≡ false → (j : ℕ) → j < length ws → f (get_or ws j 0) ≡ false
none_at f ws e = none-at (length ws) (λ j. f (get_or ws j 0)) (sym (any_placed f ws) ∙ e)

pub all_fail : (f : ℕ → Bool) (ws : List ℕ) → ((j : ℕ) → j < length ws → f (get_or ws j 0) ≡ false) → any f ws ≡ false
all_fail f ws h = any_placed f ws ∙ some-false (length ws) (λ j. f (get_or ws j 0)) h
