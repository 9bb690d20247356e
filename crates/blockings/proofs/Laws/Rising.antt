-- R14: what "strictly rising words" are.
--
--   rising    words rise if and only if each is below the next
use Rattle.std.specs.Prelude.{◌≡◌, refl, Bool, true, List, ◌↔◌, ℕ, ◌+◌, ◌-◌, ◌<◌, leb, length, get_or}
use Rattle.std.proofs.Common.{arith, leb-false}
use Rattle.std.proofs.lemmas.Bool.{lt-leb, not-true}
use Rattle.algebra.specs.Search.{some}
use Rattle.algebra.specs.Laws.Search.{some-false, none-at}
use Rattle.blockings.specs.Blockings.{strictly_rising}

pub rising : (ws : List ℕ) → (strictly_rising ws ≡ true) ↔ ((j : ℕ) → j + 1 < length ws → get_or ws j 0 < get_or ws (j + 1) 0)
unfolding strictly_rising
rising ws = (
  λ e j h. leb-false (get_or ws (j + 1) 0) (get_or ws j 0) (none-at (length ws - 1) falls (not-true (some (length ws - 1) falls) e) j (omega arith)),
  λ h. rw (some-false (length ws - 1) falls (λ j l. lt-leb (get_or ws (j + 1) 0) (get_or ws j 0) (h j (omega arith)))) refl,
)
  where
    falls : ℕ → Bool
    falls j = leb (get_or ws (j + 1) 0) (get_or ws j 0)
