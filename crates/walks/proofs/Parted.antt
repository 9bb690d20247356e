-- The four sums, from both parts of each.
--
--   joinable   both parts of a sum can be added
--   joins      the four sums
use mathlib.Core.Path.{◌≡◌, refl}
use mathlib.Core.List.{[], ◌∷◌, List}
use Prim.Native.Nat.{ℕ, ◌+◌, ◌*◌, ◌<◌}
use native.Mathlib.Nat.{add-zero}
use native.Mathlib.Omega.{arith}
use Rattle.algebra.specs.Tab.{tab, tab_from}
use Rattle.walks.specs.State.{two_parts, sum_in}
use Rattle.walks.specs.Inner.Ready.{Joinable, Gatherable}

pub joinable : {parts : List ℕ} → Gatherable parts → {i : ℕ} → i < 2 → (c : ℕ) → c < 4 → (place : ℕ) → place ≡ i + 4 * c → Joinable place parts
joinable pre {i} low c h place e =
    rw e (record { inside = omega (arith, pre.places); both-fit = pre.sums-fit i c low h })

pub joins : {parts : List ℕ} → Gatherable parts → {i : ℕ} → i < 2 → {a b c d : ℕ} → a ≡ two_parts parts i → b ≡ two_parts parts (i + 4) → c ≡ two_parts parts (i + 8) → d ≡ two_parts parts (i + 12)
    → a ∷ b ∷ c ∷ d ∷ [] ≡ tab 4 (sum_in parts i)
unfolding tab_from
joins pre {i} low a b c d = rw (a, b, c, d, add-zero i) refl
