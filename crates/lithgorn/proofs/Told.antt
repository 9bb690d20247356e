-- What the estimate says of a total that it was handed as bits.
--
--   estimate-told    it is what it says of the total
use mathlib.Core.Path.{◌≡◌, ap, ◌∙◌}
use mathlib.Core.List.{List}
use Prim.Native.Nat.{ℕ}
use lib.IntN.{ℤ}
use lib.Ieee.{Float}
use mir.Facts.{to_z-of_z}
use mir.Syntax.{w64}
use mir.Val.{SFits}
use Rattle.algebra.specs.Laws.Machine.{wrap}
use Rattle.facts.specs.Facts.{estimate_on_head, estimate_kind, estimate_double}

pub estimate-told : (head : List ℕ) (x : ℕ) (t : ℤ) (kind : ℕ) (value : Float) {n k : ℕ} {v : Float} → SFits w64 t
    → (n ≡ estimate_on_head head x (wrap t)) × ((k ≡ estimate_kind head x (wrap t) kind) × (v ≡ estimate_double head x (wrap t) value))
    → (n ≡ estimate_on_head head x t) × ((k ≡ estimate_kind head x t kind) × (v ≡ estimate_double head x t value))
estimate-told head x t kind value fits told =
    let same : wrap t ≡ t = to_z-of_z fits in (
      told.0 ∙ ap (λ s. estimate_on_head head x s) same,
      (told.1.0 ∙ ap (λ s. estimate_kind head x s kind) same, told.1.1 ∙ ap (λ s. estimate_double head x s value) same),
    )
