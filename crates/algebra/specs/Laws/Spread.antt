-- A list of l * h places that a loop writes in h turns: turn i writes the l places i, i + h, i + 2 h, .., in this order. A
-- loop over pairs, or over sets of three, that lie a fixed distance apart is of this kind.
--
--   key l h p                the number of the write that reaches the place p
--   Written l h f g t ys     ys is the list once t places are written: f there, g elsewhere
--   Turned l h f g i ys      ys is the list after i turns
use Rattle.std.specs.Prelude.{◌≡◌, List, ℕ, ◌+◌, ◌*◌, ◌/◌, ◌%◌, ◌≤◌}
use Rattle.algebra.specs.Tab.{tab}
use Rattle.algebra.specs.Laws.Turns.{mix}

-- the place i + d h is written as number i l + d
abbrev pub key : ℕ → ℕ → ℕ → ℕ
key l h p = p % h * l + p / h

pub record Written {A : Type 0} (l h : ℕ) (f g : ℕ → A) (t : ℕ) (ys : List A) : Type 0 where
  pub so : ys ≡ tab (l * h) (mix (key l h) f g t)

pub record Turned {A : Type 0} (l h : ℕ) (f g : ℕ → A) (i : ℕ) (ys : List A) : Type 0 where
  pub some : i ≤ h
  pub upto : Written l h f g (i * l) ys
