-- The total as it is printed, as code makes it, by 0 less the total, and hands it on.
--
--   negated_fits               0 less the total fits
--   negated-is, kept-is         it is the printed total of an effect with an odd number of letters, and the total that of another
--   negated-small, kept_small   a double holds both
--   handed                     and as it is handed on it is the same
use mathlib.Core.Path.{◌≡◌, sym, ap, ◌∙◌}
use mathlib.Core.Bool.{Bool, true, false, cond}
use Prim.Native.Nat.{ℕ, ◌^◌, ◌<◌}
use native.Mathlib.Omega.{arith}
use lib.IntN.{ℤ, pos, nat_abs, neg_ℤ, ◌-ℤ◌, +ℤ_idl}
use mir.Facts.{to_z-of_z}
use mir.Syntax.{w64}
use mir.Val.{SFits}
use Rattle.algebra.specs.Laws.Machine.{wrap, fits}
use Rattle.algebra.proofs.Laws.Machine.{back}
use Rattle.algebra.specs.Laws.Size.{nat_abs-neg}
use Rattle.words.specs.Words.{odd_word}
use Rattle.estimates.specs.Estimate.{printed_total}

module _ {t : ℤ} (f : SFits w64 t) (h : nat_abs t < 2 ^ 53) where
  small : nat_abs (neg_ℤ t) < 2 ^ 63
  small = omega (arith, nat_abs-neg t, h)

  pub negated_fits : SFits w64 (pos 0 -ℤ wrap t)
  negated_fits = rw (to_z-of_z f, +ℤ_idl (neg_ℤ t)) (fits (neg_ℤ t) small)

  negated : wrap (pos 0 -ℤ wrap t) ≡ neg_ℤ t
  negated = rw (to_z-of_z f, +ℤ_idl (neg_ℤ t)) (back (neg_ℤ t) small)

  module _ (e : ℕ) {b : Bool} (d : b ≡ odd_word e) where
    by-test : (c : Bool) → b ≡ c → cond c (neg_ℤ t) t ≡ printed_total e t
    unfolding printed_total
    by-test c g = ap (λ (a : Bool). cond a (neg_ℤ t) t) (sym g ∙ d)

    pub negated-is : b ≡ true → wrap (pos 0 -ℤ wrap t) ≡ printed_total e t
    negated-is g = negated ∙ by-test true g

    pub kept-is : b ≡ false → wrap t ≡ printed_total e t
    kept-is g = to_z-of_z f ∙ by-test false g

  pub negated-small : nat_abs (wrap (pos 0 -ℤ wrap t)) < 2 ^ 53
  negated-small = rw (negated, nat_abs-neg t) h

  pub kept_small : nat_abs (wrap t) < 2 ^ 53
  kept_small = rw (to_z-of_z f) h

pub handed : (r : ℤ) → nat_abs r < 2 ^ 53 → wrap r ≡ r
handed r h = back r (omega (arith, h))
