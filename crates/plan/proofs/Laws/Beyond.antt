-- A number beside a limit, as code compares them: with the limit, and with the limit negated.
--
--   over     above the limit
--   under    not above it: below the limit negated, or within
use Rattle.std.specs.Prelude.{◌≡◌, true, false, ℕ, zero, suc, ℤ, pos, negsuc, ◌-ℤ◌}
use Rattle.std.proofs.Common.{sym, ap, ◌∙◌, arith, lt-ltb, le-ltb}
use Rattle.std.proofs.Math.Dec.{leb-suc-suc}
use Rattle.std.proofs.Math.IntN.{+ℤ_idl}
use Rattle.std.specs.Int.Signed.{lt_z}
use Rattle.plan.specs.Limits.{is_beyond}

pub over : (m : ℕ) (x : ℤ) → lt_z (pos m) x ≡ true → true ≡ is_beyond m x
unfolding is_beyond
over m (pos n) t = sym t
over m (negsuc n) t = cc

pub under : (m : ℕ) (x : ℤ) → lt_z (pos m) x ≡ false → lt_z x (pos 0 -ℤ pos m) ≡ is_beyond m x
unfolding is_beyond
under zero (pos n) t = le-ltb n 0 (omega arith) ∙ sym t
under zero (negsuc n) t = sym (lt-ltb 0 (suc n) (omega arith))
under (suc m) (pos n) t = ap (lt_z (pos n)) (+ℤ_idl (negsuc m)) ∙ sym t
under (suc m) (negsuc n) t = ap (lt_z (negsuc n)) (+ℤ_idl (negsuc m)) ∙ sym (leb-suc-suc (suc m) n)
