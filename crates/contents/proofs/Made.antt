-- Arrays that are made place by place.
--
--   made    an array of what a closure gives at each place is the list of these
use mathlib.Core.Path.{◌≡◌, subst, ◌∙◌}
use mathlib.Core.List.{List}
use Prim.Native.Nat.{ℕ, zero, suc, ◌+◌, ◌<◌}
use native.Mathlib.Omega.{arith}
use denote.Param.Members.{Mut}
use lib.ListN.{get_or}
use Rattle.std.specs.Fn.{Called}
use Rattle.std.specs.Array.{IsFromFnResult, IsFromFnResultFrom}
use Rattle.algebra.specs.Tab.{tab}
use Rattle.algebra.specs.Laws.Tab.{is-tab}

module _ {F : Type 0} {g : Mut F (ℕ × Unit {0}) ℕ} {f : F} (h : ℕ → ℕ) (gives : (i y : ℕ) (q : F) → Called g f (i, tt) y q → (q ≡ f) × (y ≡ h i)) where
  each : (ys : List ℕ) (i n : ℕ) → IsFromFnResultFrom g f ys i n → (j : ℕ) → j < n → get_or ys (i + j) 0 ≡ h (i + j)
  each ys i zero r j l = absurd (omega (arith, l))
  each ys i (suc n) (q, y, at, call, rest) zero l =
      let e : i + 0 ≡ i = omega arith in
      rw e (at.1 0 ∙ (gives i y q call).1)
  each ys i (suc n) (q, y, at, call, rest) (suc j) l =
      let e : i + suc j ≡ i + 1 + j = omega arith in
      rw e (each ys (i + 1) n (subst (λ p. IsFromFnResultFrom g p ys (i + 1) n) (gives i y q call).0 rest) j (omega (arith, l)))

  pub made : {ys : List ℕ} {n : ℕ} → IsFromFnResult g f ys n → ys ≡ tab n h
  made {ys} {n} r = is-tab 0 ys n h r.long (λ i l. let e : 0 + i ≡ i = omega arith in subst (λ j. get_or ys j 0 ≡ h j) e (each ys 0 n r.each i l))
