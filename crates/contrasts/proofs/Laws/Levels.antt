-- The number of levels, and the factor of so many levels. Code goes by whether there are two.
--
--   some-levels         a factor has some level
--   kind-of             two and three levels are those of a factor
--   the-three           what is not two is three
--   as-two, as-three    the factor
use Rattle.std.specs.Prelude.{◌≡◌, refl, ◌⊎◌, ℕ, ◌<◌}
use Rattle.std.proofs.Common.{sym, inl, inr, ne_eqb}
use Rattle.contrasts.proofs.Factors.{two, three, of_levels}

pub some-levels : (n : ℕ) → (of_levels n).levels ≡ n → 0 < n
some-levels n e = rw (← e) (of_levels n).some_level

pub kind-of : (n : ℕ) → (n ≡ 2) ⊎ (n ≡ 3) → (of_levels n).levels ≡ n
unfolding two three
kind-of n (inl e) = rw e refl
kind-of n (inr e) = rw e refl

pub the-three : (n : ℕ) → (of_levels n).levels ≡ n → (n ≡ 2 → ⊥) → n ≡ 3
unfolding three
the-three n e h = sym (rw (ne_eqb n 2 h) at e)

pub as-two : (n : ℕ) → n ≡ 2 → of_levels n ≡ two
as-two n e = rw e refl

pub as-three : (n : ℕ) → (n ≡ 2 → ⊥) → of_levels n ≡ three
as-three n h = rw (ne_eqb n 2 h) refl
