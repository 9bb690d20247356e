-- The copy of readings to a column of as many places.
--
--   copied-over    the column holds the readings
use Rattle.std.specs.Prelude.{◌≡◌, refl, List, ℤ, length}
use Rattle.std.proofs.Common.{sym, ◌∙◌, eq-eqb}
use Rattle.columns.specs.Copies.{copied}

pub copied-over : {xs zs : List ℤ} (ys : List ℤ) → length ys ≡ length xs → zs ≡ copied xs ys → zs ≡ xs
unfolding copied
copied-over {xs} ys same e = e ∙ rw (eq-eqb (length xs) (length ys) (sym same)) refl
