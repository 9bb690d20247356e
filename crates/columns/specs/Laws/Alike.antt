-- Places beyond a plan's counts are ignored by a call that reads one column and writes another.
--
--   same-columns     plans that agree as far as their counts reach get the same number
--   same-readings    and so where readings are read
use Rattle.std.specs.Prelude.{◌≡◌, refl, List, ℕ, ℤ}
use Rattle.plan.specs.declared.types.Plan.{Plan}
use Rattle.plan.specs.Check.{with_plan}
use Rattle.plan.proofs.Laws.Alike.{Alike, same-refused, same-factors, same-limit}
use Rattle.columns.specs.Refusals.{wrong_length, wrong_readings, columns_refused, readings_refused}

pub same-columns : {p q : Plan} → Alike p q → (limit : ℕ) (xs ys : List ℤ) → columns_refused limit p xs ys ≡ columns_refused limit q xs ys
unfolding columns_refused with_plan wrong_length
same-columns a limit xs ys = rw (same-refused a, same-factors a) refl

pub same-readings : {p q : Plan} → Alike p q → (xs ys : List ℤ) → readings_refused p xs ys ≡ readings_refused q xs ys
unfolding readings_refused with_plan wrong_readings wrong_length
same-readings a xs ys = rw (same-refused a, same-limit a, same-factors a, a.repeats) refl
