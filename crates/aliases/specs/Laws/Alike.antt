-- Places beyond a plan's counts are ignored by the alias call too.
--
--   same-refused, same-values    plans that agree as far as their counts reach get the same answer
use Rattle.std.specs.Prelude.{◌≡◌, ℕ}
use Rattle.std.proofs.Math.Path.{refl}
use Rattle.plan.specs.declared.types.Plan.{Plan}
use Rattle.plan.specs.Check.{with_plan}
use Rattle.plan.proofs.Laws.Alike.{Alike, same-refused as same-plan-refused}
use Rattle.aliases.specs.Alias.{alias_refused, alias_values}

module _ {p q : Plan} (a : Alike p q) (e : ℕ) where
  pub same-refused : alias_refused p e ≡ alias_refused q e
  unfolding alias_refused with_plan
  same-refused = rw (same-plan-refused a, a.words, a.levels, a.k) refl

  pub same-values : alias_values p e ≡ alias_values q e
  same-values = rw (a.words, a.signs, a.k) refl
