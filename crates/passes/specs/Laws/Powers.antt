-- Columns of levels to the power k values fall into stretches of each factor.
--
--   in-stretches    of the factor at position f
use Rattle.std.specs.Prelude.{◌≡◌, List, ℕ, suc, ◌-◌, ◌^◌, ◌<◌, ℤ, length}
use Rattle.std.proofs.Common.{◌∙◌, ap, arith, pow-add}
use Rattle.std.proofs.Math.Nat.{pow-succ', one-le-pow}
use Rattle.contrasts.specs.Columns.{AllWithin}
use Rattle.contrasts.proofs.Factors.{of_levels}
use Rattle.contrasts.proofs.Laws.Levels.{some-levels}
use Rattle.contrasts.proofs.Laws.Small.{mild_limit}
use Rattle.passes.specs.Ready.{Stretches}

pub in-stretches : (l f k s : ℕ) (xs : List ℤ) → (of_levels l).levels ≡ l → f < k → s ≡ l ^ f → length xs ≡ l ^ k → AllWithin mild_limit xs
    → Stretches l s xs
in-stretches l f k s xs kind low apart whole within =
    record {
      kind = kind;
      some = rw apart (one-le-pow f l some);
      count = l ^ (k - suc f);
      more = one-le-pow (k - suc f) l some;
      whole = whole ∙ rw (apart, ← (pow-succ' l f), ← (pow-add l (k - suc f) (suc f))) (ap (λ n. l ^ n) (omega arith));
      within = within;
    }
  where
    some : 0 < l
    some = some-levels l kind
