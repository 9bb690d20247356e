-- The places for block words of a plan, where a list is put into them word by word.
--
--   Placed ws i ys                            a loop has put the first i words of the list into the places ys
--   placed-none, placed-more, placed-all      before the first, with one more, after the last
--   lost-is                                   whether the plan with these places confounds an effect
use Rattle.std.specs.Prelude.{◌≡◌, refl, Bool, List, ◌++◌, ℕ, suc, ◌+◌, ◌-◌, ◌<◌, ◌≤◌, length, take, get_or, set, replicate}
use Rattle.std.proofs.Common.{◌∙◌, add-one, arith, length-take-le, take_all, take-suc}
use Rattle.std.proofs.Math.Seq.{append_snoc}
use Rattle.std.proofs.lemmas.List.{set_at}
use Rattle.plan.specs.Check.{confounded_accepted}
use Rattle.plan.specs.Plan.{confounded_in}
use Rattle.blockings.specs.Blockings.{blocked_plan}
use Rattle.blockwords.specs.Inner.Ready.{Blocked}
use Rattle.blockwords.specs.Laws.Plans as plans

pub record Placed (ws : List ℕ) (i : ℕ) (ys : List ℕ) : Type 0 where
  pub within : i ≤ length ws
  pub so : ys ≡ take i ws ++ replicate (4 - i) 0

pub placed-none : (ws : List ℕ) → Placed ws 0 (replicate 4 0)
placed-none ws = record { within = omega arith; so = refl }

module _ {ws : List ℕ} {i : ℕ} {ys : List ℕ} (d : Placed ws i ys) where
  pub placed-more : i < length ws → length ws ≤ 4 → Placed ws (i + 1) (set ys i (get_or ws i 0))
  placed-more h few =
      let m = 4 - suc i in
      let places : 4 - i ≡ suc m = omega arith in
      record {
        within = omega arith;
        so =
            rw (d.so, places, add-one i, take-suc ws i 0 h, append_snoc)
            (set_at (take i ws) 0 (replicate m 0) (get_or ws i 0) i (length-take-le i ws (omega arith)));
      }

  pub placed-all : length ws ≤ i → ys ≡ ws ++ replicate (4 - length ws) 0
  placed-all h =
      let e : i ≡ length ws = omega (arith, d.within) in
      d.so ∙ rw (take_all i ws h, e) refl

pub lost-is : (k : ℕ) (ws : List ℕ) → Blocked k ws → {places : List ℕ} → places ≡ ws ++ replicate (4 - length ws) 0 → (w : ℕ) {lost : Bool}
    → lost ≡ confounded_accepted (record {
      levels = 2;
      k = k;
      added = 0;
      words = replicate 6 0;
      signs = replicate 6 0;
      blocks = length ws;
      blockwords = places;
      repeats = 1;
    }) w
    → lost ≡ confounded_in (blocked_plan k ws) w
lost-is k ws b e w f = plans.lost-is w b (rw e refl) f
