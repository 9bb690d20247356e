-- The factors and the runs of an accepted plan.
--
--   two-levels                              an accepted plan that has not three levels has two
--   runs-power, as-power                    there are levels to the power k runs
--   runs-two                                so with two levels there are 2 ^ k
--   factors-two, factors-three              its base factors, by its levels
--   plan-kind                               the factor of the plan's levels has so many
--   spacing-power                           the values of the factor at position f lie levels to the power f apart
--   RunsTwo, RunsThree, runs-known          what `runs` gives of any plan: 0, or the number of runs at two or at three levels
--   runs-within                             of any plan there are at most 1,024
--   count-is                                beyond refusals 2 and 3 it is their number
--   runs-few, readings-few                  there are at most 1,024 runs, and readings
--   some-repeat                             a run is made once or more
--   letters-few                             there are at most 16 letters, base and added
--   run-count, reading-count                what `runs` and `reading_count` give of an accepted plan
--   spacing-is, confounded-is               and `spacing` and `confounded`
--   power-fits                              a power of a plan's levels fits a machine word
--   power-room, power-more                  so does one more factor of the base, and it is the next power
use Rattle.std.specs.Prelude.{◌≡◌, refl, ◌⊎◌, Bool, true, false, ℕ, ◌+◌, ◌*◌, ◌^◌, ◌<◌, ◌≤◌, replicate}
use Rattle.std.proofs.Common.{ap, ◌∙◌, inl, inr, le_trans, mul-le-mul_left, pow-suc, add-one, arith, length-take, eq-eqb}
use Rattle.std.proofs.Math.Nat.{pow-le-pow_left, pow-le-pow_right}
use Rattle.std.proofs.lemmas.Bool.{lt-leb}
use Rattle.contrasts.specs.Limits.{most_two, most_three, most_readings}
use Rattle.contrasts.proofs.Factors.{two, three, of_levels}
use Rattle.contrasts.specs.Passes.{spacing}
use Rattle.contrasts.proofs.Laws.Replicated.{size-alike, spacing-alike}
use Rattle.contrasts.proofs.Laws.Levels.{kind-of}
use Rattle.contrasts.proofs.Laws.Limits.{repeats-few}
use Rattle.plan.specs.declared.types.Plan.{Plan}
use Rattle.plan.specs.Plan.{factors_of, runs_of, all_readings, all_letters, confounded_in}
use Rattle.plan.specs.Check.{bad_levels, bad_factors, plan_refused, run_count, reading_count, spacing_at, confounded_accepted}
use Rattle.plan.proofs.Laws.Accepted.{Accepted, accepted, at-most-ten, levels-known, factors-known}
use Rattle.plan.proofs.Laws.Accepts.{levels-right, factors-right}

two_then : (p : Plan) → (p.levels ≡ 2) ⊎ (p.levels ≡ 3) → (p.levels ≡ 3 → ⊥) → p.levels ≡ 2
two_then p (inl e) t = e
two_then p (inr e) t = absurd (t e)

pub two-levels : (p : Plan) → plan_refused p ≡ 0 → (p.levels ≡ 3 → ⊥) → p.levels ≡ 2
two-levels p z t = two_then p (accepted p z).levels t

pub runs-power : (p : Plan) → (p.levels ≡ 2) ⊎ (p.levels ≡ 3) → runs_of p ≡ p.levels ^ p.k
unfolding factors_of two three
runs-power p (inl e) = rw e (size-alike p.k two)
runs-power p (inr e) = rw e (size-alike p.k three)

pub runs-two : (p : Plan) → p.levels ≡ 2 → runs_of p ≡ 2 ^ p.k
runs-two p e = runs-power p (inl e) ∙ ap (λ (b : ℕ). b ^ p.k) e

pub spacing-power : (p : Plan) (f : ℕ) → (p.levels ≡ 2) ⊎ (p.levels ≡ 3) → f < p.k → spacing (factors_of p) f ≡ p.levels ^ f
unfolding factors_of two three
spacing-power p f (inl e) h = rw e (spacing-alike p.k two f h)
spacing-power p f (inr e) h = rw e (spacing-alike p.k three f h)

-- the length of a column of N
pub as-power : (p : Plan) → plan_refused p ≡ 0 → {n : ℕ} → n ≡ runs_of p → n ≡ p.levels ^ p.k
as-power p ok e = e ∙ runs-power p (accepted p ok).levels

-- ---- the plan's factors, and what the helpers give of an accepted plan

pub factors-two : (p : Plan) → p.levels ≡ 2 → factors_of p ≡ replicate p.k two
unfolding factors_of
factors-two p e = rw e refl

pub factors-three : (p : Plan) → p.levels ≡ 3 → factors_of p ≡ replicate p.k three
unfolding factors_of
factors-three p e = rw e refl

pub plan-kind : (p : Plan) → plan_refused p ≡ 0 → (of_levels p.levels).levels ≡ p.levels
plan-kind p e = kind-of p.levels (accepted p e).levels

pub record RunsTwo (p : Plan) : Type 0 where
  pub levels : p.levels ≡ 2
  pub most : p.k ≤ 10
  pub factors : factors_of p ≡ replicate p.k two
  pub count : run_count p ≡ 2 ^ p.k

pub record RunsThree (p : Plan) : Type 0 where
  pub levels : p.levels ≡ 3
  pub most : p.k ≤ 6
  pub factors : factors_of p ≡ replicate p.k three
  pub count : run_count p ≡ 3 ^ p.k

pub runs-known : (p : Plan) → (run_count p ≡ 0) ⊎ (RunsTwo p ⊎ RunsThree p)
unfolding run_count most_two most_three
runs-known p = by (bad_levels p.levels) (bad_factors p.levels p.k) refl refl
  where
    inside : (p.levels ≡ 2) ⊎ (p.levels ≡ 3) → (0 < p.k) × (p.k ≤ most_two) × (p.levels ≡ 3 → p.k ≤ most_three) → run_count p ≡ runs_of p
        → RunsTwo p ⊎ RunsThree p
    inside (inl e) f c =
        inl (record { levels = e; most = f.1; factors = factors-two p e; count = c ∙ runs-power p (inl e) ∙ rw e refl })
    inside (inr e) f c =
        inr (record { levels = e; most = f.2 e; factors = factors-three p e; count = c ∙ runs-power p (inr e) ∙ rw e refl })

    by : (a b : Bool) → bad_levels p.levels ≡ a → bad_factors p.levels p.k ≡ b → (run_count p ≡ 0) ⊎ (RunsTwo p ⊎ RunsThree p)
    by true b d e = inl (rw d refl)
    by false true d e = inl (rw (d, e) refl)
    by false false d e = inr (inside (levels-known p.levels d) (factors-known p.levels p.k e) (rw (d, e) refl))

pub runs-within : (p : Plan) → run_count p ≤ 1024
runs-within p = by (runs-known p)
  where
    by : (run_count p ≡ 0) ⊎ (RunsTwo p ⊎ RunsThree p) → run_count p ≤ 1024
    by (inl z) = omega (arith, z)
    by (inr (inl t)) = rw t.count (pow-le-pow_right {n = 2} (omega arith) {i = p.k} {j = 10} t.most)
    by (inr (inr t)) =
        let s : 3 ^ p.k ≤ 729 = pow-le-pow_right {n = 3} (omega arith) {i = p.k} {j = 6} t.most in
        rw t.count (omega (arith, s))

pub count-is : (p : Plan) → bad_levels p.levels ≡ false → bad_factors p.levels p.k ≡ false → run_count p ≡ runs_of p
unfolding run_count
count-is p d e = rw (d, e) refl

pub run-count : (p : Plan) → plan_refused p ≡ 0 → run_count p ≡ runs_of p
run-count p e = let a = accepted p e in count-is p (levels-right a) (factors-right a)

pub reading-count : (p : Plan) → plan_refused p ≡ 0 → reading_count p ≡ all_readings p
unfolding reading_count
reading-count p e = rw (run-count p e) refl

pub runs-few : (p : Plan) → plan_refused p ≡ 0 → runs_of p ≤ 1024
runs-few p ok = rw (run-count p ok) at (runs-within p)

pub readings-few : (p : Plan) → plan_refused p ≡ 0 → all_readings p ≤ 1024
unfolding most_readings
readings-few p ok = (accepted p ok).repeats.1

pub some-repeat : (p : Plan) → plan_refused p ≡ 0 → (0 < p.repeats) × (p.repeats ≤ 8)
some-repeat p ok = repeats-few p.repeats (accepted p ok).repeats.0

pub letters-few : (p : Plan) → Accepted p → all_letters p ≤ 16
letters-few p a = omega (arith, at-most-ten p.k a.factors.1, a.counts.0, length-take p.added p.words)

pub spacing-is : (p : Plan) (f : ℕ) → plan_refused p ≡ 0 → f < p.k → spacing_at p f ≡ spacing (factors_of p) f
unfolding spacing_at
spacing-is p f e h = let a = accepted p e in rw (levels-right a, factors-right a, lt-leb p.k f h) refl

pub confounded-is : (p : Plan) (w : ℕ) → plan_refused p ≡ 0 → confounded_accepted p w ≡ confounded_in p w
unfolding confounded_accepted
confounded-is p w e = rw (eq-eqb (plan_refused p) 0 e) refl

-- ---- powers

pub power-fits : (b k : ℕ) → b ≤ 3 → k ≤ 10 → b ^ k < 2 ^ 64
power-fits b k hb hk =
    let s : b ^ k ≤ 59049 = le_trans (pow-le-pow_left hb k) (pow-le-pow_right {n = 3} (omega arith) hk) in
    omega (arith, s)

pub power-room : (b i n : ℕ) → b ≤ 3 → i ≤ 10 → n ≡ b ^ i → n * b < 2 ^ 64
power-room b i n hb hi e =
    let s : b ^ i ≤ 59049 = le_trans (pow-le-pow_left hb i) (pow-le-pow_right {n = 3} (omega arith) hi) in
    omega (arith, e, s, mul-le-mul_left n hb)

pub power-more : (b i n : ℕ) → n ≡ b ^ i → n * b ≡ b ^ (i + 1)
power-more b i n e = rw (e, add-one i, pow-suc)
