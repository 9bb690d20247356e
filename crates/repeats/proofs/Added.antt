-- The sum of a run's readings.
--
--   run_of r i xs                          the readings of run i, as code lends them
--   Adding r i xs j s                      s is the sum of the first j readings of run i
--   adding-none, adding-more, adding-all   before the first reading, after one more, after the last
use mathlib.Core.Path.{◌≡◌, refl, ◌∙◌, ap}
use mathlib.Core.List.{List}
use Prim.Native.Nat.{ℕ, suc, ◌+◌, ◌-◌, ◌*◌, ◌^◌, ◌<◌, ◌≤◌}
use native.Mathlib.Numerals.{add-one}
use native.Mathlib.Omega.{arith}
use lib.IntN.{ℤ, pos, nat_abs, ◌+ℤ◌}
use lib.ListN.{length}
use lib.Signed.{mag}
use mir.Syntax.{w32}
use mir.Val.{to_z, of_z}
use Rattle.algebra.specs.Sum.{Σ}
use Rattle.algebra.specs.Laws.Machine.{wrap}
use Rattle.algebra.specs.Laws.Parts.{part}
use Rattle.algebra.proofs.Laws.Machine.{back, widened}
use Rattle.algebra.proofs.Laws.Parts.{length_part, get_d_part}
use Rattle.algebra.specs.Laws.Signs.{size-mag}
use Rattle.algebra.specs.Laws.Size.{nat_abs-+ℤ}
use Rattle.contrasts.specs.Columns.{read}
use Rattle.contrasts.specs.Repeats.{run_sums}
use Rattle.repeats.specs.Ready.{RunOf}

abbrev pub run_of : ℕ → ℕ → List ℤ → List ℤ
run_of r i xs = part (i * r + r - i * r) (i * r) xs

-- the first j readings of a run
abbrev partly : ℕ → ℕ → List ℤ → ℕ → ℤ
partly r i xs j = Σ j (λ n. read xs (i * r + n))

pub record Adding (r i : ℕ) (xs : List ℤ) (j : ℕ) (s : ℤ) : Type 0 where
  pub upto : j ≤ r
  pub small : nat_abs (Σ j (λ n. read xs (i * r + n))) ≤ j * 2 ^ 31
  pub so : s ≡ Σ j (λ n. read xs (i * r + n))

pub adding-none : (r i : ℕ) (xs : List ℤ) → Adding r i xs 0 (pos 0)
unfolding Σ
adding-none r i xs = record { upto = omega arith; small = omega arith; so = refl }

module _ {r i : ℕ} {xs : List ℤ} (pre : RunOf r i xs) {j : ℕ} {s : ℤ} (w : Adding r i xs j s) where
  width : i * r + r - i * r ≡ r
  width = omega arith

  long : length (run_of r i xs) ≡ r
  long = rw width (length_part r (i * r) xs pre.there)

  pub adding-all : length (run_of r i xs) ≤ j → s ≡ run_sums r (read xs) i
  unfolding run_sums
  adding-all h =
      let e : j ≡ r = omega (arith, w.upto, long) in
      w.so ∙ ap (partly r i xs) e

  -- v is the next reading, as an i64
  module _ (more : j < length (run_of r i xs)) {v : ℤ} (e : v ≡ to_z w32 (of_z w32 (read (run_of r i xs) j))) (given : mag (read (run_of r i xs) j) < 2 ^ 31) where
    low : j < r
    low = omega (arith, long)

    same : read (run_of r i xs) j ≡ read xs (i * r + j)
    same = rw width (get_d_part r (i * r) xs (pos 0) j low)

    next : s +ℤ wrap v ≡ partly r i xs (suc j)
    unfolding Σ
    next = rw (w.so, e, widened (read (run_of r i xs) j) given, same) refl

    small-next : nat_abs (partly r i xs (suc j)) ≤ suc j * 2 ^ 31
    unfolding Σ
    small-next =
        let size : mag (read xs (i * r + j)) < 2 ^ 31 = rw (← same) given in
        omega (arith, nat_abs-+ℤ (partly r i xs j) (read xs (i * r + j)), w.small, size-mag (read xs (i * r + j)))

    pub adding-more : Adding r i xs (j + 1) (wrap (s +ℤ wrap v))
    adding-more =
        rw (add-one j)
        (record {
          upto = omega (arith, low);
          small = small-next;
          so = ap wrap next ∙ back (partly r i xs (suc j)) (omega (arith, small-next, pre.few));
        })
