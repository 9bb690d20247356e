-- The turns of a stretch of two passes in one go.
--
--   four-places              four is the square of two levels
--   TwoAt f p q r            f has the rows r at the places p and q
--   Four f h i l u           what f has at the places of turn i: the second pass of the rows l and u that the first makes
--   four-rows                so has the column after both passes
--   turn-four                a turn
--   Worked h xs i ys         ys is the stretch xs after i turns
--   value-small              the values of the next turn are small
--   four-ready, fours-more   the four places of a turn of a stretch, and the turn
--   two-readings             four readings, two of them
--   first-ready, four-made   their four places, and their one turn
use mathlib.Core.Path.{◌≡◌, refl, sym, ◌∙◌, ap}
use mathlib.Core.List.{List}
use Prim.Native.Nat.{ℕ, ◌+◌, ◌*◌, ◌<◌}
use native.Mathlib.Omega.{arith}
use lib.Dec.{lit<}
use lib.IntN.{ℤ, pos}
use lib.ListN.{length}
use Rattle.algebra.specs.Laws.Machine.{wrap}
use Rattle.algebra.specs.Laws.Spread.{Turned}
use Rattle.algebra.proofs.Laws.Spread.{opened, put, closed, as_long}
use Rattle.algebra.specs.Laws.Tab.{get_or-tab}
use Rattle.contrasts.specs.Columns.{read}
use Rattle.contrasts.proofs.Factors.{two}
use Rattle.contrasts.specs.Passes.{pass_at}
use Rattle.contrasts.specs.Totals.{Column}
use Rattle.contrasts.proofs.Laws.Both.{BothStretch, FirstStretch, both_over, both_at, both-still, both_small, first-begun, first_ended}
use Rattle.contrasts.proofs.Laws.Small.{Small, mild-small}
use Rattle.contrasts.proofs.Laws.Stretches.{pass_over}
use Rattle.contrasts.proofs.Laws.TwoLevels.{pass-two}
use Rattle.levels.specs.declared.pairs.Rows.{Rows}
use Rattle.levels.specs.Inner.Pairs.{rows_by, rows_from, sums_of, gaps_of, put_rows, TwoReadings, MildRows, FourPlaces}
use Rattle.levels.proofs.PairRows.{rows-held, rows-mild}

pub four-places : 4 ≡ two.levels * two.levels
unfolding two
four-places = refl

-- ---- what both passes write

pub record TwoAt (f : Column) (p q : ℕ) (r : Rows) : Type 0 where
  pub first : f p ≡ r.sum
  pub second : f q ≡ r.gap

-- of a pair in stretch k, at the offset i
two-rows : (s : ℕ) (x : Column) (k i : ℕ) {p q : ℕ} → p ≡ k * (2 * s) + i → i < s → p + s ≡ q
    → {a b : ℤ} → x p ≡ a → x q ≡ b → TwoAt (pass_at s two x) p q (rows_by a b)
two-rows s x k i {p} place low e ea eb =
    let r = pass-two s x k i p place low in
    record { first = rw (e, ea, eb) at r.0; second = rw (e, ea, eb) at r.1 }

pub record Four (f : Column) (h i : ℕ) (l u : Rows) : Type 0 where
  pub sums : TwoAt f i (i + 2 * h) (sums_of l u)
  pub gaps : TwoAt f (i + h) (i + 3 * h) (gaps_of l u)

-- y is what the first pass makes of x
four-values : (h i : ℕ) (x y : Column) → ((n : ℕ) → n < 4 * h → y n ≡ pass_at h two x n) → i < h
    → Four (pass_at (2 * h) two y) h i (rows_by (x i) (x (i + h))) (rows_by (x (i + 2 * h)) (x (i + 3 * h)))
four-values h i x y same low =
    record {
      sums =
          two-rows (2 * h) y 0 i (omega arith) (omega arith) refl
          (same i (omega arith) ∙ l.first) (same (i + 2 * h) (omega arith) ∙ u.first);
      gaps =
          two-rows (2 * h) y 0 (i + h) (omega arith) (omega arith) (omega arith)
          (same (i + h) (omega arith) ∙ l.second) (same (i + 3 * h) (omega arith) ∙ u.second);
    }
  where
    l : TwoAt (pass_at h two x) i (i + h) (rows_by (x i) (x (i + h)))
    l = two-rows h x 0 i (omega arith) low refl refl refl

    u : TwoAt (pass_at h two x) (i + 2 * h) (i + 3 * h) (rows_by (x (i + 2 * h)) (x (i + 3 * h)))
    u = two-rows h x 1 i (omega arith) low (omega arith) refl refl

four-rows : (h i : ℕ) (xs : List ℤ) → length xs ≡ 4 * h → i < h
    → Four (both_at h two xs) h i (rows_by (read xs i) (read xs (i + h))) (rows_by (read xs (i + 2 * h)) (read xs (i + 3 * h)))
unfolding pass_over two
four-rows h i xs whole low =
    four-values h i (read xs) _ (λ n k. get_or-tab (pos 0) (length xs) (pass_at h two (read xs)) n (rw whole k)) low

-- ---- a turn

module _ {l u : Rows} {h i : ℕ} {f g : Column} {ys : List ℤ} (w : Turned 4 h f g i ys) (low : i < h) (n : Four f h i l u) where
  pub turn-four : Turned 4 h f g (i + 1) (put_rows ys i h l u)
  turn-four =
      rw (place0, place1) at
      (closed (pos 0) low
      (put (pos 0) low 3 (lit< tt)
      (put (pos 0) low 2 (lit< tt)
      (put (pos 0) low 1 (lit< tt)
      (put (pos 0) low 0 (lit< tt) (opened (pos 0) w) _ (sym n.sums.first ∙ ap f (sym place0)))
      _ (sym n.gaps.first ∙ ap f (sym place1)))
      _ (sym n.sums.second))
      _ (sym n.gaps.second)))
    where
      place0 : i + 0 * h ≡ i
      place0 = omega arith

      place1 : i + 1 * h ≡ i + h
      place1 = omega arith

-- ---- the turns of a stretch

abbrev pub Worked : ℕ → List ℤ → ℕ → List ℤ → Type 0
Worked h xs i ys = Turned 4 h (both_at h two xs) (read xs) i ys

module _ {h : ℕ} {xs : List ℤ} (pre : BothStretch 4 h xs) {i : ℕ} {ys : List ℤ} (w : Worked h xs i ys) (low : i < h) where
  still : (d : ℕ) → d < 4 → (p : ℕ) → i + d * h ≡ p → read xs p ≡ read ys p
  still = both-still two pre w low

  -- the value of turn i with number d
  pub value-small : (d : ℕ) → d < 4 → (p : ℕ) → i + d * h ≡ p → Small (read ys p)
  value-small = both_small two pre w low

  module _ {l u : Rows} (el : l ≡ rows_by (wrap (read ys i)) (wrap (read ys (i + h))))
      (eu : u ≡ rows_by (wrap (read ys (i + 2 * h))) (wrap (read ys (i + 3 * h)))) where
    s0 : Small (read ys i)
    s0 = value-small 0 (lit< tt) i (omega arith)

    s1 : Small (read ys (i + h))
    s1 = value-small 1 (lit< tt) (i + h) (omega arith)

    s2 : Small (read ys (i + 2 * h))
    s2 = value-small 2 (lit< tt) (i + 2 * h) refl

    s3 : Small (read ys (i + 3 * h))
    s3 = value-small 3 (lit< tt) (i + 3 * h) refl

    low-is : l ≡ rows_by (read ys i) (read ys (i + h))
    low-is = el ∙ rows-held (mild-small s0) (mild-small s1)

    high_is : u ≡ rows_by (read ys (i + 2 * h)) (read ys (i + 3 * h))
    high_is = eu ∙ rows-held (mild-small s2) (mild-small s3)

    pub four-ready : FourPlaces ys i h l u
    four-ready =
        record { inside = omega (arith, as_long (pos 0) w, low); low = rw low-is (rows-mild s0 s1); high = rw high_is (rows-mild s2 s3) }

    rows-now : Four (both_at h two xs) h i l u
    rows-now =
        rw (low-is, high_is)
        (rw (
          still 0 (lit< tt) i (omega arith),
          still 1 (lit< tt) (i + h) (omega arith),
          still 2 (lit< tt) (i + 2 * h) refl,
          still 3 (lit< tt) (i + 3 * h) refl,
        )
        at (four-rows h i xs pre.whole low))

    pub fours-more : {zs : List ℤ} → zs ≡ put_rows ys i h l u → Worked h xs (i + 1) zs
    fours-more e = rw e (turn-four w low rows-now)

-- ---- four readings

module _ {xs old : List ℤ} (pre : FirstStretch 4 xs old) where
  pub two-readings : (i : ℕ) → i + 1 < 4 → TwoReadings xs i
  two-readings i k = record { inside = omega (arith, pre.read); within = pre.within }

  module _ {l u : Rows} (el : l ≡ rows_from xs 0) (eu : u ≡ rows_from xs 2) where
    pub first-ready : FourPlaces old 0 1 l u
    first-ready = record { inside = omega (arith, pre.written); low = rw el (mild-at 0); high = rw eu (mild-at 2) }
      where
        small : (n : ℕ) → Small (read xs n)
        small n = record { small = pre.within n }

        mild-at : (i : ℕ) → MildRows (rows_from xs i)
        mild-at i = rows-mild (small i) (small (i + 1))

    pub four-made : {zs : List ℤ} → zs ≡ put_rows old 0 1 l u → zs ≡ both_over 1 two xs
    four-made e = e ∙ rw (el, eu) (first_ended two pre (turn-four (first-begun two pre) (lit< tt) (four-rows 1 0 xs pre.read (lit< tt))))
