-- The turns of a stretch of two passes in one go.
--
--   nine-places              nine is the square of three levels
--   ThreeAt f p q t r        f has the rows r at the places p, q and t
--   Nine f h i l m u         what f has at the places of turn i: the second pass of the rows l, m and u that the first makes
--   nine-rows                so has the column after both passes
--   turn-nine                a turn
--   Worked h xs i ys         ys is the stretch xs after i turns
--   value-small              the values of the next turn are small
--   nine-ready, nines-more   the nine places of a turn of a stretch, and the turn
--   three-readings           nine readings, three of them
--   first-ready, nine-made   their nine places, and their one turn
use mathlib.Core.Path.{◌≡◌, refl, sym, ◌∙◌, ap}
use mathlib.Core.List.{List}
use Prim.Native.Nat.{ℕ, ◌+◌, ◌*◌, ◌<◌}
use native.Mathlib.Omega.{arith}
use lib.Dec.{lit<}
use lib.IntN.{ℤ, pos}
use lib.ListN.{length}
use Rattle.algebra.specs.Laws.Machine.{wrap}
use Rattle.algebra.specs.Laws.Spread.{Turned}
use Rattle.algebra.proofs.Laws.Spread.{opened, put, closed, as_long}
use Rattle.algebra.specs.Laws.Tab.{get_or-tab}
use Rattle.contrasts.specs.Columns.{read}
use Rattle.contrasts.proofs.Factors.{three}
use Rattle.contrasts.specs.Passes.{pass_at}
use Rattle.contrasts.specs.Totals.{Column}
use Rattle.contrasts.proofs.Laws.Both.{BothStretch, FirstStretch, both_over, both_at, both-still, both_small, first-begun, first_ended}
use Rattle.contrasts.proofs.Laws.Small.{Small, mild-small}
use Rattle.contrasts.proofs.Laws.Stretches.{pass_over}
use Rattle.contrasts.proofs.Laws.ThreeLevels.{pass-three}
use Rattle.levels.specs.declared.triples.Rows.{Rows}
use Rattle.levels.specs.Inner.Triples.{rows_by, rows_from, sums_of, gaps_of, curves_of, put_rows, ThreeReadings, MildRows, NinePlaces}
use Rattle.levels.proofs.TripleRows.{rows-held, rows-mild}

pub nine-places : 9 ≡ three.levels * three.levels
unfolding three
nine-places = refl

-- ---- what both passes write

pub record ThreeAt (f : Column) (p q t : ℕ) (r : Rows) : Type 0 where
  pub first : f p ≡ r.sum
  pub middle : f q ≡ r.gap
  pub third : f t ≡ r.curve

-- of a set of three in stretch k, at the offset i
three-rows : (s : ℕ) (x : Column) (k i : ℕ) {p q t : ℕ} → p ≡ k * (3 * s) + i → i < s → p + s ≡ q → p + 2 * s ≡ t
    → {a b c : ℤ} → x p ≡ a → x q ≡ b → x t ≡ c → ThreeAt (pass_at s three x) p q t (rows_by a b c)
three-rows s x k i {p} {q} {t} place low e1 e2 {a} {b} {c} ea eb ec =
    let r = pass-three s x k i p place low in
    record {
      first = r.0 ∙ rw (e1, e2, ea, eb, ec) refl;
      middle = rw (e1, e2, ea, ec) at r.1;
      third = rw (e1, e2, ea, eb, ec) at r.2;
    }

pub record Nine (f : Column) (h i : ℕ) (l m u : Rows) : Type 0 where
  pub sums : ThreeAt f i (i + 3 * h) (i + 6 * h) (sums_of l m u)
  pub gaps : ThreeAt f (i + h) (i + 4 * h) (i + 7 * h) (gaps_of l m u)
  pub curves : ThreeAt f (i + 2 * h) (i + 5 * h) (i + 8 * h) (curves_of l m u)

-- y is what the first pass makes of x
nine-values : (h i : ℕ) (x y : Column) → ((n : ℕ) → n < 9 * h → y n ≡ pass_at h three x n) → i < h
    → Nine (pass_at (3 * h) three y) h i
    (rows_by (x i) (x (i + h)) (x (i + 2 * h)))
    (rows_by (x (i + 3 * h)) (x (i + 4 * h)) (x (i + 5 * h)))
    (rows_by (x (i + 6 * h)) (x (i + 7 * h)) (x (i + 8 * h)))
nine-values h i x y same low =
    record {
      sums =
          three-rows (3 * h) y 0 i (omega arith) (omega arith) refl (omega arith)
          (same i (omega arith) ∙ l.first) (same (i + 3 * h) (omega arith) ∙ m.first) (same (i + 6 * h) (omega arith) ∙ u.first);
      gaps =
          three-rows (3 * h) y 0 (i + h) (omega arith) (omega arith) (omega arith) (omega arith)
          (same (i + h) (omega arith) ∙ l.middle) (same (i + 4 * h) (omega arith) ∙ m.middle) (same (i + 7 * h) (omega arith) ∙ u.middle);
      curves =
          three-rows (3 * h) y 0 (i + 2 * h) (omega arith) (omega arith) (omega arith) (omega arith)
          (same (i + 2 * h) (omega arith) ∙ l.third) (same (i + 5 * h) (omega arith) ∙ m.third) (same (i + 8 * h) (omega arith) ∙ u.third);
    }
  where
    l : ThreeAt (pass_at h three x) i (i + h) (i + 2 * h) (rows_by (x i) (x (i + h)) (x (i + 2 * h)))
    l = three-rows h x 0 i (omega arith) low refl refl refl refl refl

    m : ThreeAt (pass_at h three x) (i + 3 * h) (i + 4 * h) (i + 5 * h) (rows_by (x (i + 3 * h)) (x (i + 4 * h)) (x (i + 5 * h)))
    m = three-rows h x 1 i (omega arith) low (omega arith) (omega arith) refl refl refl

    u : ThreeAt (pass_at h three x) (i + 6 * h) (i + 7 * h) (i + 8 * h) (rows_by (x (i + 6 * h)) (x (i + 7 * h)) (x (i + 8 * h)))
    u = three-rows h x 2 i (omega arith) low (omega arith) (omega arith) refl refl refl

nine-rows : (h i : ℕ) (xs : List ℤ) → length xs ≡ 9 * h → i < h
    → Nine (both_at h three xs) h i
    (rows_by (read xs i) (read xs (i + h)) (read xs (i + 2 * h)))
    (rows_by (read xs (i + 3 * h)) (read xs (i + 4 * h)) (read xs (i + 5 * h)))
    (rows_by (read xs (i + 6 * h)) (read xs (i + 7 * h)) (read xs (i + 8 * h)))
unfolding pass_over three
nine-rows h i xs whole low =
    nine-values h i (read xs) _ (λ n k. get_or-tab (pos 0) (length xs) (pass_at h three (read xs)) n (rw whole k)) low

-- ---- a turn

module _ {l m u : Rows} {h i : ℕ} {f g : Column} {ys : List ℤ} (w : Turned 9 h f g i ys) (low : i < h) (n : Nine f h i l m u) where
  pub turn-nine : Turned 9 h f g (i + 1) (put_rows ys i h l m u)
  turn-nine =
      rw (place0, place1) at
      (closed (pos 0) low
      (put (pos 0) low 8 (lit< tt)
      (put (pos 0) low 7 (lit< tt)
      (put (pos 0) low 6 (lit< tt)
      (put (pos 0) low 5 (lit< tt)
      (put (pos 0) low 4 (lit< tt)
      (put (pos 0) low 3 (lit< tt)
      (put (pos 0) low 2 (lit< tt)
      (put (pos 0) low 1 (lit< tt)
      (put (pos 0) low 0 (lit< tt) (opened (pos 0) w) _ (sym n.sums.first ∙ ap f (sym place0)))
      _ (sym n.gaps.first ∙ ap f (sym place1)))
      _ (sym n.curves.first))
      _ (sym n.sums.middle))
      _ (sym n.gaps.middle))
      _ (sym n.curves.middle))
      _ (sym n.sums.third))
      _ (sym n.gaps.third))
      _ (sym n.curves.third)))
    where
      place0 : i + 0 * h ≡ i
      place0 = omega arith

      place1 : i + 1 * h ≡ i + h
      place1 = omega arith

-- ---- the turns of a stretch

abbrev pub Worked : ℕ → List ℤ → ℕ → List ℤ → Type 0
Worked h xs i ys = Turned 9 h (both_at h three xs) (read xs) i ys

module _ {h : ℕ} {xs : List ℤ} (pre : BothStretch 9 h xs) {i : ℕ} {ys : List ℤ} (w : Worked h xs i ys) (low : i < h) where
  still : (d : ℕ) → d < 9 → (p : ℕ) → i + d * h ≡ p → read xs p ≡ read ys p
  still = both-still three pre w low

  -- the value of turn i with number d
  pub value-small : (d : ℕ) → d < 9 → (p : ℕ) → i + d * h ≡ p → Small (read ys p)
  value-small = both_small three pre w low

  module _ {l m u : Rows}
      (el : l ≡ rows_by (wrap (read ys i)) (wrap (read ys (i + h))) (wrap (read ys (i + 2 * h))))
      (em : m ≡ rows_by (wrap (read ys (i + 3 * h))) (wrap (read ys (i + 4 * h))) (wrap (read ys (i + 5 * h))))
      (eu : u ≡ rows_by (wrap (read ys (i + 6 * h))) (wrap (read ys (i + 7 * h))) (wrap (read ys (i + 8 * h)))) where
    s0 : Small (read ys i)
    s0 = value-small 0 (lit< tt) i (omega arith)

    s1 : Small (read ys (i + h))
    s1 = value-small 1 (lit< tt) (i + h) (omega arith)

    at : (d : ℕ) → d < 9 → Small (read ys (i + d * h))
    at d k = value-small d k (i + d * h) refl

    low-is : l ≡ rows_by (read ys i) (read ys (i + h)) (read ys (i + 2 * h))
    low-is = el ∙ rows-held (mild-small s0) (mild-small s1) (mild-small (at 2 (lit< tt)))

    middle-is : m ≡ rows_by (read ys (i + 3 * h)) (read ys (i + 4 * h)) (read ys (i + 5 * h))
    middle-is = em ∙ rows-held (mild-small (at 3 (lit< tt))) (mild-small (at 4 (lit< tt))) (mild-small (at 5 (lit< tt)))

    high_is : u ≡ rows_by (read ys (i + 6 * h)) (read ys (i + 7 * h)) (read ys (i + 8 * h))
    high_is = eu ∙ rows-held (mild-small (at 6 (lit< tt))) (mild-small (at 7 (lit< tt))) (mild-small (at 8 (lit< tt)))

    pub nine-ready : NinePlaces ys i h l m u
    nine-ready =
        record {
          inside = omega (arith, as_long (pos 0) w, low);
          low = rw low-is (rows-mild s0 s1 (at 2 (lit< tt)));
          middle = rw middle-is (rows-mild (at 3 (lit< tt)) (at 4 (lit< tt)) (at 5 (lit< tt)));
          high = rw high_is (rows-mild (at 6 (lit< tt)) (at 7 (lit< tt)) (at 8 (lit< tt)));
        }

    rows-now : Nine (both_at h three xs) h i l m u
    rows-now =
        rw (low-is, middle-is, high_is)
        (rw (
          still 0 (lit< tt) i (omega arith),
          still 1 (lit< tt) (i + h) (omega arith),
          still 2 (lit< tt) (i + 2 * h) refl,
          still 3 (lit< tt) (i + 3 * h) refl,
          still 4 (lit< tt) (i + 4 * h) refl,
          still 5 (lit< tt) (i + 5 * h) refl,
          still 6 (lit< tt) (i + 6 * h) refl,
          still 7 (lit< tt) (i + 7 * h) refl,
          still 8 (lit< tt) (i + 8 * h) refl,
        )
        at (nine-rows h i xs pre.whole low))

    pub nines-more : {zs : List ℤ} → zs ≡ put_rows ys i h l m u → Worked h xs (i + 1) zs
    nines-more e = rw e (turn-nine w low rows-now)

-- ---- nine readings

module _ {xs old : List ℤ} (pre : FirstStretch 9 xs old) where
  pub three-readings : (i : ℕ) → i + 2 < 9 → ThreeReadings xs i
  three-readings i k = record { inside = omega (arith, pre.read); within = pre.within }

  module _ {l m u : Rows} (el : l ≡ rows_from xs 0) (em : m ≡ rows_from xs 3) (eu : u ≡ rows_from xs 6) where
    pub first-ready : NinePlaces old 0 1 l m u
    first-ready =
        record { inside = omega (arith, pre.written); low = rw el (mild-at 0); middle = rw em (mild-at 3); high = rw eu (mild-at 6) }
      where
        small : (n : ℕ) → Small (read xs n)
        small n = record { small = pre.within n }

        mild-at : (i : ℕ) → MildRows (rows_from xs i)
        mild-at i = rows-mild (small i) (small (i + 1)) (small (i + 2))

    pub nine-made : {zs : List ℤ} → zs ≡ put_rows old 0 1 l m u → zs ≡ both_over 1 three xs
    nine-made e = e ∙ rw (el, em, eu) (first_ended three pre (turn-nine (first-begun three pre) (lit< tt) (nine-rows 1 0 xs pre.read (lit< tt))))
