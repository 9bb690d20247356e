-- A walk over a sheet from place to place, as a program makes it that keeps the place itself.
--
--   end_short, end-cut, end_whole    where a field ends, as the code finds it
--   Rest s at fs                     fs are the fields of the sheet s from the place `at` on
--   begin, ended                     at the start of the walk, and at the end of the sheet
--   cut-here                         a field that has no end is cut short
--   Next s at r fs, next             a field that ends at r, and the fields from there on
use mathlib.Core.Path.{◌≡◌, refl, sym, ap, ◌∙◌}
use mathlib.Core.Bool.{cond}
use mathlib.Core.List.{List, [], ◌∷◌}
use Prim.Native.Nat.{ℕ, zero, suc, ◌+◌, ◌-◌, ◌≤◌, ◌<◌}
use native.Mathlib.Decide.{dec_le}
use native.Mathlib.Omega.{arith}
use borrow.Author.Tests.{le-leb, lt-leb}
use lib.Dec.{leb}
use lib.ListN.{length, take, drop, get_or, length-drop}
use lib.Seq.{drop-cons, drop-drop, drop-length, length-take-le}
use Rattle.fields.specs.Fields.{Fields, end, cut, field, first, parse, fields_of}
use Rattle.fields.specs.Inner.Places.{length_at, end_at}

-- ---- where a field ends

module _ (s : List ℕ) (at : ℕ) where
  pub end_short : length s < at + 3 → 0 ≡ end_at s at
  unfolding end_at
  end_short h = rw (lt-leb (at + 3) (length s) h) refl

  module _ (whole : at + 3 ≤ length s) {n : ℕ} (is : n ≡ length_at s at) where
    pub end-cut : length s < at + 3 + n → 0 ≡ end_at s at
    unfolding end_at
    end-cut h = rw (← is, le-leb (at + 3) (length s) whole, lt-leb (at + 3 + n) (length s) h) refl

    pub end_whole : at + 3 + n ≤ length s → at + 3 + n ≡ end_at s at
    unfolding end_at
    end_whole h = rw (← is, le-leb (at + 3) (length s) whole, le-leb (at + 3 + n) (length s) h) refl

-- ---- what the definition finds at a place

-- the three bytes of a tag and a length, and what follows
three : (s : List ℕ) (at : ℕ) → at + 3 ≤ length s → drop at s ≡ get_or s at 0 ∷ get_or s (at + 1) 0 ∷ get_or s (at + 2) 0 ∷ drop (at + 3) s
three s at h = from at (at + 1) (at + 2) (at + 3) (omega arith) (omega arith) (omega arith) h
  where
    from : (a b c d : ℕ) → suc a ≡ b → suc b ≡ c → suc c ≡ d → d ≤ length s → drop a s ≡ get_or s a 0 ∷ get_or s b 0 ∷ get_or s c 0 ∷ drop d s
    from a b c d p q r l =
        drop-cons s a 0 (omega arith)
        ∙ rw (p, drop-cons s b 0 (omega arith), q, drop-cons s c 0 (omega arith), r) refl

at_field : (f : ℕ) (s : List ℕ) (at : ℕ) → at + 3 ≤ length s
    → parse (suc f) (drop at s)
    ≡ cond
    (leb (length_at s at) (length (drop (at + 3) s)))
    (field (get_or s at 0) (take (length_at s at) (drop (at + 3) s)) (parse f (drop (length_at s at) (drop (at + 3) s))))
    cut
unfolding parse
at_field f s at h = ap (first (parse f)) (three s at h)

few : (f : ℕ) (bytes : List ℕ) → 0 < length bytes → length bytes < 3 → parse (suc f) bytes ≡ cut
unfolding parse
few f [] h k = absurd (omega (arith, h))
few f (a ∷ []) h k = refl
few f (a ∷ b ∷ []) h k = refl
few f (a ∷ b ∷ c ∷ bytes) h k = absurd (no (length bytes) k)
  where
    no : (n : ℕ) → suc (suc (suc n)) < 3 → ⊥
    no n h = omega arith

at-end : (f : ℕ) → parse f [] ≡ end
unfolding parse
at-end zero = refl
at-end (suc f) = refl

-- ---- the walk

pub record Rest (s : List ℕ) (at : ℕ) (fs : Fields) : Type 0 where
  pub fuel : ℕ
  pub reach : length s ≤ at + fuel
  pub inside : at ≤ length s
  pub so : fs ≡ parse fuel (drop at s)

pub begin : (s : List ℕ) → Rest s 0 (fields_of s)
unfolding fields_of
begin s = record { fuel = length s; reach = omega arith; inside = omega arith; so = refl }

pub record Next (s : List ℕ) (at r : ℕ) (fs : Fields) : Type 0 where
  pub more : Fields
  pub so : fs ≡ field (get_or s at 0) (take (r - (at + 3)) (drop (at + 3) s)) more
  pub rest : Rest s r more
  pub past : at + 3 ≤ r
  pub long : length (take (r - (at + 3)) (drop (at + 3) s)) ≡ r - (at + 3)

-- the fuel is not used up before the end
left : (n at f : ℕ) → n ≤ at + f → at < n → (g : ℕ) × (f ≡ suc g)
left n at zero h k = absurd (omega (arith, h, k))
left n at (suc g) h k = (g, refl)

module _ {s : List ℕ} {at : ℕ} {fs : Fields} (w : Rest s at fs) where
  pub ended : length s ≤ at → fs ≡ end
  ended h =
      let e : at ≡ length s = omega (arith, w.inside) in
      w.so ∙ rw (e, drop-length s) (at-end w.fuel)

  module _ (inside : at < length s) where
    one_less : (g : ℕ) × (w.fuel ≡ suc g)
    one_less = left (length s) at w.fuel w.reach inside

    opened : fs ≡ parse (suc one_less.0) (drop at s)
    opened = w.so ∙ ap (λ f. parse f (drop at s)) one_less.1

    pub cut-here : {r : ℕ} → r ≡ end_at s at → r ≡ 0 → fs ≡ cut
    unfolding end_at
    cut-here e z = opened ∙ by (dec_le (at + 3) (length s)) (dec_le (at + 3 + length_at s at) (length s)) (sym e ∙ z)
      where
        by : Dec (at + 3 ≤ length s) → Dec (at + 3 + length_at s at ≤ length s)
            → cond (leb (at + 3) (length s)) (cond (leb (at + 3 + length_at s at) (length s)) (at + 3 + length_at s at) 0) 0 ≡ 0
            → parse (suc one_less.0) (drop at s) ≡ cut
        by (no a) b d = few one_less.0 (drop at s) (rw (length-drop) (omega arith)) (rw (length-drop) (omega arith))
        by (yes a) (no b) d = at_field one_less.0 s at a ∙ rw (length-drop, lt-leb (length_at s at) (length s - (at + 3)) (omega arith)) refl
        by (yes a) (yes b) d = absurd (omega (arith, rw (le-leb (at + 3) (length s) a, le-leb (at + 3 + length_at s at) (length s) b) at d))

    pub next : {r : ℕ} → r ≡ end_at s at → (r ≡ 0 → ⊥) → Next s at r fs
    unfolding end_at
    next {r} e z = by (dec_le (at + 3) (length s)) (dec_le (at + 3 + length_at s at) (length s)) e
      where
        by : Dec (at + 3 ≤ length s) → Dec (at + 3 + length_at s at ≤ length s)
            → r ≡ cond (leb (at + 3) (length s)) (cond (leb (at + 3 + length_at s at) (length s)) (at + 3 + length_at s at) 0) 0
            → Next s at r fs
        by (no a) b d = absurd (z (d ∙ rw (lt-leb (at + 3) (length s) (omega arith)) refl))
        by (yes a) (no b) d = absurd (z (d ∙ rw (le-leb (at + 3) (length s) a, lt-leb (at + 3 + length_at s at) (length s) (omega arith)) refl))
        by (yes a) (yes b) d = there (d ∙ rw (le-leb (at + 3) (length s) a, le-leb (at + 3 + length_at s at) (length s) b) refl)
          where
            there : r ≡ at + 3 + length_at s at → Next s at r fs
            there q =
                let n : length_at s at ≡ r - (at + 3) = omega arith in
                let m : at + 3 + (r - (at + 3)) ≡ r = omega arith in
                record {
                  more = parse one_less.0 (drop r s);
                  so = opened
                      ∙ at_field one_less.0 s at a
                      ∙ rw (length-drop, le-leb (length_at s at) (length s - (at + 3)) (omega arith), drop-drop, n, m) refl;
                  rest = record { fuel = one_less.0; reach = omega (arith, one_less.1, w.reach); inside = omega arith; so = refl };
                  past = omega arith;
                  long = length-take-le (r - (at + 3)) (drop (at + 3) s) (rw (length-drop) (omega arith));
                }
