-- The laws of a list that is worked part by part.
--
--   length_part, get_d_part     a part's length and its entries
--   making-none, making-all    no part is done; all are
--   as_long                    its length
--   room, room-now, shorter    where start is a place, the next part is within the old list, and within ys, and what is left is shorter
--   room-from                  and the next part is one of those that the old list falls into
--   width, next                what is lent on has the width of a part, and is the old list's
--   joined                     what comes back, if it is the new list's part, makes one part more
--
-- A part from `start` to `start + w` has the width `start + w - start` where code lends it, and the laws speak of that width.
use Rattle.std.specs.Prelude.{◌≡◌, refl, List, ◌++◌, ℕ, ◌+◌, ◌-◌, ◌*◌, ◌<◌, ◌≤◌, length, get_or, take, drop}
use Rattle.std.proofs.Common.{sym, ◌∙◌, append_assoc, append-nil, mul-le-mul_right, zero-mul, arith, length-drop, length-append, length-take-le, get_or-take, get_or-drop, take_at, drop_at, drop-drop, take-add}
use Rattle.std.proofs.Math.Decide.{dec_lt}
use Rattle.std.proofs.Math.Seq.{take-length, drop-length}
use Rattle.algebra.specs.Laws.Parts.{part, Making}

module _ {A : Type 0} where
  module _ (w start : ℕ) (xs : List A) where
    pub length_part : start + w ≤ length xs → length (part w start xs) ≡ w
    length_part room = length-take-le w (drop start xs) (simp length-drop (omega arith))

    pub get_d_part : (z : A) (j : ℕ) → j < w → get_or (part w start xs) j z ≡ get_or xs (start + j) z
    get_d_part z j k = rw (get_or-take w (drop start xs) j z k, get_or-drop)

pub making-none : {A : Type 0} {w : ℕ} {new old : List A} (count : ℕ) → length old ≡ count * w → length new ≡ length old → Making w new old 0 old
making-none {w = w} count whole same =
    record { count = count; whole = whole; same = same; parts = 0; some = omega arith; from = sym (zero-mul w); so = refl }

module _ {A : Type 0} {w : ℕ} {new old : List A} {start : ℕ} {ys : List A} (m : Making w new old start ys) where
  inside : start ≤ length old
  inside = omega (arith, m.whole, m.from, mul-le-mul_right w m.some)

  in-front : length (take start new) ≡ start
  in-front = length-take-le start new (omega (arith, m.same, inside))

  before : take start ys ≡ take start new
  before = rw m.so (take_at (take start new) (drop start old) start in-front)

  behind : drop start ys ≡ drop start old
  behind = rw m.so (drop_at (take start new) (drop start old) start in-front)

  pub as_long : length ys ≡ length old
  as_long = rw (m.so, length-append, in-front, length-drop) (omega (arith, inside))

  pub making-all : length ys ≤ start → ys ≡ new
  making-all h =
      let l : start ≡ length old = omega (arith, inside, as_long) in
      m.so ∙ rw (l, drop-length, append-nil) (rw (← m.same) (take-length new))

  pub width : start + w - start ≡ w
  width = omega arith

  module _ (more : start < length ys) where
    low : m.parts < m.count
    low = by (dec_lt m.parts m.count)
      where
        by : Dec (m.parts < m.count) → m.parts < m.count
        by (yes d) = d
        by (no d) = absurd (let le : m.count ≤ m.parts = omega arith in omega (arith, m.whole, m.from, as_long, mul-le-mul_right w le))

    pub room : start + w ≤ length old
    room = omega (arith, m.whole, m.from, mul-le-mul_right w low)

    pub room-now : start + w ≤ length ys
    room-now = rw as_long room

    pub room-from : m.parts * w + w ≤ length old
    room-from = rw (← m.from) room

    pub shorter : 0 < w → length old - (start + w) < length old - start
    shorter some = omega (arith, room, some)

    pub next : part (start + w - start) start ys ≡ part w (m.parts * w) old
    next = rw (width, behind, m.from)

    pub joined : (zs : List A) → zs ≡ part w (m.parts * w) new
        → Making w new old (start + w) (take start ys ++ (zs ++ drop (start + w - start) (drop start ys)))
    joined zs e =
        record {
          count = m.count;
          whole = m.whole;
          same = m.same;
          parts = m.parts + 1;
          some = omega (arith, low);
          from = omega (arith, m.from);
          so = rw (width, before, behind, e, ← m.from, drop-drop, take-add, append_assoc);
        }
