-- The laws of a list that a loop writes in turns, at places a fixed distance apart.
--
--   begun, ended             before the first turn; after the last, when it is all f
--   as_long                  its length
--   within                   the places of a turn are places of the list
--   unread                   those of turn i still hold g
--   opened, put, closed      a turn: it is opened, each of its places is written, it is closed
use Rattle.std.specs.Prelude.{◌≡◌, List, ℕ, ◌+◌, ◌*◌, ◌/◌, ◌%◌, ◌<◌, length, get_or, set}
use Rattle.std.proofs.Common.{sym, ap, ◌∙◌, mod-lt, div-lt_iff_lt-mul, div-add-mod', add_comm, add_assoc, add-zero, zero-mul, suc-mul, add-one, arith}
use Rattle.std.proofs.Math.Arith.{digits_lt, digits_div, digits_mod}
use Rattle.algebra.specs.Tab.{tab}
use Rattle.algebra.specs.Laws.Tab.{length-tab}
use Rattle.algebra.specs.Laws.Turns.{mix, mix-start, mix-read, mix-step, mix-end}
use Rattle.algebra.specs.Laws.Spread.{key, Written, Turned}

-- ---- the places

level-lt : (l h p : ℕ) → 0 < h → p < l * h → p / h < l
level-lt l h p some k = (div-lt_iff_lt-mul some).1 k

key-lt : (l h p : ℕ) → 0 < h → p < l * h → key l h p < h * l
key-lt l h p some k = digits_lt (mod-lt p some) (level-lt l h p some k)

module _ (l h i d : ℕ) (low : i < h) where
  level-at : (i + d * h) / h ≡ d
  level-at = rw (add_comm i (d * h)) (digits_div d low)

  offset_at : (i + d * h) % h ≡ i
  offset_at = rw (add_comm i (d * h)) (digits_mod d low)

  key-at : key l h (i + d * h) ≡ i * l + d
  key-at = rw (level-at, offset_at)

  one_place : d < l → (q : ℕ) → q < l * h → key l h q ≡ key l h (i + d * h) → q ≡ i + d * h
  one_place top q k same =
      let lq = level-lt l h q (omega arith) k in
      let s : q % h * l + q / h ≡ i * l + d = same ∙ key-at in
      let a : q % h ≡ i = sym (digits_div (q % h) lq) ∙ ap (λ (x : ℕ). x / l) s ∙ digits_div i top in
      let b : q / h ≡ d = sym (digits_mod (q % h) lq) ∙ ap (λ (x : ℕ). x % l) s ∙ digits_mod i top in
      sym (div-add-mod' q h) ∙ rw (a, b) (add_comm (d * h) i)

pub within : {l h i d : ℕ} → i < h → d < l → i + d * h < l * h
within {h = h} {i = i} {d = d} low top = rw (add_comm i (d * h)) (digits_lt top low)

-- ---- the turns

module _ {A : Type 0} (z : A) {l h : ℕ} {f g : ℕ → A} where
  pub begun : (xs : List A) → length xs ≡ l * h → ((p : ℕ) → p < l * h → get_or xs p z ≡ g p) → Turned l h f g 0 xs
  begun xs len same =
      record { some = omega arith; upto = record { so = rw (zero-mul l) (mix-start z (key l h) f g (l * h) xs len same) } }

  module _ {i : ℕ} {ys : List A} (w : Turned l h f g i ys) where
    pub as_long : length ys ≡ l * h
    as_long = rw w.upto.so (length-tab (l * h) (mix (key l h) f g (i * l)))

    pub ended : 0 < h → i ≡ h → ys ≡ tab (l * h) f
    ended some e = w.upto.so ∙ rw e (mix-end z (key l h) f g (l * h) (h * l) (λ p k. key-lt l h p some k))

    pub unread : i < h → (d : ℕ) → d < l → get_or ys (i + d * h) z ≡ g (i + d * h)
    unread low d top =
        rw w.upto.so
        (mix-read z (key l h) f g (l * h) (i * l) (i + d * h) (within low top) (rw (key-at l h i d low) (omega arith)))

    pub opened : Written l h f g (i * l + 0) ys
    opened = rw (add-zero (i * l)) w.upto

  module _ {i : ℕ} (low : i < h) where
    pub put : (d : ℕ) → d < l → {ys : List A} → Written l h f g (i * l + d) ys → (v : A) → v ≡ f (i + d * h)
        → Written l h f g (i * l + (d + 1)) (set ys (i + d * h) v)
    put d top w v e =
        record {
          so = rw (w.so, e, ← (add_assoc (i * l) d 1))
              (mix-step z (key l h) f g (l * h) (i * l + d) (i + d * h) (within low top) (key-at l h i d low)
              (λ q r. one_place l h i d low top q r));
        }

    pub closed : {ys : List A} → Written l h f g (i * l + l) ys → Turned l h f g (i + 1) ys
    closed w = record { some = omega arith; upto = rw (add-one i, suc-mul i l) w }
