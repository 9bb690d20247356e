-- The readings that are read back.
--
--   reading-bytes-length    4 bytes for each reading
--   byte_of                 byte d of the four of reading j
--   readings-back           the readings within 2 ^ 31 that the bytes give
use Rattle.std.specs.Prelude.{◌≡◌, refl, List, [], ◌∷◌, ℕ, zero, suc, ◌+◌, ◌*◌, ◌/◌, ◌^◌, ◌<◌, ℤ, pos, nat_abs, length, get_or}
use Rattle.std.proofs.Common.{sym, ap, ◌∙◌, add-zero, zero-add, arith, length-append}
use Rattle.std.proofs.Math.ListN.{get_or-append}
use Rattle.algebra.specs.Laws.Tab.{is-tab}
use Rattle.contrasts.specs.Columns.{read}
use Rattle.numerals.specs.Numbers.{big, twos}
use Rattle.contents.specs.Contents.{reading_at, readings_of}
use Rattle.writing.specs.Writer.{bytes, complement, reading_bytes}
use Rattle.writing.proofs.Laws.Bytes.{bytes-length, four-back, complement-fits, twos_back}

pub reading-bytes-length : (xs : List ℤ) → length (reading_bytes xs) ≡ 4 * length xs
unfolding reading_bytes
reading-bytes-length [] = refl
reading-bytes-length (x ∷ xs) =
    length-append (bytes 4 (complement x)) (reading_bytes xs) ∙ rw (bytes-length 4 (complement x), reading-bytes-length xs) (omega arith)

byte_of : (xs : List ℤ) (j d : ℕ) → j < length xs → d < 4 → get_or (reading_bytes xs) (4 * j + d) 0 ≡ get_or (bytes 4 (complement (read xs j))) d 0
unfolding reading_bytes bytes
byte_of [] j d h k = absurd (omega (arith, h))
byte_of (x ∷ xs) zero d h k = rw (zero-add d) (get_or-append (bytes 4 (complement x)) (reading_bytes xs) 0 d (rw (bytes-length 4 (complement x)) k))
byte_of (x ∷ xs) (suc j) d h k =
    let e : 4 * suc j + d ≡ suc (suc (suc (suc (4 * j + d)))) = omega arith in
    rw e (byte_of xs j d (omega arith) k)

-- four bytes one by one are the four bytes
four_bytes : (x : ℕ) → big (get_or (bytes 4 x) 0 0 ∷ get_or (bytes 4 x) 1 0 ∷ get_or (bytes 4 x) 2 0 ∷ get_or (bytes 4 x) 3 0 ∷ []) ≡ big (bytes 4 x)
unfolding bytes
four_bytes x = refl

reading-back : (xs : List ℤ) (j : ℕ) → j < length xs → nat_abs (read xs j) < 2 ^ 31 → read xs j ≡ reading_at (reading_bytes xs) j
unfolding reading_at
reading-back xs j h k = sym (ap (twos 32) (written ∙ four-back (complement (read xs j)) (complement-fits (read xs j) k)) ∙ twos_back (read xs j) k)
  where
    at : ℕ → ℕ
    at i = get_or (reading_bytes xs) i 0

    first : at (4 * j) ≡ get_or (bytes 4 (complement (read xs j))) 0 0
    first = ap at (sym (add-zero (4 * j))) ∙ byte_of xs j 0 h (omega arith)

    written : big (at (4 * j) ∷ at (4 * j + 1) ∷ at (4 * j + 2) ∷ at (4 * j + 3) ∷ []) ≡ big (bytes 4 (complement (read xs j)))
    written = rw (first, byte_of xs j 1 h (omega arith), byte_of xs j 2 h (omega arith), byte_of xs j 3 h (omega arith)) (four_bytes (complement (read xs j)))

pub readings-back : (xs : List ℤ) → ((j : ℕ) → nat_abs (read xs j) < 2 ^ 31) → readings_of (reading_bytes xs) ≡ xs
unfolding readings_of
readings-back xs h =
    let n : length (reading_bytes xs) / 4 ≡ length xs = omega (arith, reading-bytes-length xs) in
    rw n (sym (is-tab (pos 0) xs (length xs) (reading_at (reading_bytes xs)) refl (λ j l. reading-back xs j l (h j))))
