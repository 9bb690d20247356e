-- The sheet of a plan, readings and marks, and the bytes of a plan alone.
--
--   bytes n x               x in n bytes, the highest first
--   bytes_of fs              the bytes of fields
--   each t n body rest       n fields of one tag, and then the rest
--   complement z             z in two's complement of 32 bits
--   reading_bytes xs         the bytes of readings
--   added_body p i           the body of the field of added factor i
--   block_body p i           and of block word i
--   repeats_fields p rest    the field of the repeats where runs are not made once, and then the rest
--   head_fields p rest       the fields of a plan, and then the rest
--   sheet_fields, sheet_of   the fields and the bytes of the whole sheet
--   head_of p                the bytes of a plan alone
--   settled p               the plan p with 0 at the places beyond its counts
use Rattle.std.specs.Prelude.{cond, List, [], ◌∷◌, ◌++◌, ℕ, zero, suc, ◌-◌, ◌/◌, ◌%◌, ◌^◌, eqb, ltb, ℤ, pos, negsuc, length, get_or}
use Rattle.algebra.specs.Tab.{tab}
use Rattle.contrasts.specs.Limits.{most_added, most_blocks}
use Rattle.plan.specs.declared.types.Plan.{Plan}
use Rattle.fields.specs.Fields.{Fields, end, cut, field}

-- S2: "All numbers are big-endian."
unfoldable pub bytes : ℕ → ℕ → List ℕ
bytes zero x = []
bytes (suc n) x = (x / 256 ^ n) % 256 ∷ bytes n x

-- S1: "Each field is a one-byte tag, a two-byte length and its body."
unfoldable pub bytes_of : Fields → List ℕ
bytes_of end = []
bytes_of cut = []
bytes_of (field t body rest) = t ∷ (bytes 2 (length body) ++ (body ++ bytes_of rest))

unfoldable pub each : ℕ → ℕ → (ℕ → List ℕ) → Fields → Fields
each t zero body rest = rest
each t (suc n) body rest = field t (body 0) (each t n (λ i. body (suc i)) rest)

-- S7: "in two's complement"
abbrev pub complement : ℤ → ℕ
complement (pos n) = n
complement (negsuc n) = 2 ^ 32 - suc n

-- S7: "readings, 4 bytes each"
unfoldable pub reading_bytes : List ℤ → List ℕ
reading_bytes [] = []
reading_bytes (x ∷ xs) = bytes 4 (complement x) ++ reading_bytes xs

-- S5: "word, sign byte"
abbrev pub added_body : Plan → ℕ → List ℕ
added_body p i = bytes 2 (get_or p.words i 0) ++ (get_or p.signs i 0 ∷ [])

-- S6: "the word": its 16 bits, for a set of letters (P6) as for the number of a three-level plan (P14)
abbrev pub block_body : Plan → ℕ → List ℕ
block_body p i = bytes 2 (get_or p.blockwords i 0)

-- S14: "tag 6 holds r in one byte [..], and without it r is 1"; N16: "a tag 6 holding 1 also gives 16"
abbrev pub repeats_fields : Plan → Fields → Fields
repeats_fields p rest = each 6 (cond (eqb p.repeats 1) 0 1) (λ i. p.repeats ∷ []) rest

-- S4 to S6: "Tag 1, once [..]. Tag 2, per added factor [..]. Tag 3, per block word [..]."; S14: tag 6 "stands between tags 3 and 4"
abbrev pub head_fields : Plan → Fields → Fields
head_fields p rest =
    field 1 (p.levels ∷ p.k ∷ []) (each 2 p.added (added_body p) (each 3 p.blocks (block_body p) (repeats_fields p rest)))

-- S7, S8: "Tag 4, once [..]. Tag 5, once [..]."
unfoldable pub sheet_fields : Plan → List ℤ → List ℕ → Fields
sheet_fields p xs marks = head_fields p (field 4 (reading_bytes xs) (field 5 marks end))

unfoldable pub sheet_of : Plan → List ℤ → List ℕ → List ℕ
sheet_of p xs marks = bytes_of (sheet_fields p xs marks)

-- S4 to S6, S14: the fields of the plan, and no others
unfoldable pub head_of : Plan → List ℕ
head_of p = bytes_of (head_fields p end)

-- P10, P11: "Places beyond a plan's counts are ignored; the reader sets them to 0."
unfoldable pub settled : Plan → Plan
settled p = record {
  levels = p.levels;
  k = p.k;
  added = p.added;
  words = tab most_added (λ i. cond (ltb i p.added) (get_or p.words i 0) 0);
  signs = tab most_added (λ i. cond (ltb i p.added) (get_or p.signs i 0) 0);
  blocks = p.blocks;
  blockwords = tab most_blocks (λ i. cond (ltb i p.blocks) (get_or p.blockwords i 0) 0);
  repeats = p.repeats;
}
