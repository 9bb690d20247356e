-- The sheet that is written has bytes only, so that it can be lent to the calls.
--
--   plain-append, plain-list                 of two lists one after the other; of a list by its places
--   plain-bytes                              the bytes of a number
--   plain-readings                           and of readings
--   PlainFields, plain-fields, plain-each    of fields
use Rattle.std.specs.Prelude.{List, [], ◌∷◌, ◌++◌, ℕ, zero, suc, ◌/◌, ◌^◌, ◌<◌, ℤ, length, get_or}
use Rattle.std.proofs.Common.{mod-lt, arith}
use Rattle.fields.specs.Fields.{Fields, end, cut, field}
use Rattle.writing.specs.Writer.{bytes, bytes_of, each, complement, reading_bytes}
use Rattle.writing.specs.RoundTrip.{AllBytes}

pub plain-append : (bs cs : List ℕ) → AllBytes bs → AllBytes cs → AllBytes (bs ++ cs)
plain-append [] cs a c = c
plain-append (b ∷ bs) cs a c = (a.0, plain-append bs cs a.1 c)

pub plain-list : (bs : List ℕ) → ((i : ℕ) → i < length bs → get_or bs i 0 < 256) → AllBytes bs
plain-list [] h = tt
plain-list (b ∷ bs) h = (h 0 (omega arith), plain-list bs (λ i k. h (suc i) (omega arith)))

pub plain-bytes : (n x : ℕ) → AllBytes (bytes n x)
unfolding bytes
plain-bytes zero x = tt
plain-bytes (suc n) x = (mod-lt (x / 256 ^ n) (omega arith), plain-bytes n x)

pub plain-readings : (xs : List ℤ) → AllBytes (reading_bytes xs)
unfolding reading_bytes
plain-readings [] = tt
plain-readings (x ∷ xs) = plain-append (bytes 4 (complement x)) (reading_bytes xs) (plain-bytes 4 (complement x)) (plain-readings xs)

-- tags and bodies
abbrev pub PlainFields : Fields → Type 0
PlainFields end = Unit
PlainFields cut = Unit
PlainFields (field t body rest) = (t < 256) × AllBytes body × PlainFields rest

pub plain-fields : (fs : Fields) → PlainFields fs → AllBytes (bytes_of fs)
unfolding bytes_of
plain-fields end w = tt
plain-fields cut w = tt
plain-fields (field t body rest) w =
    (w.0, plain-append (bytes 2 (length body)) (body ++ bytes_of rest) (plain-bytes 2 (length body)) (plain-append body (bytes_of rest) w.1 (plain-fields rest w.2)))

pub plain-each : (t n : ℕ) (body : ℕ → List ℕ) (rest : Fields) → t < 256 → ((i : ℕ) → i < n → AllBytes (body i)) → PlainFields rest → PlainFields (each t n body rest)
unfolding each
plain-each t zero body rest h b w = w
plain-each t (suc n) body rest h b w = (h, b 0 (omega arith), plain-each t n (λ i. body (suc i)) rest h (λ i k. b (suc i) (omega arith)) w)
