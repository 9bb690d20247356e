-- The bytes of fields give the fields.
--
--   Whole fs     no field is cut short, and each body's length has two bytes
--   read_back    fields that are written are read
use Rattle.std.specs.Prelude.{◌≡◌, refl, cond, ◌++◌, ℕ, zero, suc, ◌≤◌, ◌<◌, leb, length, take, drop}
use Rattle.std.proofs.Common.{ap, ◌∙◌, le_refl, arith, le-leb, length-append, take_at, drop_at}
use Rattle.fields.specs.Fields.{Fields, end, cut, field, parse, fields_of}
use Rattle.writing.specs.Writer.{bytes, bytes_of}
use Rattle.writing.proofs.Laws.Bytes.{two_back}

abbrev pub Whole : Fields → Type 0
Whole end = Unit
Whole cut = ⊥
Whole (field t body rest) = (length body < 65536) × Whole rest

parsed : (f : ℕ) (fs : Fields) → Whole fs → length (bytes_of fs) ≤ f → parse f (bytes_of fs) ≡ fs
unfolding bytes_of parse bytes
parsed zero end w h = refl
parsed (suc f) end w h = refl
parsed f cut w h = absurd w
parsed zero (field t body rest) w h = absurd (omega (arith, h))
parsed (suc f) (field t body rest) w h =
    ap
    (λ n. cond (leb n (length (body ++ bytes_of rest))) (field t (take n (body ++ bytes_of rest)) (parse f (drop n (body ++ bytes_of rest)))) cut)
    (two_back (length body) w.0)
    ∙ rw (
      le-leb (length body) (length (body ++ bytes_of rest)) (rw length-append (omega arith)),
      take_at body (bytes_of rest) (length body) refl,
      drop_at body (bytes_of rest) (length body) refl,
      parsed f rest w.1 (omega (arith, h, length-append body (bytes_of rest))),
    )
    refl

pub read_back : (fs : Fields) → Whole fs → fields_of (bytes_of fs) ≡ fs
unfolding fields_of
read_back fs w = parsed (length (bytes_of fs)) fs w (le_refl (length (bytes_of fs)))
