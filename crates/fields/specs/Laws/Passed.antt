-- What is known of fields to which refusal 1 does not apply.
--
--   Known t n, known                   the tags and lengths that the rules admit
--   Passes last t body rest, passes    a field that passes, and those after it
--   all_pass                           each field of a sheet passes
--   Counts fs, counted                 tags 1, 4 and 5 stand once, and tag 6 at most once
use Rattle.std.specs.Prelude.{◌≡◌, refl, Bool, true, false, not, cond, ◌||◌, List, ℕ, ◌%◌, ◌≤◌, eqb, ltb, length}
use Rattle.std.proofs.Common.{sym, true≢false, ltb-false, eqb-true, leb-true}
use Rattle.std.proofs.lemmas.Bool.{not-false}
use Rattle.algebra.specs.Laws.Tests.{neither}
use Rattle.fields.specs.Fields.{Fields, field, bodies}
use Rattle.fields.specs.Tags.{once, at_most_once, tag_rules, admits, place_of, bad_from, any_wrong_count, bad_fields}

pub data Known (t n : ℕ) : Type 0 where
  one : t ≡ 1 → n ≡ 2 → Known t n
  two : t ≡ 2 → n ≡ 3 → Known t n
  three : t ≡ 3 → n ≡ 2 → Known t n
  six : t ≡ 6 → n ≡ 1 → Known t n
  four : t ≡ 4 → n % 4 ≡ 0 → Known t n
  five : t ≡ 5 → Known t n

pub known : (t n : ℕ) → admits tag_rules t n ≡ true → Known t n
known t n e = by (eqb t 1) (eqb t 2) (eqb t 3) (eqb t 6) (eqb t 4) (eqb t 5) refl refl refl refl refl refl e
  where
    by : (a b c d f g : Bool) → eqb t 1 ≡ a → eqb t 2 ≡ b → eqb t 3 ≡ c → eqb t 6 ≡ d → eqb t 4 ≡ f → eqb t 5 ≡ g
        → cond a (eqb n 2) (cond b (eqb n 3) (cond c (eqb n 2) (cond d (eqb n 1) (cond f (eqb (n % 4) 0) (cond g true false))))) ≡ true → Known t n
    by true b c d f g p q r s u v h = one (eqb-true t 1 p) (eqb-true n 2 h)
    by false true c d f g p q r s u v h = two (eqb-true t 2 q) (eqb-true n 3 h)
    by false false true d f g p q r s u v h = three (eqb-true t 3 r) (eqb-true n 2 h)
    by false false false true f g p q r s u v h = six (eqb-true t 6 s) (eqb-true n 1 h)
    by false false false false true g p q r s u v h = four (eqb-true t 4 u) (eqb-true (n % 4) 0 h)
    by false false false false false true p q r s u v h = five (eqb-true t 5 v)
    by false false false false false false p q r s u v h = absurd (true≢false (sym h))

-- a field that passes, and those after it: its tag does not fall, the rules admit it, and no other is bad
pub record Passes (last t : ℕ) (body : List ℕ) (rest : Fields) : Type 0 where
  pub risen : last ≤ place_of tag_rules t
  pub admitted : admits tag_rules t (length body) ≡ true
  pub others : bad_from (place_of tag_rules t) rest ≡ false

pub passes : (last t : ℕ) (body : List ℕ) (rest : Fields) → bad_from last (field t body rest) ≡ false → Passes last t body rest
unfolding bad_from
passes last t body rest e =
    let place = place_of tag_rules t in
    let fits = admits tag_rules t (length body) in
    let i = neither (ltb place last) (not fits || bad_from place rest) e in
    let j = neither (not fits) (bad_from place rest) i.1 in
    record { risen = ltb-false place last i.0; admitted = not-false fits j.0; others = j.1 }

pub all_pass : (fs : Fields) → bad_fields fs ≡ false → bad_from 0 fs ≡ false
unfolding bad_fields
all_pass fs e = (neither (bad_from 0 fs) (any_wrong_count tag_rules fs) e).0

pub record Counts (fs : Fields) : Type 0 where
  pub ones : length (bodies 1 fs) ≡ 1
  pub sixes : length (bodies 6 fs) ≤ 1
  pub fours : length (bodies 4 fs) ≡ 1
  pub fives : length (bodies 5 fs) ≡ 1

pub counted : (fs : Fields) → bad_fields fs ≡ false → Counts fs
unfolding bad_fields
counted fs e =
    let z = neither (bad_from 0 fs) (any_wrong_count tag_rules fs) e in
    let a = neither (not (once (n 1))) (not (at_most_once (n 6)) || (not (once (n 4)) || (not (once (n 5)) || false))) z.1 in
    let b = neither (not (at_most_once (n 6))) (not (once (n 4)) || (not (once (n 5)) || false)) a.1 in
    let c = neither (not (once (n 4))) (not (once (n 5)) || false) b.1 in
    let d = neither (not (once (n 5))) false c.1 in
    record {
      ones = is 1 a.0;
      sixes = leb-true (n 6) 1 (not-false (at_most_once (n 6)) b.0);
      fours = is 4 c.0;
      fives = is 5 d.0;
    }
  where
    n : ℕ → ℕ
    n t = length (bodies t fs)

    is : (t : ℕ) → not (once (n t)) ≡ false → n t ≡ 1
    is t d = eqb-true (n t) 1 (not-false (once (n t)) d)
