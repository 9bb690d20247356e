-- That the claims of `EveryBlocking.antt` hold, of the lists `blockings_of k b`.
--
--   list_at                  what is known of list i: it has b words of k letters, they rise, and the plan check accepts them
--   alike                    a plan with the block words of a list is the list's plan, with its runs made so often
--   any-repeats, once-made   however often runs are made, the same lists are accepted
--   every-blocking, out_of_range    the proofs
use Rattle.std.specs.Prelude.{◌≡◌, ◌⊎◌, Bool, true, false, cond, ◌||◌, List, [], ◌++◌, ℕ, ◌+◌, ◌*◌, ◌-◌, ◌^◌, ◌<◌, ◌≤◌, eqb, ltb, length, get_or, take, drop, replicate}
use Rattle.std.proofs.Math.Path.{refl, sym}
use Rattle.std.proofs.Common.{ap, ◌∙◌, inl, inr, mul-le-mul_right, suc-mul, arith, length-append, length-drop, pow_mono, ext_get_or, get_or-take, get_or-drop, drop_at, length-take-le}
use Rattle.std.proofs.Math.Bool.{or-true}
use Rattle.std.proofs.Math.Nat.{mul-le-mul}
use Rattle.std.proofs.Math.Decide.{dec_lt}
use borrow.Author.Tests.{lt-ltb, le-ltb}
use Rattle.std.proofs.Math.ListN.{get_or-append}
use Rattle.std.proofs.Math.Seq.{take-append_seam}
use Rattle.algebra.specs.Laws.Among.{in-at, at_of}
use Rattle.algebra.specs.Laws.Joined.{flat-at}
use Rattle.algebra.specs.Laws.Tab.{get_d_past}
use Rattle.contrasts.specs.Limits.{is_repeats, most_readings}
use Rattle.contrasts.proofs.Laws.Limits.{repeats-few}
use Rattle.plan.specs.declared.types.Plan.{Plan}
use Rattle.plan.specs.Check.{plan_refused}
use Rattle.plan.specs.Outcome.{given, refused}
use Rattle.plan.specs.Plan.{runs_of}
use Rattle.plan.proofs.Laws.Accepted.{accepted}
use Rattle.plan.proofs.Laws.Accepts.{accepts, again, made_again}
use Rattle.plan.proofs.Laws.Alike.{Alike, same-refused}
use Rattle.plan.proofs.Laws.Answers.{refused-with, given-with, unwritten, written_new, given_is}
use Rattle.plan.proofs.Laws.Sizes.{runs-two}
use Rattle.blockings.specs.Blockings.{strictly_rising, blocked_plan, blockings_of, blocking_words, bad_factor_count, bad_word_count, blockings_refused, blockings_column}
use Rattle.blockings.proofs.Laws.Rising.{rising}
use Rattle.blockings.proofs.Laws.Members.{only, every, wide, word-count}
use Rattle.blockings.proofs.Laws.Order.{in-order}
use Rattle.promises.specs.Promised.{promised_check, promised_blockings}
use Rattle.claims.specs.EveryBlocking.{block_word, Blocked, list_word, HasList, TheLists, left_at, Writes, EveryBlocking, OutOfRange}

-- ---- plans

-- the block words of two levels are sets of letters, and none is a number
words-two : (levels blocks : ℕ) (xs : List ℕ) → levels ≡ 2 → take (cond (eqb levels 3) 0 blocks) xs ≡ take blocks xs
words-two levels blocks xs e = rw e refl

numbers-two : (levels blocks : ℕ) (xs : List ℕ) → levels ≡ 2 → take (cond (eqb levels 3) blocks 0) xs ≡ []
numbers-two levels blocks xs e = rw e refl

none-taken : (n : ℕ) (xs : List ℕ) → n ≡ 0 → take n xs ≡ []
none-taken n xs e = rw e refl

module _ {k b : ℕ} {p : Plan} (q : Blocked k b p) (ws : List ℕ) (long : length ws ≡ b) (same : (j : ℕ) → j < b → block_word p j ≡ get_or ws j 0) where
  first-words : take b p.blockwords ≡ ws
  first-words =
      let taken : length (take b p.blockwords) ≡ b = length-take-le b p.blockwords q.placed in
      ext_get_or 0 (take b p.blockwords) ws (taken ∙ sym long)
      (λ j h. let l : j < b = omega (arith, taken) in get_or-take b p.blockwords j 0 l ∙ same j l)

  alike : Alike p (again p.repeats (blocked_plan k ws))
  alike = record {
    levels = q.two;
    k = q.factors;
    added = q.none-added;
    words = none-taken p.added p.words q.none-added;
    signs = none-taken p.added p.signs q.none-added;
    blocks = q.blocks ∙ sym long;
    blockwords =
        words-two p.levels p.blocks p.blockwords q.two
        ∙ ap (λ (n : ℕ). take n p.blockwords) q.blocks
        ∙ first-words
        ∙ sym (take-append_seam ws (replicate (4 - length ws) 0));
    numbers = numbers-two p.levels p.blocks p.blockwords q.two;
    repeats = refl;
  }

-- ---- repeats

module _ (k : ℕ) (few : k ≤ 5) (ws : List ℕ) where
  -- 32 runs made 8 times are 256 readings
  within : (r n : ℕ) → r ≤ 8 → n ≡ 2 ^ k → n * r ≤ most_readings
  unfolding most_readings
  within r n h e =
      let runs : n ≤ 32 = rw e (pow_mono {j = 5} few) in
      omega (arith, mul-le-mul runs h)

  any-repeats : (r : ℕ) → is_repeats r ≡ true → plan_refused (blocked_plan k ws) ≡ 0 → plan_refused (again r (blocked_plan k ws)) ≡ 0
  any-repeats r h e =
      let p = blocked_plan k ws in
      accepts (again r p) (made_again p r h (within r (runs_of p) (repeats-few r h).1 (runs-two p refl)) (accepted p e))

  once-made : (r : ℕ) → plan_refused (again r (blocked_plan k ws)) ≡ 0 → plan_refused (blocked_plan k ws) ≡ 0
  unfolding is_repeats
  once-made r e =
      let q = again r (blocked_plan k ws) in
      accepts (blocked_plan k ws) (made_again q 1 refl (within 1 (runs_of q) (omega arith) (runs-two q refl)) (accepted q e))

-- ---- the lists

module _ (k b : ℕ) (i : ℕ) (h : i < length (blockings_of k b)) where
  list_at : (length (get_or (blockings_of k b) i []) ≡ b) × ((j : ℕ) → j < b → list_word (blockings_of k b) i j < 2 ^ k)
      × (strictly_rising (get_or (blockings_of k b) i []) ≡ true) × (plan_refused (blocked_plan k (get_or (blockings_of k b) i [])) ≡ 0)
  list_at = only k b (in-at [] (blockings_of k b) i h)

module _ (k b : ℕ) (few : k ≤ 5) where
  the-lists : TheLists k b (blockings_of k b)
  the-lists = record { within = λ i j h. (list_at k b i h).1 j; rising = rises; accepted = taken; all = found; in-order = first; once = differ }
    where
      rises : (i j : ℕ) → i < length (blockings_of k b) → j + 1 < b → list_word (blockings_of k b) i j < list_word (blockings_of k b) i (j + 1)
      rises i j h l =
          let s = list_at k b i h in
          (rising (get_or (blockings_of k b) i [])).0 s.2 j (omega (arith, s.0))

      taken : (i : ℕ) → i < length (blockings_of k b) → (p : Plan) → Blocked k b p → HasList b (blockings_of k b) i p → promised_check p ≡ given tt
      taken i h p q same =
          let s = list_at k b i h in
          let ws = get_or (blockings_of k b) i [] in
          given-with (plan_refused p) tt (same-refused (alike q ws s.0 same) ∙ any-repeats k few ws p.repeats q.repeats s.3)

      found : (p : Plan) → Blocked k b p → ((j : ℕ) → j + 1 < b → block_word p j < block_word p (j + 1)) → promised_check p ≡ given tt
          → (i : ℕ) × (i < length (blockings_of k b)) × HasList b (blockings_of k b) i p
      found p q up e =
          let ws = take b p.blockwords in
          let long : length ws ≡ b = length-take-le b p.blockwords q.placed in
          let at : (j : ℕ) → j < b → block_word p j ≡ get_or ws j 0 = λ j l. sym (get_or-take b p.blockwords j 0 l) in
          let fine = once-made k few ws p.repeats (sym (same-refused (alike q ws long at)) ∙ (given_is (plan_refused p) tt (sym e)).0) in
          let up-there = (rising ws).1 (λ j l.
          let in_b : j + 1 < b = omega (arith, long) in
          rw (← (at j (omega arith)), ← (at (j + 1) in_b)) (up j in_b)) in
          let m = at_of [] (blockings_of k b) ((every k b ws long (λ j l. rw (← (at j (omega (arith, long)))) (q.bits j (omega (arith, long))))).1 (up-there, fine)) in
          (m.0, m.1, λ j l. at j l ∙ ap (λ (vs : List ℕ). get_or vs j 0) m.2)

      first : (i j : ℕ) → i < j → j < length (blockings_of k b)
          → (m : ℕ) × (m < b) × ((l : ℕ) → l < m → list_word (blockings_of k b) i l ≡ list_word (blockings_of k b) j l)
          × (list_word (blockings_of k b) i m < list_word (blockings_of k b) j m)
      first i j h l = let d = in-order k b i j h l in (d.place, inside d.place d.lower (dec_lt d.place b), d.same, d.lower)
        where
          inside : (m : ℕ) → list_word (blockings_of k b) i m < list_word (blockings_of k b) j m → Dec (m < b) → m < b
          inside m lower (yes d) = d
          inside m lower (no d) =
              absurd (omega (arith, lower, get_d_past 0 (get_or (blockings_of k b) j []) m (omega (arith, (list_at k b j l).0))))

      differ : (i j : ℕ) → i < j → j < length (blockings_of k b)
          → ((m : ℕ) → m < b → list_word (blockings_of k b) i m ≡ list_word (blockings_of k b) j m) → ⊥
      differ i j h l same = let d = first i j h l in omega (arith, d.3, same d.0 d.1)

-- ---- the call

module _ (k b : ℕ) (column : List ℕ) where
  -- its answer and its column where it refuses with n, and where it does not
  refuses : (n : ℕ) → (n ≡ 0 → ⊥) → blockings_refused k b (length column) ≡ n
      → ((promised_blockings k b column).answer ≡ refused n) × ((promised_blockings k b column).column ≡ column)
  unfolding blockings_column
  refuses n h e = (rw e (refused-with n (length (blockings_of k b)) h), rw e (sym (unwritten n _ column h)))

  made : blockings_refused k b (length column) ≡ 0
      → (promised_blockings k b column).column ≡ blocking_words k b ++ drop (length (blocking_words k b)) column
  unfolding blockings_column
  made e = sym (written_new (blockings_refused k b (length column)) _ column e)

module _ (k b : ℕ) (small : 2 ≤ k) (few : k ≤ 5) (some : 1 ≤ b) (three : b ≤ 3) (column : List ℕ) where
  -- neither 3 nor 17 applies, so the number goes by the places
  by-room : (t : Bool) → ltb (length column) (length (blocking_words k b)) ≡ t → blockings_refused k b (length column) ≡ cond t 18 0
  unfolding blockings_refused bad_factor_count bad_word_count
  by-room t e = rw (le-ltb k 2 small, le-ltb 5 k few, le-ltb b 1 some, le-ltb 3 b three, e) refl

  enough : length (blockings_of k b) * b ≤ length column → blockings_refused k b (length column) ≡ 0
  enough h = by-room false (le-ltb (length column) (length (blocking_words k b)) (rw (word-count k b) h))

  too_few : length column < length (blockings_of k b) * b → blockings_refused k b (length column) ≡ 18
  too_few h = by-room true (lt-ltb (length column) (length (blocking_words k b)) (rw (word-count k b) h))

module _ (k b : ℕ) (column : List ℕ) (e : blockings_refused k b (length column) ≡ 0) where
  word-there : (i j : ℕ) → i < length (blockings_of k b) → j < b → left_at k b column (i * b + j) ≡ list_word (blockings_of k b) i j
  word-there i j h l =
      let lists = blockings_of k b in
      let inside : i * b + j < length (blocking_words k b) = rw (word-count k b) (before i j (length lists) h l) in
      ap (λ (xs : List ℕ). get_or xs (i * b + j) 0) (made k b column e)
      ∙ get_or-append (blocking_words k b) (drop (length (blocking_words k b)) column) 0 (i * b + j) inside
      ∙ flat-at b 0 lists (wide k b) i j h l
    where
      before : (i j n : ℕ) → i < n → j < b → i * b + j < n * b
      before i j n h l = omega (arith, l, mul-le-mul_right b h, suc-mul i b)

  kept : (m : ℕ) → length (blockings_of k b) * b ≤ m → left_at k b column m ≡ get_or column m 0
  kept m h =
      let ws = blocking_words k b in
      let n = length ws in
      let at : m ≡ n + (m - n) = omega (arith, word-count k b) in
      ap (λ (xs : List ℕ). get_or xs m 0) (made k b column e)
      ∙ rw (at, ← (get_or-drop n (ws ++ drop n column) (m - n) 0), drop_at ws (drop n column) n refl, get_or-drop n column (m - n) 0) refl

  long : length (blockings_of k b) * b ≤ length column → length (promised_blockings k b column).column ≡ length column
  long h =
      let ws = blocking_words k b in
      ap length (made k b column e)
      ∙ rw (length-append ws (drop (length ws) column), length-drop) (omega (arith, word-count k b))

module _ (k b : ℕ) (small : 2 ≤ k) (few : k ≤ 5) (some : 1 ≤ b) (three : b ≤ 3) where
  writes : Writes k b (blockings_of k b)
  writes = record {
    answered = λ column h. given-with (blockings_refused k b (length column)) (length (blockings_of k b)) (room column h);
    words = λ column h. word-there k b column (room column h);
    untouched = λ column m l. untouched column m l (dec_lt (length column) (length (blockings_of k b) * b));
    as_long = λ column. as_long column (dec_lt (length column) (length (blockings_of k b) * b));
    refused-18 = stops;
  }
    where
      room : (column : List ℕ) → length (blockings_of k b) * b ≤ length column → blockings_refused k b (length column) ≡ 0
      room column h = enough k b small few some three column h

      stops : (column : List ℕ) → length column < length (blockings_of k b) * b
          → ((promised_blockings k b column).answer ≡ refused 18) × ((promised_blockings k b column).column ≡ column)
      stops column h = refuses k b column 18 (λ z. omega (arith, z)) (too_few k b small few some three column h)

      untouched : (column : List ℕ) (m : ℕ) → length (blockings_of k b) * b ≤ m → Dec (length column < length (blockings_of k b) * b)
          → left_at k b column m ≡ get_or column m 0
      untouched column m l (yes h) = ap (λ (xs : List ℕ). get_or xs m 0) (stops column h).1
      untouched column m l (no h) = kept k b column (room column (omega arith)) m l

      as_long : (column : List ℕ) → Dec (length column < length (blockings_of k b) * b) → length (promised_blockings k b column).column ≡ length column
      as_long column (yes h) = ap length (stops column h).1
      as_long column (no h) = long k b column (room column (omega arith)) (omega arith)

pub every-blocking : EveryBlocking
every-blocking k b small few some three = (blockings_of k b, the-lists k b few, writes k b small few some three)

pub out_of_range : OutOfRange
unfolding blockings_refused bad_factor_count bad_word_count
out_of_range = record {
  factors = λ k b column h. refuses k b column 3 (λ z. omega (arith, z)) (rw (outside k 2 5 h) refl);
  words = λ k b column small few h. refuses k b column 17 (λ z. omega (arith, z)) (rw (le-ltb k 2 small, le-ltb 5 k few, outside b 1 3 h) refl);
}
  where
    outside : (n low high : ℕ) → (n < low) ⊎ (high < n) → (ltb n low || ltb high n) ≡ true
    outside n low high (inl h) = rw (lt-ltb n low h) refl
    outside n low high (inr h) = rw (lt-ltb high n h) (or-true (ltb n low))
