-- What numbers in decimal stand for: the digits are those of the number, and the first of them is no zero.
--
--   worth v ds         the number that the digits ds make after those of v
--   decimal-worth      the digits of a number make that number
--   decimal-first      a number whose first digit is 0 is 0
use Rattle.std.specs.Prelude.{◌≡◌, refl, List, [], ◌∷◌, ◌++◌, ℕ, zero, suc, ◌+◌, ◌*◌, ◌-◌, ◌/◌, ◌^◌, ◌<◌, length, get_or}
use Rattle.std.proofs.Common.{sym, ◌∙◌, arith, length-append}
use Rattle.std.proofs.Math.Decide.{dec_lt}
use Rattle.text.specs.Spelled.{digit, decimal_in, decimal}
use Rattle.text.specs.Laws.Decimal.{few, more, tenth}

-- the digit 0 is the byte 48
abbrev pub worth : ℕ → List ℕ → ℕ
worth v [] = v
worth v (d ∷ ds) = worth (v * 10 + (d - 48)) ds

worth-last : (v : ℕ) (ds : List ℕ) (d : ℕ) → worth v (ds ++ (d ∷ [])) ≡ worth v ds * 10 + (d - 48)
worth-last v [] d = refl
worth-last v (e ∷ ds) d = worth-last (v * 10 + (e - 48)) ds d

makes : (f n : ℕ) → n < 10 ^ suc f → worth 0 (decimal_in f n) ≡ n
makes zero n h = rw (few 0 n h) (omega (arith, h))
makes (suc f) n h = by (dec_lt n 10) (makes f (n / 10) (tenth (suc f) n h))
  where
    by : Dec (n < 10) → worth 0 (decimal_in f (n / 10)) ≡ n / 10 → worth 0 (decimal_in (suc f) n) ≡ n
    by (yes l) e = rw (few (suc f) n l) (omega (arith, l))
    by (no l) e = rw (more f n (omega arith), worth-last 0 (decimal_in f (n / 10)) (digit n), e) (omega arith)

pub decimal-worth : (n : ℕ) → n < 10 ^ 20 → worth 0 (decimal n) ≡ n
decimal-worth n h = makes 19 n h

-- ---- the first digit

first-kept : (ds : List ℕ) (d : ℕ) → 0 < length ds → get_or (ds ++ (d ∷ [])) 0 0 ≡ get_or ds 0 0
first-kept [] d h = absurd (omega (arith, h))
first-kept (e ∷ ds) d h = refl

some-digit : (f n : ℕ) → 0 < length (decimal_in f n)
unfolding decimal_in
some-digit zero n = omega arith
some-digit (suc f) n = by (dec_lt n 10)
  where
    by : Dec (n < 10) → 0 < length (decimal_in (suc f) n)
    by (yes l) = rw (few (suc f) n l) (omega arith)
    by (no l) = rw (more f n (omega arith), length-append (decimal_in f (n / 10)) (digit n ∷ [])) (omega arith)

leads : (f n : ℕ) → n < 10 ^ suc f → get_or (decimal_in f n) 0 0 ≡ 48 → n ≡ 0
leads zero n h e = omega (arith, h, rw (few 0 n h) at e)
leads (suc f) n h e = by (dec_lt n 10) (leads f (n / 10) (tenth (suc f) n h))
  where
    by : Dec (n < 10) → (get_or (decimal_in f (n / 10)) 0 0 ≡ 48 → n / 10 ≡ 0) → n ≡ 0
    by (yes l) k = omega (arith, l, rw (few (suc f) n l) at e)
    by (no l) k =
        let kept = first-kept (decimal_in f (n / 10)) (digit n) (some-digit f (n / 10)) in
        let z : n / 10 ≡ 0 = k (sym kept ∙ (rw (more f n (omega arith)) at e)) in
        absurd (omega (arith, z, l))

pub decimal-first : (n : ℕ) → n < 10 ^ 20 → get_or (decimal n) 0 0 ≡ 48 → n ≡ 0
decimal-first n h e = leads 19 n h e
