-- An argument, read digit by digit.
--
--   Read bytes i n                            the loop has read the bytes before i: all of them were digits, and make the number n
--   read_none, read_more                      before the first byte, and with one more
--   no_byte, no_digit, all-digits             what the argument is: without a byte, with one that is no digit, and of digits alone
use Rattle.std.specs.Prelude.{◌≡◌, None, Some, eqb, length, get_or}
use Rattle.std.proofs.Math.Path.{refl, sym, ap}
use Rattle.std.proofs.Common.{◌∙◌, add-one, arith, ne_eqb, drop-cons}
use Rattle.std.proofs.Math.Bool.{true, false}
use mathlib.Core.List.{List, [], ◌∷◌}
use Prim.Native.Nat.{ℕ, suc, ◌+◌, ◌*◌, ◌-◌, min, ◌<◌, ◌≤◌}
use Rattle.std.proofs.Math.ListN.{drop, drop_of_length-le}
use Rattle.text.specs.Laws.Digits.{worth}
use Rattle.blockwords.specs.Arguments.{is_digit, all_digits, argument_of}

pub record Read (bytes : List ℕ) (i n : ℕ) : Type 0 where
  pub within : i ≤ length bytes
  pub small : n ≤ 255
  pub digits : all_digits (drop i bytes) ≡ all_digits bytes
  pub number : min 255 (worth n (drop i bytes)) ≡ min 255 (worth 0 bytes)

-- what stands above 255 need not be told apart
alike : (ds : List ℕ) (m n : ℕ) → min 255 m ≡ min 255 n → min 255 (worth m ds) ≡ min 255 (worth n ds)
alike [] m n e = e
alike (d ∷ ds) m n e = alike ds (m * 10 + (d - 48)) (n * 10 + (d - 48)) (omega (arith, e))

pub read_none : (bytes : List ℕ) → Read bytes 0 0
read_none bytes = record { within = omega arith; small = omega arith; digits = refl; number = refl }

pub no_byte : (bytes : List ℕ) → eqb (length bytes) 0 ≡ true → None ≡ argument_of bytes
unfolding argument_of
no_byte bytes e = rw e refl

module _ {bytes : List ℕ} {i n : ℕ} (r : Read bytes i n) where
  module _ (h : i < length bytes) where
    next-byte : drop i bytes ≡ get_or bytes i 0 ∷ drop (suc i) bytes
    next-byte = drop-cons bytes i 0 h

    pub read_more : is_digit (get_or bytes i 0) ≡ true → {m : ℕ} → m ≡ min 255 (n * 10 + (get_or bytes i 0 - 48)) → Read bytes (i + 1) m
    unfolding all_digits
    read_more e {m} f = record {
      within = omega arith;
      small = omega (arith, f);
      digits = rw (add-one i) (sym (ap all_digits next-byte ∙ rw e refl) ∙ r.digits);
      number =
          rw (add-one i)
          (alike (drop (suc i) bytes) m (n * 10 + (get_or bytes i 0 - 48)) (omega (arith, f))
          ∙ sym (ap (λ ds. min 255 (worth n ds)) next-byte)
          ∙ r.number);
    }

    pub no_digit : is_digit (get_or bytes i 0) ≡ false → None ≡ argument_of bytes
    unfolding argument_of all_digits
    no_digit e =
        let none : all_digits bytes ≡ false = sym r.digits ∙ ap all_digits next-byte ∙ rw e refl in
        rw (ne_eqb (length bytes) 0 (λ z. omega (arith, z)), none) refl

  pub all-digits : eqb (length bytes) 0 ≡ false → length bytes ≤ i → Some n ≡ argument_of bytes
  unfolding argument_of all_digits
  all-digits some h =
      let rest : drop i bytes ≡ [] = drop_of_length-le bytes h in
      let all : all_digits bytes ≡ true = sym r.digits ∙ ap all_digits rest in
      let worth-is : n ≡ min 255 (worth 0 bytes) =
      omega (arith, r.small, sym (ap (λ ds. min 255 (worth n ds)) rest) ∙ r.number) in
      rw (some, all) (ap Some worth-is)
