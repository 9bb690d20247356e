-- The bytes of numbers give the numbers.
--
--   bytes-length                  there are n of them
--   big-bytes                     they give the number that was written, as far as n bytes reach
--   two_back, four-back           and so all of it, where that is enough
--   complement-fits, twos_back    a number in two's complement
use Rattle.std.specs.Prelude.{◌≡◌, refl, ℕ, zero, suc, ◌-◌, ◌%◌, ◌^◌, ◌<◌, ℤ, pos, negsuc, nat_abs, length}
use Rattle.std.proofs.Common.{sym, ap, ◌∙◌, mod-eq_of_lt, arith, lt-ltb, le-ltb}
use Rattle.std.proofs.Math.Nat.{pow-succ', one-le-pow}
use Rattle.std.proofs.Math.Arith.{mod-mul}
use Rattle.numerals.specs.Numbers.{big, twos}
use Rattle.writing.specs.Writer.{bytes, complement}

pub bytes-length : (n x : ℕ) → length (bytes n x) ≡ n
unfolding bytes
bytes-length zero x = refl
bytes-length (suc n) x = ap suc (bytes-length n x)

pub big-bytes : (n x : ℕ) → big (bytes n x) ≡ x % 256 ^ n
unfolding bytes big
big-bytes zero x = omega arith
big-bytes (suc n) x =
    rw (bytes-length n x, big-bytes n x) (sym (mod-mul x {m = 256} {c = 256 ^ n} (omega arith) (one-le-pow n 256 (omega arith))) ∙ ap (λ m. x % m) (sym (pow-succ' 256 n)))

pub two_back : (w : ℕ) → w < 65536 → big (bytes 2 w) ≡ w
two_back w h = big-bytes 2 w ∙ mod-eq_of_lt h

pub four-back : (x : ℕ) → x < 2 ^ 32 → big (bytes 4 x) ≡ x
four-back x h = big-bytes 4 x ∙ mod-eq_of_lt h

pub complement-fits : (z : ℤ) → nat_abs z < 2 ^ 31 → complement z < 2 ^ 32
complement-fits (pos n) h = omega arith
complement-fits (negsuc n) h = omega arith

pub twos_back : (z : ℤ) → nat_abs z < 2 ^ 31 → twos 32 (complement z) ≡ z
unfolding twos
twos_back (pos n) h = rw (lt-ltb n (2 ^ 31) h) refl
twos_back (negsuc n) h =
    let e : 2 ^ 32 - (2 ^ 32 - suc n) ≡ suc n = omega arith in
    rw (le-ltb (2 ^ 32 - suc n) (2 ^ 31) (omega arith), e) refl
