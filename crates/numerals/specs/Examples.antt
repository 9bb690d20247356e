-- Numbers of four bytes, computed over the definitions.
--
--   numbers    the largest and the least of 32 bits, -1 and 100,001
use Rattle.std.specs.Prelude.{◌≡◌, refl, [], ◌∷◌, map, pos, negsuc}
use Rattle.numerals.specs.Numbers.{big, twos}

-- 2 ^ 31 - 1, - 2 ^ 31, - 1 and 100,001 in 32 bits
numbers : map (λ bytes. twos 32 (big bytes)) ((127 ∷ 255 ∷ 255 ∷ 255 ∷ []) ∷ (128 ∷ 0 ∷ 0 ∷ 0 ∷ []) ∷ (255 ∷ 255 ∷ 255 ∷ 255 ∷ []) ∷ (0 ∷ 1 ∷ 134 ∷ 161 ∷ []) ∷ [])
    ≡ pos 2147483647 ∷ negsuc 2147483647 ∷ negsuc 0 ∷ pos 100001 ∷ []
unfolding twos big
numbers = refl
