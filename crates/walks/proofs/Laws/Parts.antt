-- The sums that are held in two parts each.
--
--   next-still                       a numerator that is added leaves the degrees as they were
--   brought-long                     as many parts as before
--   which                            the first part or the second
--   own-numerators, own-degrees      an effect is added to the sums of its kind
--   other-still                      and to no others
--   part_of                          a part is at most its sum
use Rattle.std.specs.Prelude.{◌≡◌, ◌⊎◌, List, ℕ, zero, suc, ◌+◌, ◌*◌, ◌<◌, ◌≤◌, length, get_or, set}
use Rattle.std.proofs.Math.Path.{refl}
use Rattle.std.proofs.Common.{◌∙◌, inl, inr, arith, get_or-set_same}
use Rattle.std.proofs.Math.ListN.{length-set}
use Rattle.std.proofs.Math.Seq.{get_or-set_other}
use Rattle.walks.specs.State.{plus_at, brought, sum_in}

-- ---- one place

module _ (xs : List ℕ) (i n : ℕ) where
  pub plus-long : length (plus_at xs i n) ≡ length xs
  unfolding plus_at
  plus-long = length-set xs i (get_or xs i 0 + n)

  plus-own : i < length xs → (j : ℕ) → j ≡ i → get_or (plus_at xs i n) j 0 ≡ get_or xs j 0 + n
  unfolding plus_at
  plus-own h j e = rw e (get_or-set_same xs i (get_or xs i 0 + n) 0 h)

  pub plus-other : (j : ℕ) → (j ≡ i → ⊥) → get_or (plus_at xs i n) j 0 ≡ get_or xs j 0
  unfolding plus_at
  plus-other j d = get_or-set_other xs i j (get_or xs i 0 + n) 0 d

-- ---- an effect: a numerator, and a degree beside it

-- whatever is put at a place, the next one stays
pub next-still : (parts : List ℕ) (place v : ℕ) → get_or (set parts place v) (place + 1) 0 ≡ get_or parts (place + 1) 0
next-still parts place v = get_or-set_other parts place (place + 1) v 0 (λ z. omega (arith, z))

pub brought-long : (parts : List ℕ) (place n : ℕ) → length (brought parts place n) ≡ length parts
unfolding brought
brought-long parts place n = plus-long (plus_at parts place n) (place + 1) 1 ∙ plus-long parts place n

module _ (parts : List ℕ) (place n : ℕ) (inside : place + 1 < length parts) where
  brought-own : (j : ℕ) → j ≡ place → get_or (brought parts place n) j 0 ≡ get_or parts j 0 + n
  unfolding brought
  brought-own j e =
      plus-other (plus_at parts place n) (place + 1) 1 j (λ z. omega (arith, z, e))
      ∙ plus-own parts place n (omega (arith, inside)) j e

  brought-next : (j : ℕ) → j ≡ place + 1 → get_or (brought parts place n) j 0 ≡ get_or parts j 0 + 1
  unfolding brought
  brought-next j e =
      plus-own (plus_at parts place n) (place + 1) 1 (rw (plus-long parts place n) inside) j e
      ∙ rw (plus-other parts place n j (λ z. omega (arith, z, e))) refl

  brought-other : (j : ℕ) → (j ≡ place → ⊥) → (j ≡ place + 1 → ⊥) → get_or (brought parts place n) j 0 ≡ get_or parts j 0
  unfolding brought
  brought-other j d d' = plus-other (plus_at parts place n) (place + 1) 1 j d' ∙ plus-other parts place n j d

-- ---- the sums

-- the first part or the second
pub which : (b : ℕ) → b < 2 → (b ≡ 0) ⊎ (b ≡ 1)
which zero h = inl refl
which (suc zero) h = inr refl
which (suc (suc b)) h = absurd (omega (arith, h))

module _ (parts : List ℕ) (long : length parts ≡ 16) (k b n : ℕ) (kind : k < 4) (half : b < 2) where
  abbrev after : List ℕ
  after = brought parts (4 * k + 2 * b) n

  inside : 4 * k + 2 * b + 1 < length parts
  inside = omega (arith, long)

  own : (j : ℕ) → j ≡ 4 * k + 2 * b → get_or after j 0 ≡ get_or parts j 0 + n
  own = brought-own parts (4 * k + 2 * b) n inside

  next : (j : ℕ) → j ≡ 4 * k + 2 * b + 1 → get_or after j 0 ≡ get_or parts j 0 + 1
  next = brought-next parts (4 * k + 2 * b) n inside

  other : (j : ℕ) → (j ≡ 4 * k + 2 * b → ⊥) → (j ≡ 4 * k + 2 * b + 1 → ⊥) → get_or after j 0 ≡ get_or parts j 0
  other = brought-other parts (4 * k + 2 * b) n inside

  pub own-numerators : sum_in after 0 k ≡ sum_in parts 0 k + n
  own-numerators = by (which b half)
    where
      by : (b ≡ 0) ⊎ (b ≡ 1) → sum_in after 0 k ≡ sum_in parts 0 k + n
      by (inl z) =
          omega (arith, own (0 + 4 * k) (omega (arith, z)), other (0 + 4 * k + 2) (λ e. omega (arith, z, e)) (λ e. omega (arith, z, e)))
      by (inr z) =
          omega (arith, other (0 + 4 * k) (λ e. omega (arith, z, e)) (λ e. omega (arith, z, e)), own (0 + 4 * k + 2) (omega (arith, z)))

  pub own-degrees : sum_in after 1 k ≡ sum_in parts 1 k + 1
  own-degrees = by (which b half)
    where
      by : (b ≡ 0) ⊎ (b ≡ 1) → sum_in after 1 k ≡ sum_in parts 1 k + 1
      by (inl z) =
          omega (arith, next (1 + 4 * k) (omega (arith, z)), other (1 + 4 * k + 2) (λ e. omega (arith, z, e)) (λ e. omega (arith, z, e)))
      by (inr z) =
          omega (arith, other (1 + 4 * k) (λ e. omega (arith, z, e)) (λ e. omega (arith, z, e)), next (1 + 4 * k + 2) (omega (arith, z)))

  pub other-still : (i c : ℕ) → i < 2 → (c ≡ k → ⊥) → sum_in after i c ≡ sum_in parts i c
  other-still i c h d =
      omega (
        arith,
        other (i + 4 * c) (λ e. d (omega (arith, e))) (λ e. d (omega (arith, e))),
        other (i + 4 * c + 2) (λ e. d (omega (arith, e))) (λ e. d (omega (arith, e))),
      )

-- a part is at most its sum
pub part_of : (parts : List ℕ) (k b i j : ℕ) → j ≡ 4 * k + 2 * b + i → b < 2 → get_or parts j 0 ≤ sum_in parts i k
part_of parts k b i j e h = by (which b h)
  where
    by : (b ≡ 0) ⊎ (b ≡ 1) → get_or parts j 0 ≤ sum_in parts i k
    by (inl z) = let p : j ≡ i + 4 * k = omega (arith, e, z) in rw p (omega arith)
    by (inr z) = let p : j ≡ i + 4 * k + 2 = omega (arith, e, z) in rw p (omega arith)
