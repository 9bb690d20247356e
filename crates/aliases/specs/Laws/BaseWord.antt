-- Base words, and turns, of an effect of base letters and of one added letter; base words of effects combined.
--
--   base-small              the base word of an accepted plan has no letter beyond k
--   base-own, turned-own    an effect of base letters is its own base word, and its sign does not turn
--   base-one                the base word of an added letter is its word
--   letters-of-one          and has as many letters, whatever the word
--   base-xor, base-both     the base word of two effects combined, and of an interaction of two factors, is the combination of theirs
--   turned-one              its sign turns where it has sign 1; the other way round where its word has an even number of letters
use Rattle.std.specs.Prelude.{◌≡◌, Bool, true, false, not, ◌&&◌, List, leb, get_or}
use Rattle.std.proofs.Math.Path.{refl}
use Rattle.std.proofs.Common.{ap, ◌∙◌, mod-lt, mod-eq_of_lt, one-mul, zero-lt-suc, lt_of_lt_of_le, arith, ne_eqb, leb-true, leb-false, pow-add, pow_mono, pow_pos}
use Rattle.std.proofs.Math.Bool.{cond}
use Prim.Native.Nat.{ℕ, ◌+◌, ◌/◌, ◌%◌, ◌^◌, ◌<◌, ◌≤◌}
use Rattle.std.proofs.Math.Nat.{div-eq_of_lt, mul-mod_right, mul-div_right, one-le-pow, zero-div}
use Rattle.std.specs.Int.Bits.{bit_xor, xor_shifted}
use Rattle.std.proofs.lemmas.Nat.{xor_comm, xor_mod, xor_shr}
use Rattle.std.proofs.Math.Dec.{eqb}
use Rattle.std.proofs.Math.ListN.{length}
use Rattle.algebra.specs.Naturals.{Σℕ}
use Rattle.algebra.specs.Tests.{differ}
use Rattle.algebra.specs.Laws.Naturals.{Σℕ-none, Σℕ-cong, Σℕ-one}
use Rattle.algebra.specs.Laws.Tab.{get_d_past}
use Rattle.words.specs.Words.{has, letters, odd, odd_word}
use Rattle.words.specs.Laws.Letters.{one-letter}
use Rattle.words.specs.Laws.Parity.{letters-one}
use Rattle.words.specs.Laws.Combined.{combined-within, combined-own, combined-one, letters-one-of, combined-xor}
use Rattle.plan.specs.declared.types.Plan.{Plan}
use Rattle.plan.specs.Plan.{added_words}
use Rattle.plan.proofs.Laws.Accepted.{Accepted}
use Rattle.aliases.specs.Alias.{base_word, sign_ones, odd_signs, turned, alias_values}

pub base-small : (p : Plan) → Accepted p → (e : ℕ) → (alias_values p e).0 < 2 ^ p.k
unfolding base_word
base-small p a e =
    let n = p.k in
    combined-within n (e % 2 ^ n) (e / 2 ^ n) (added_words p) (mod-lt e (one-le-pow n 2 (zero-lt-suc 1))) (λ j h. (a.words j h).0)

-- ---- base letters

never-differ : (b s : Bool) → s ≡ false → cond (differ b b) (not s) s ≡ false
never-differ true s e = e
never-differ false s e = e

module _ (k : ℕ) (words signs : List ℕ) (e : ℕ) (few : k ≤ 16) (h : e < 2 ^ k) where
  pub base-own : base_word k words e ≡ e
  unfolding base_word
  base-own = rw (mod-eq_of_lt h, div-eq_of_lt h) (combined-own e words (lt_of_lt_of_le h (pow_mono few)))

  none-replaced : odd_signs k signs e ≡ false
  unfolding odd_signs sign_ones
  none-replaced = rw (div-eq_of_lt h, Σℕ-none (length signs) (λ j. cond (has 0 j && eqb (get_or signs j 0) 1) 1 0) (λ j l. rw (zero-div (2 ^ j)) refl)) refl

  pub turned-own : turned k words signs e ≡ false
  unfolding turned
  turned-own = rw base-own (never-differ (odd_word e) (odd_signs k signs e) none-replaced)

-- ---- one added letter

module _ (k j : ℕ) where
  rest : 2 ^ (k + j) % 2 ^ k ≡ 0
  rest = rw (pow-add 2 k j) (mul-mod_right (2 ^ k) (2 ^ j))

  replaced : 2 ^ (k + j) / 2 ^ k ≡ 2 ^ j
  replaced = rw (pow-add 2 k j) (mul-div_right (2 ^ j) (pow_pos k))

  pub base-one : (words : List ℕ) → j < length words → length words ≤ 16 → get_or words j 0 < 2 ^ 16
      → base_word k words (2 ^ (k + j)) ≡ get_or words j 0
  unfolding base_word
  base-one words h few small = rw (rest, replaced) (combined-one j words h few small)

  pub letters-of-one : (words : List ℕ) → j < length words → length words ≤ 16 → letters (base_word k words (2 ^ (k + j))) ≡ letters (get_or words j 0)
  unfolding base_word
  letters-of-one words h few = rw (rest, replaced) (letters-one-of j words h few)

  -- its sign alone is counted; past the end of the signs there is none
  one-sign : (signs : List ℕ) → length signs ≤ 16 → j < 16 → sign_ones (2 ^ j) signs ≡ cond (eqb (get_or signs j 0) 1) 1 0
  unfolding sign_ones
  one-sign signs few h = Σℕ-cong n (λ m l. rw (one-letter j m h (omega (arith, l, few))) (chosen (eqb j m) (is_one m))) ∙ by (leb n j) refl
    where
      n : ℕ
      n = length signs

      is_one : ℕ → Bool
      is_one m = eqb (get_or signs m 0) 1

      one : Bool → ℕ
      one t = cond t 1 0

      chosen : (b t : Bool) → one (eqb (one b) 1 && t) ≡ cond b (one t) 0
      chosen true t = refl
      chosen false t = refl

      by : (b : Bool) → leb n j ≡ b → Σℕ n (λ m. cond (eqb j m) (one (is_one m)) 0) ≡ one (is_one j)
      by false e = Σℕ-one n j (λ m. one (is_one m)) (leb-false n j e)
      by true e =
          let past : n ≤ j = leb-true n j e in
          Σℕ-none n (λ m. cond (eqb j m) (one (is_one m)) 0) (λ m l. rw (ne_eqb j m (λ z. omega (arith, z, l, past))) refl)
          ∙ rw (get_d_past 0 signs j past) refl

  odd-digit : (b : Bool) → odd (cond b 1 0) ≡ b
  odd-digit true = refl
  odd-digit false = refl

  pub turned-one : (words signs : List ℕ) → j < length words → k + length words ≤ 16 → length signs ≤ 16 → get_or words j 0 < 2 ^ 16
      → turned k words signs (2 ^ (k + j)) ≡ differ (not (odd_word (get_or words j 0))) (eqb (get_or signs j 0) 1)
  unfolding turned odd_signs
  turned-one words signs h few few-signs small =
      rw (base-one words h (omega (arith, few)) small, letters-one (k + j) (omega (arith, h, few)), replaced, one-sign signs few-signs (omega (arith, h, few)), odd-digit (eqb (get_or signs j 0) 1))
      refl

-- ---- effects combined

pub base-xor : (k : ℕ) (words : List ℕ) (e f : ℕ) → base_word k words (bit_xor e f) ≡ bit_xor (base_word k words e) (base_word k words f)
unfolding base_word
base-xor k words e f = rw (xor_mod e f k, xor_shr e f k) (combined-xor (e % 2 ^ k) (f % 2 ^ k) (e / 2 ^ k) (f / 2 ^ k) words)

-- an effect of letters below j, and letter j
pub base-both : (k : ℕ) (words : List ℕ) (e j : ℕ) → e < 2 ^ j → base_word k words (e + 2 ^ j) ≡ bit_xor (base_word k words e) (base_word k words (2 ^ j))
base-both k words e j h = ap (base_word k words) joined ∙ base-xor k words e (2 ^ j)
  where
    joined : e + 2 ^ j ≡ bit_xor e (2 ^ j)
    joined = omega (arith, one-mul (2 ^ j), xor_shifted 1 j e h) ∙ ap (λ (m : ℕ). bit_xor m e) (one-mul (2 ^ j)) ∙ xor_comm (2 ^ j) e
