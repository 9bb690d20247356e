-- What an alias means. In every run the effect, over all letters, counts as its base word does; where the sign turns, the other way round.
-- So the readings cannot tell the two apart. First by letters that are high, as totals go, then by letters that are low, as the alias call
-- goes.
--
--   H, c                             the letters that are high in the run; the effect's added letters
--   reduces-number                   how many letters they share with it, up to an even number
--   reduces-odd, plan-reduces-odd    the effect and its base word in a run, by the replaced letters with sign 1; for an accepted plan
--   plan-reduces                     THE LAW, high minus low, by the values of the run and alias calls
use Rattle.std.specs.Prelude.{◌≡◌, refl, Bool, true, false, cond, not, ◌&&◌, List, length, get_or}
use Rattle.std.proofs.Common.{sym, ◌∙◌, mul-zero, zero-mul, mod-lt, zero-lt-suc, arith}
use Rattle.std.proofs.Math.Path.{ap}
use Rattle.std.proofs.Math.Bool.{and-false, not-not}
use Prim.Native.Nat.{ℕ, zero, suc, ◌+◌, ◌*◌, ◌-◌, ◌/◌, ◌%◌, ◌^◌, ◌<◌, ◌≤◌}
use Rattle.std.proofs.Math.Nat.{one-le-pow}
use Rattle.std.proofs.Math.Dec.{eqb}
use Rattle.algebra.specs.Naturals.{Σℕ}
use Rattle.algebra.specs.Tests.{differ}
use Rattle.algebra.specs.Laws.Naturals.{Σℕ-plus, Σℕ-upto, Σℕ-add, Σℕ-cong, Σℕ-parity}
use Rattle.algebra.specs.Laws.Tab.{get_d_past}
use Rattle.algebra.specs.Laws.Bits.{bit-lt, bit-none, bit-mod, digit}
use Rattle.words.specs.Words.{letter, has, shared, odd, odd_word, odd_in, plus_in}
use Rattle.words.specs.Laws.Letters.{shifted, shared-first}
use Rattle.words.specs.Laws.Combined.{shared-combined}
use Rattle.words.specs.Laws.Parity.{odd-add, plus-odd}
use Rattle.plan.specs.declared.types.Plan.{Plan}
use Rattle.plan.specs.Plan.{added_words, added_signs, all_letters}
use Rattle.plan.proofs.Laws.Accepted.{Accepted, signs-small}
use Rattle.plan.proofs.Laws.Sizes.{letters-few}
use Rattle.runs.specs.Run.{high_by, high_letters, run_values}
use Rattle.runs.specs.Laws.High.{high-added, values-two}
use Rattle.runs.specs.Laws.BaseLetters.{high-letter}
use Rattle.aliases.specs.Alias.{base_word, sign_ones, odd_signs, turned, alias_values}

other : (b : Bool) → cond (not b) 1 0 ≡ 1 - cond b 1 0
other true = refl
other false = refl

-- a letter by the test whether it is there
by-test : (w i : ℕ) (b : Bool) → has w i ≡ b → letter w i ≡ cond b 1 0
by-test w i b e = sym (digit (letter w i) (bit-lt w i)) ∙ ap (λ (t : Bool). cond t 1 0) e

-- one added letter: c whether the effect has it, x the letters that its word shares with the run, s its sign
one : (c x s : ℕ) → c < 2 → s ≤ 1
    → (cond (cond (eqb s 0) (odd x) (not (odd x))) 1 0 * c) % 2 ≡ (c * x + cond (eqb c 1 && eqb s 1) 1 0) % 2
one zero x s h l = rw (mul-zero (cond (cond (eqb s 0) (odd x) (not (odd x))) 1 0), zero-mul x) refl
one (suc zero) x zero h l = rw (digit (x % 2) (mod-lt x (zero-lt-suc 1))) (omega arith)
one (suc zero) x (suc zero) h l = rw (other (odd x), digit (x % 2) (mod-lt x (zero-lt-suc 1))) (omega arith)
one (suc zero) x (suc (suc s)) h l = absurd (omega (arith, l))
one (suc (suc c)) x s h l = absurd (omega (arith, h))

module _ (k : ℕ) (words signs : List ℕ) (r e : ℕ) (room : k + length words ≤ 16) (fits : e < 2 ^ (k + length words))
    (signed : (j : ℕ) → get_or signs j 0 ≤ 1) where
  abbrev pub H : ℕ
  H = high_letters k words signs r

  abbrev pub c : ℕ
  c = e / 2 ^ k

  -- the base letters
  base : Σℕ k (λ i. letter H i * letter e i) ≡ Σℕ k (λ i. letter r i * letter e i)
  base = Σℕ-cong k (λ i h. ap (λ (m : ℕ). m * letter e i) (high-letter k words signs r i h))

  -- the added letters, up to an even number
  added : Σℕ (length words) (λ j. letter H (k + j) * letter e (k + j)) % 2
      ≡ (Σℕ (length words) (λ j. letter c j * shared r (get_or words j 0)) + sign_ones c signs) % 2
  unfolding high_by odd_in sign_ones
  added =
      Σℕ-parity (length words) (λ j. letter H (k + j) * letter e (k + j)) (λ j. word j + sign j) each
      ∙ ap (λ (m : ℕ). m % 2) (Σℕ-add (length words) word sign ∙ ap (λ (m : ℕ). Σℕ (length words) word + m) counted)
    where
      word : ℕ → ℕ
      word j = letter c j * shared r (get_or words j 0)

      sign : ℕ → ℕ
      sign j = cond (has c j && eqb (get_or signs j 0) 1) 1 0

      each : (j : ℕ) → j < length words → (letter H (k + j) * letter e (k + j)) % 2 ≡ (word j + sign j) % 2
      each j h =
          rw (by-test H (k + j) (high_by (get_or signs j 0) (get_or words j 0) r) (high-added k words signs r j h), ← (shifted k e j))
          (one (letter c j) (shared r (get_or words j 0)) (get_or signs j 0) (bit-lt c j) (signed j))

      -- nothing is counted past the end of either list
      counted : Σℕ (length words) sign ≡ sign_ones c signs
      counted =
          sym (Σℕ-upto (length words) (length words + length signs) sign (omega arith)
          (λ j h. rw (shifted k e j, bit-none (k + length words) e (k + j) fits (omega arith)) refl))
          ∙ Σℕ-upto (length signs) (length words + length signs) sign (omega arith) (λ j h. rw (get_d_past 0 signs j h, and-false (has c j)) refl)

  -- the base letters of the effect
  base-shared : shared r (e % 2 ^ k) ≡ Σℕ k (λ i. letter r i * letter e i)
  base-shared =
      shared-first k r (e % 2 ^ k) (omega (arith, room)) (mod-lt e (one-le-pow k 2 (zero-lt-suc 1)))
      ∙ Σℕ-cong k (λ i h. ap (λ (m : ℕ). letter r i * m) (bit-mod e k i h))

  whole : shared H e ≡ Σℕ k (λ i. letter H i * letter e i) + Σℕ (length words) (λ j. letter H (k + j) * letter e (k + j))
  whole = shared-first (k + length words) H e room fits ∙ Σℕ-plus k (length words) (λ i. letter H i * letter e i)

  pub reduces-number : shared H e % 2 ≡ (shared r (base_word k words e) + sign_ones c signs) % 2
  unfolding base_word
  reduces-number = omega (arith, whole, base, added, base-shared, shared-combined r (e % 2 ^ k) c words)

  pub reduces-odd : odd_in H e ≡ cond (odd_signs k signs e) (not (odd_in r (base_word k words e))) (odd_in r (base_word k words e))
  unfolding odd_in odd_signs
  reduces-odd = ap (λ (m : ℕ). eqb m 1) reduces-number ∙ odd-add (shared r (base_word k words e)) (sign_ones c signs)

-- the same of an accepted plan of two levels
pub plan-reduces-odd : (p : Plan) → Accepted p → (p.levels ≡ 3 → ⊥) → (r e : ℕ) → e < 2 ^ all_letters p
    → odd_in (run_values p r).0 e
    ≡ cond (odd_signs p.k (added_signs p) e) (not (odd_in r (alias_values p e).0)) (odd_in r (alias_values p e).0)
plan-reduces-odd p a t r e f =
    ap (λ (v : ℕ × ℕ). odd_in v.0 e) (values-two p r t)
    ∙ reduces-odd p.k (added_words p) (added_signs p) r e (letters-few p a) f (signs-small a)

-- ---- high minus low

-- e and w: the effect and its base word have an odd number of letters; s: an odd number of the replaced letters have sign 1; x: an odd number
-- of the base word's letters are high
both-counted : (e w s x : Bool)
    → cond e (cond s (not x) x) (not (cond s (not x) x)) ≡ differ (cond (differ e w) (not s) s) (cond w x (not x))
both-counted true true true x = refl
both-counted true true false x = refl
both-counted true false true x = refl
both-counted true false false x = sym (not-not x)
both-counted false true true x = not-not x
both-counted false true false x = refl
both-counted false false true x = refl
both-counted false false false x = refl

pub plan-reduces : (p : Plan) → Accepted p → (p.levels ≡ 3 → ⊥) → (r e : ℕ) → e < 2 ^ all_letters p
    → plus_in (run_values p r).0 e ≡ cond (alias_values p e).1 (not (plus_in r (alias_values p e).0)) (plus_in r (alias_values p e).0)
unfolding turned
plan-reduces p a t r e f =
    let w = (alias_values p e).0 in
    plus-odd (run_values p r).0 e
    ∙ ap (λ (o : Bool). cond (odd_word e) o (not o)) (plan-reduces-odd p a t r e f)
    ∙ both-counted (odd_word e) (odd_word w) (odd_signs p.k (added_signs p) e) (odd_in r w)
    ∙ ap (differ (alias_values p e).1) (sym (plus-odd r w))
