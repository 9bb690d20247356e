-- Nothing meets exactly when no three factors' words combine to the empty word: when the plan's resolution, as the trade says, is above III.
--
--   three_combine p            three factors' words combine to the empty word
--   Combined p i j l           those of i, j and l do
--   combined-at, combined-by   where the test holds there are such factors, and the converse
--   meet-three                 of an accepted plan two effects meet exactly when that is so
use Rattle.std.specs.Prelude.{◌≡◌, refl, Bool, true, false, [], ℕ, ◌+◌, ◌-◌, ◌/◌, ◌%◌, ◌^◌, ◌<◌, eqb, length}
use Rattle.std.proofs.Common.{sym, ap, ◌∙◌, pow-suc, arith, pow_pos, pow_mono}
use Rattle.std.proofs.Math.Decide.{dec_lt, ℕ_discrete}
use borrow.Author.Tests.{eq-eqb, eqb-true}
use Rattle.std.specs.Int.Bits.{bit_xor, xor_self}
use Rattle.std.proofs.lemmas.Nat.{xor_comm}
use Rattle.std.proofs.Math.Pow.{pow-lt}
use Rattle.algebra.specs.Search.{some}
use Rattle.algebra.specs.Laws.Bits.{xor-none, xor-back}
use Rattle.algebra.specs.Laws.Search.{some-true, some_at}
use Rattle.words.specs.Words.{letters}
use Rattle.words.specs.Laws.Combined.{combined-small}
use Rattle.words.specs.Laws.Letters.{letters-none}
use Rattle.plan.specs.declared.types.Plan.{Plan}
use Rattle.plan.specs.Plan.{added_words, all_letters}
use Rattle.plan.proofs.Laws.Accepted.{Accepted}
use Rattle.plan.proofs.Laws.Sizes.{letters-few}
use Rattle.aliases.specs.Alias.{base_word}
use Rattle.aliases.specs.Laws.BaseWord.{base-own, base-both, letters-of-one}
use Rattle.screening.specs.Screening.{reduced_word, main_word, meet}
use Rattle.screening.proofs.Laws.Meeting.{Met, met, meets}
use Rattle.screening.proofs.Laws.Words.{pair-word}

-- an effect of three letters reduces to the empty word
unfoldable pub three_combine : Plan → Bool
three_combine p = some (all_letters p) (λ l. some l (λ j. some j (λ i. eqb (reduced_word p (2 ^ i + 2 ^ j + 2 ^ l)) 0)))

-- ---- what the tests say

pub record Combined (p : Plan) (i j l : ℕ) : Type 0 where
  pub factors : (i < j) × (j < l) × (l < all_letters p)
  pub nothing : reduced_word p (2 ^ i + 2 ^ j + 2 ^ l) ≡ 0

module _ (p : Plan) where
  abbrev w : ℕ → ℕ
  w i = main_word p i

  abbrev n : ℕ
  n = all_letters p

  abbrev nothing : ℕ → ℕ → ℕ → Bool
  nothing l j i = eqb (reduced_word p (2 ^ i + 2 ^ j + 2 ^ l)) 0

  pub combined-at : three_combine p ≡ true → (i : ℕ) × (j : ℕ) × (l : ℕ) × Combined p i j l
  unfolding three_combine
  combined-at e =
      let at-l = some_at n (λ l. some l (λ j. some j (nothing l j))) e in
      let l = at-l.0 in
      let at_j = some_at l (λ j. some j (nothing l j)) at-l.2 in
      let j = at_j.0 in
      let at_i = some_at j (nothing l j) at_j.2 in
      let i = at_i.0 in
      (i, j, l, record { factors = (at_i.1, at_j.1, at-l.1); nothing = eqb-true (reduced_word p (2 ^ i + 2 ^ j + 2 ^ l)) 0 at_i.2 })

  pub combined-by : (i j l : ℕ) → Combined p i j l → three_combine p ≡ true
  unfolding three_combine
  combined-by i j l c =
      some-true n (λ l. some l (λ j. some j (nothing l j))) l c.factors.2
      (some-true l (λ j. some j (nothing l j)) j c.factors.1
      (some-true j (nothing l j) i c.factors.0 (eq-eqb (reduced_word p (2 ^ i + 2 ^ j + 2 ^ l)) 0 c.nothing)))

  -- the words of three factors combined
  three-word : (i j l : ℕ) → i < j → j < l → reduced_word p (2 ^ i + 2 ^ j + 2 ^ l) ≡ bit_xor (bit_xor (w i) (w j)) (w l)
  three-word i j l h g =
      base-both p.k (added_words p) (2 ^ i + 2 ^ j) l (omega (arith, pow-lt h, pow-suc 2 j, pow_mono g))
      ∙ ap (λ (v : ℕ). bit_xor v (w l)) (pair-word p i j h)

  combine : (i j l : ℕ) → i < j → j < l → l < all_letters p → bit_xor (main_word p i) (main_word p j) ≡ main_word p l → three_combine p ≡ true
  combine i j l h g f e =
      combined-by i j l (record { factors = (h, g, f); nothing = three-word i j l h g ∙ ap (λ (v : ℕ). bit_xor v (w l)) e ∙ xor_self (w l) })

  -- the last of three such factors meets the others' interaction
  three-meet : three_combine p ≡ true → meet p ≡ true
  three-meet e =
      let c = combined-at e in
      let i = c.0 in
      let j = c.1 in
      let l = c.2 in
      let f = c.3.factors in
      let none = sym (three-word i j l f.0 f.1) ∙ c.3.nothing in
      let last : j < n = omega (arith, f.1, f.2) in
      meets p l i j (record { main = f.2; pair = (f.0, last); same = sym (xor-none (bit_xor (w i) (w j)) (w l) none) ∙ sym (pair-word p i j f.0) })

-- ---- three different factors

module _ (p : Plan) (a : Accepted p) where
  -- no factor's word is empty
  some-letter : (i : ℕ) → i < all_letters p → main_word p i ≡ 0 → ⊥
  some-letter i h e = by (dec_lt i k)
    where
      k : ℕ
      k = p.k

      by : Dec (i < p.k) → ⊥
      by (yes l) = omega (arith, sym (base-own k (added_words p) [] (2 ^ i) (omega (arith, letters-few p a)) (pow-lt l)) ∙ e, pow_pos i)
      by (no l) =
          let j = i - p.k in
          let there : j < length (added_words p) = omega arith in
          let same = letters-of-one k j (added_words p) there (omega (arith, letters-few p a)) in
          let is : i ≡ p.k + j = omega arith in
          omega (arith, (a.words j there).1, same, ap (λ (m : ℕ). letters (main_word p m)) (sym is), ap letters e, letters-none)

  small : (i : ℕ) → main_word p i < 2 ^ 16
  unfolding base_word
  small i = combined-small (2 ^ i % 2 ^ p.k) (2 ^ i / 2 ^ p.k) (added_words p)

  -- where m's word combines those of i and j, m's and i's combine to j's
  turn-about : (m i j : ℕ) → main_word p m ≡ bit_xor (main_word p i) (main_word p j) → bit_xor (main_word p m) (main_word p i) ≡ main_word p j
  turn-about m i j e = ap (λ (v : ℕ). bit_xor v (main_word p i)) e ∙ xor-back 16 (main_word p i) (main_word p j) (small i) (small j)

  in-order : (m i j : ℕ) → Met p m i j → three_combine p ≡ true
  in-order m i j s = by (dec_lt m i) (ℕ_discrete m i) (dec_lt m j) (ℕ_discrete m j)
    where
      same : main_word p m ≡ bit_xor (main_word p i) (main_word p j)
      same = s.same ∙ pair-word p i j s.pair.0

      by : Dec (m < i) → Dec (m ≡ i) → Dec (m < j) → Dec (m ≡ j) → three_combine p ≡ true
      by (yes h) _ _ _ = combine p m i j h s.pair.0 s.pair.1 (turn-about m i j same)
      by (no h) (yes e) _ _ =
          absurd (some-letter j s.pair.1 (sym (turn-about m i j same) ∙ ap (λ (v : ℕ). bit_xor (main_word p v) (main_word p i)) e ∙ xor_self (main_word p i)))
      by (no h) (no e) (yes l) _ = combine p i m j (omega arith) l s.pair.1 (xor_comm (main_word p i) (main_word p m) ∙ turn-about m i j same)
      by (no h) (no e) (no l) (yes d) =
          let i-first : i < all_letters p = omega (arith, s.pair.0, s.pair.1) in
          absurd (some-letter i i-first
          (sym (turn-about m j i (same ∙ xor_comm (main_word p i) (main_word p j))) ∙ ap (λ (v : ℕ). bit_xor (main_word p v) (main_word p j)) d ∙ xor_self (main_word p j)))
      by (no h) (no e) (no l) (no d) = combine p i j m s.pair.0 (omega arith) s.main (sym same)

  pub meet-three : meet p ≡ three_combine p
  meet-three = by (meet p) (three_combine p) (λ e. let s = met p e in in-order s.0 s.1 s.2 s.3) (three-meet p)
    where
      by : (b c : Bool) → (b ≡ true → c ≡ true) → (c ≡ true → b ≡ true) → b ≡ c
      by true c f g = sym (f refl)
      by false true f g = g refl
      by false false f g = refl
