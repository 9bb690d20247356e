-- What the tests of the profile say, factor by factor.
--
--   Met p m i j             the main effect of factor m and the interaction of factors i and j have one base word
--   met, meets              where the test holds there are such factors, and the converse
--   whole-none              nothing meets where there is no added factor
--   MarkedAt p marks m      the row of the base word of factor m has mark 1
--   marked-at, marked_by    where the test holds there is such a factor, and the converse
use Rattle.std.specs.Prelude.{◌≡◌, true, false, List, [], ℕ, ◌+◌, ◌^◌, ◌<◌, ◌≤◌, length}
use Rattle.std.proofs.Math.Path.{sym, ap}
use Rattle.std.proofs.Common.{◌∙◌, pow-suc, arith, length-take, pow_pos, pow_mono}
use Rattle.std.proofs.Math.Decide.{dec_lt}
use borrow.Author.Tests.{eq-eqb, eqb-true}
use Rattle.std.proofs.Math.Dec.{eqb}
use Rattle.std.proofs.Math.ListN.{get_or}
use Rattle.std.proofs.Math.Pow.{pow-lt}
use Rattle.algebra.specs.Search.{some}
use Rattle.algebra.specs.Laws.Search.{some-true, some_at}
use Rattle.algebra.specs.Laws.Tab.{length-tab}
use Rattle.algebra.specs.Laws.Tests.{fails}
use Rattle.words.specs.Words.{among}
use Rattle.words.specs.Laws.Any.{any_placed}
use Rattle.plan.specs.declared.types.Plan.{Plan}
use Rattle.plan.specs.Plan.{added_words, all_letters}
use Rattle.aliases.specs.Laws.BaseWord.{base-own}
use Rattle.rows.specs.Kinds.{marked}
use Rattle.screening.specs.Screening.{reduced_word, main_word, main_words, pair_word, meet, marked_main}
use Rattle.screening.proofs.Laws.Words.{main-at}

pub record Met (p : Plan) (m i j : ℕ) : Type 0 where
  pub main : m < all_letters p
  pub pair : (i < j) × (j < all_letters p)
  pub same : main_word p m ≡ pair_word p i j

pub record MarkedAt (p : Plan) (marks : List ℕ) (m : ℕ) : Type 0 where
  pub factor : m < all_letters p
  pub mark : get_or marks (main_word p m) 0 ≡ 1

module _ (p : Plan) where
  abbrev n : ℕ
  n = all_letters p

  -- the factors are as many as their words
  as_many : {m : ℕ} → m < length (main_words p) → m < all_letters p
  as_many h = omega (arith, h, length-tab n (main_word p))

  pub met : meet p ≡ true → (m : ℕ) × (i : ℕ) × (j : ℕ) × Met p m i j
  unfolding meet among
  met e =
      let at_j = some_at n (λ j. some j (λ i. among (pair_word p i j) (main_words p))) e in
      let j = at_j.0 in
      let at_i = some_at j (λ i. among (pair_word p i j) (main_words p)) at_j.2 in
      let i = at_i.0 in
      let at-m = some_at (length (main_words p)) (λ m. eqb (get_or (main_words p) m 0) (pair_word p i j)) (sym (any_placed (λ x. eqb x (pair_word p i j)) (main_words p)) ∙ at_i.2) in
      let m = at-m.0 in (
        m,
        i,
        j,
        record {
          main = as_many at-m.1;
          pair = (at_i.1, at_j.1);
          same = sym (main-at p m (as_many at-m.1)) ∙ eqb-true (get_or (main_words p) m 0) (pair_word p i j) at-m.2;
        },
      )

  pub meets : (m i j : ℕ) → Met p m i j → meet p ≡ true
  unfolding meet among
  meets m i j s =
      some-true n (λ j. some j (λ i. among (pair_word p i j) (main_words p))) j s.pair.1
      (some-true j (λ i. among (pair_word p i j) (main_words p)) i s.pair.0
      (any_placed (λ x. eqb x (pair_word p i j)) (main_words p)
      ∙ some-true (length (main_words p)) (λ m. eqb (get_or (main_words p) m 0) (pair_word p i j)) m (omega (arith, s.main, length-tab n (main_word p)))
      (eq-eqb (get_or (main_words p) m 0) (pair_word p i j) (main-at p m s.main ∙ s.same))))

  module _ (marks : List ℕ) where
    pub marked-at : marked_main p marks ≡ true → (m : ℕ) × MarkedAt p marks m
    unfolding marked_main
    marked-at e =
        let at = some_at (length (main_words p)) (λ m. marked marks (get_or (main_words p) m 0)) (sym (any_placed (marked marks) (main_words p)) ∙ e) in
        let m = at.0 in
        let mark = eqb-true (get_or marks (get_or (main_words p) m 0) 0) 1 at.2 in
        (m, record { factor = as_many at.1; mark = ap (λ (w : ℕ). get_or marks w 0) (sym (main-at p m (as_many at.1))) ∙ mark })

    pub marked_by : (m : ℕ) → MarkedAt p marks m → marked_main p marks ≡ true
    unfolding marked_main
    marked_by m s =
        any_placed (marked marks) (main_words p)
        ∙ some-true (length (main_words p)) (λ m. marked marks (get_or (main_words p) m 0)) m (omega (arith, s.factor, length-tab n (main_word p)))
        (eq-eqb (get_or marks (get_or (main_words p) m 0) 0) 1 (ap (λ (w : ℕ). get_or marks w 0) (main-at p m s.factor) ∙ s.mark))

-- ---- whole plans

-- 2 ^ m is no sum of two different powers
no_power : (m i j : ℕ) → i < j → 2 ^ m ≡ 2 ^ i + 2 ^ j → ⊥
no_power m i j h e = by (dec_lt j m)
  where
    by : Dec (j < m) → ⊥
    by (yes l) = omega (arith, e, pow-lt h, pow-suc 2 j, pow_mono l)
    by (no l) = let g : m ≤ j = omega arith in omega (arith, e, pow_mono g, pow_pos i)

pub whole-none : (p : Plan) → p.k ≤ 16 → p.added ≡ 0 → meet p ≡ false
whole-none p few none = fails (meet p) (λ e. let s = met p e in apart s.0 s.1 s.2 s.3)
  where
    all : all_letters p ≡ p.k
    all = omega (arith, none, length-take p.added p.words)

    own : (e : ℕ) → e < 2 ^ p.k → reduced_word p e ≡ e
    own e h = base-own p.k (added_words p) [] e few h

    apart : (m i j : ℕ) → Met p m i j → ⊥
    apart m i j s =
        let g : m < p.k = omega (arith, s.main, all) in
        let f : j < p.k = omega (arith, s.pair.1, all) in
        let pair = own (2 ^ i + 2 ^ j) (omega (arith, pow-lt s.pair.0, pow-suc 2 j, pow_mono f)) in
        no_power m i j s.pair.0 (sym (own (2 ^ m) (pow-lt g)) ∙ s.same ∙ pair)
