-- That the claims of `ThreeBlocks.antt` hold.
--
--   lawful-word     the proof of `LawfulWord`
--   three-blocks    of `ThreeBlocks`
--   nothing-moves   of `WithoutWord`
use Rattle.std.specs.Prelude.{◌≡◌, ◌⊎◌, Bool, cond, List, ℕ, ◌+◌, ◌*◌, ◌%◌, eqb, ℤ, pos, ◌+ℤ◌, get_or, replicate}
use Rattle.std.proofs.Math.Path.{refl, ap}
use Rattle.std.proofs.Common.{sym, ap₂, ◌∙◌, inl, inr, true≢false, add-zero, arith, eq-eqb, ne_eqb, le-leb}
use Rattle.std.proofs.Math.Bool.{true, false}
use Rattle.std.proofs.Math.Nat.{zero-add}
use Rattle.std.proofs.lemmas.Bool.{lt-leb}
use Rattle.algebra.specs.Naturals.{Σℕ}
use Rattle.algebra.specs.Sum.{Σ}
use Rattle.algebra.specs.Laws.Naturals.{Σℕ-cong, Σℕ-none}
use Rattle.algebra.specs.Laws.Sum.{Σ-cong}
use Rattle.contrasts.specs.Blocks.{block_of, block_sum, block_numerator}
use Rattle.contrasts.specs.Columns.{read}
use Rattle.contrasts.specs.Factor.{Factor}
use Rattle.contrasts.proofs.Factors.{three}
use Rattle.contrasts.specs.Rows.{row_of}
use Rattle.contrasts.specs.Totals.{Column, size, total, denominator}
use Rattle.contrasts.proofs.Laws.Blocks.{digits_are, untouched, amount-whole}
use Rattle.contrasts.proofs.Laws.Digits.{total-cong}
use Rattle.contrasts.proofs.Laws.Repeats.{sums-read, by-run}
use Rattle.plan.specs.declared.types.Plan.{Plan}
use Rattle.plan.specs.Check.{bad_digits, plan_refused}
use Rattle.plan.specs.Plan.{three_word, word_row, factors_of, runs_of, all_readings, run_sums_of, denominator_of}
use Rattle.plan.proofs.Laws.Sizes.{factors-three, some-repeat}
use Rattle.plan.proofs.Laws.Accepted.{accepted}
use Rattle.plan.proofs.Laws.Digits.{digits-known, digits-right, used-sum, lowest-place, place-lowest}
use Rattle.plan.proofs.Laws.Words.{three-levels, none-lost, no_number, no_word, first-is, the_word, keeps-rule, three-refusals}
use Rattle.rows.specs.Kinds.{rows_in, Kind, mean_row, blocks_row, error_row, kept_row, kind_by_mark, kind_of, same, bad_mark}
use Rattle.runs.specs.Laws.ThreeBlocks.{run-three, values-three, without-word, third-of-runs}
use Rattle.anova.specs.declared.types.Source.{Source}
use Rattle.anova.specs.Table.{row_degrees, block_degrees, block_amount, block_source, source_of, joined, table_refused, table_figures, table_rows}
use Rattle.anova.specs.Laws.Blocks.{no-degrees, no-amount, degrees-stay, row_stays, uses-row, uses-digits, two-degrees, by-mark, of_three, word-row-lt, degrees-left, remainder}
use Rattle.claims.specs.Letters.{block}
use Rattle.claims.proofs.Laws.TableAddsUp.{formed}
use Rattle.claims.specs.ThreeBlocks.{word, digit, level, Lawful, LawfulWord, sum_of, sum_of_all, squared, InThree, RunsOf, HasWord, BlocksOf, Amount, ThreeBlocks, WithoutWord}

-- ---- words

pub lawful-word : LawfulWord
lawful-word k w = (keeps, kept)
  where
    keeps : bad_digits k w ≡ false → Lawful k w
    keeps e =
        let known = digits-known k w e in
        let first = lowest-place k w known.2 in
        record {
          digits = known.0;
          two = omega (arith, known.1, used-sum k w);
          place = first.0;
          inside = first.1;
          one = first.2;
          none_below = first.3;
        }

    kept : Lawful k w → bad_digits k w ≡ false
    kept l = digits-right k w l.digits (omega (arith, l.two, used-sum k w)) (place-lowest k w l.place l.inside l.one l.none_below)

-- ---- runs and blocks

runs-of : (p : Plan) → InThree p → RunsOf p
runs-of p i =
    record {
      answered = λ run h. run-three p run i.accepted ∙ rw (lt-leb (runs_of p) run h) refl;
      beyond = λ run h. run-three p run i.accepted ∙ rw (le-leb (runs_of p) run h) refl;
      no-letters = λ run. ap (λ (v : ℕ × ℕ). v.0) (values-three p i.three run);
      without-word = λ z run. ap (λ (v : ℕ × ℕ). v.1) (without-word p i.three (no_word p z) run);
    }

-- the word of a plan that has one
module _ (p : Plan) (o : HasWord p) where
  some_word : three_word p ≡ 0 → ⊥
  some_word = the_word p (accepted p o.in_three.accepted) o.in_three.three o.one o.placed

  word-is : three_word p ≡ word p
  word-is = first-is p (accepted p o.in_three.accepted) o.in_three.three o.one o.placed

module _ (p : Plan) (ok : plan_refused p ≡ 0) where
  module _ (some : three_word p ≡ 0 → ⊥) where
    abbrev Fs : List Factor
    Fs = replicate p.k three

    factors : factors_of p ≡ Fs
    factors = factors-three p (three-levels p some)

    block-is : (run : ℕ) → block p run ≡ block_of Fs (three_word p) run
    block-is run = ap (λ (v : ℕ × ℕ). v.1) (values-three p (three-levels p some) run)

    digit-sums : (run : ℕ) → block p run ≡ Σℕ p.k (λ i. digit (three_word p) i * level run i) % 3
    digit-sums run = block-is run ∙ ap (λ n. n % 3) (digits_are p.k (three_word p) run)

    same-totals : (x : Column) (h : ℕ → ℤ) (e : ℕ) → (row_of (factors_of p) e ≡ 0 → ⊥) → (row_of (factors_of p) e ≡ word_row p → ⊥)
        → total (factors_of p) (λ run. x run +ℤ h (block p run)) e ≡ total (factors_of p) x e
    same-totals x h e some-letter other =
        total-cong (factors_of p) _ _ e (λ run _. ap (λ b. x run +ℤ h b) (block-is run))
        ∙ rw factors (untouched p.k e (rw factors at some-letter) (three_word p) x h (rw factors at other))

    -- ---- the kinds of rows

    module _ (marks : List ℕ) where
      never_blocks : (w : ℕ) → same (kind_of p marks w) blocks_row ≡ false
      unfolding kind_of kind_by_mark
      never_blocks w = rw (none-lost p (three-levels p some) w) (by (eqb w 0) (eqb (get_or marks w 0) 1))
        where
          by : (a b : Bool) → same (cond a mean_row (cond b error_row kept_row)) blocks_row ≡ false
          by true b = refl
          by false true = refl
          by false false = refl

      not-blocks : (w : ℕ) → kind_of p marks w ≡ blocks_row → ⊥
      not-blocks w e = true≢false (sym (ap (λ (c : Kind). same c blocks_row) e) ∙ never_blocks w)

      -- ---- the amount

      module _ (readings : List ℤ) where
        abbrev sums : List ℤ
        sums = run_sums_of p readings

        numerator-is : (table_figures p readings marks).blocks.numerator ≡ block_amount p sums
        unfolding table_figures joined block_source source_of
        numerator-is = ap (λ n. n + block_amount p sums) (Σℕ-none (rows_in p) _ (λ w _. rw (never_blocks w) refl)) ∙ zero-add (block_amount p sums)

        degrees-are : (table_figures p readings marks).blocks.degrees ≡ 2
        unfolding table_figures joined block_source source_of
        degrees-are = ap (λ n. n + block_degrees p) (Σℕ-none (rows_in p) _ (λ w _. rw (never_blocks w) refl)) ∙ zero-add (block_degrees p) ∙ two-degrees p ok some

        sum_is : (j : ℕ) → sum_of p readings j ≡ block_sum Fs (three_word p) (read sums) j
        sum_is j =
            by-run (runs_of p) p.repeats (some-repeat p ok).0 (λ q. eqb (block p q) j) (read readings)
            ∙ Σ-cong (runs_of p) (λ q h. ap₂ (λ (b : ℕ) (z : ℤ). cond (eqb b j) z (pos 0)) (block-is q) (sym (sums-read (runs_of p) p.repeats readings q h)))
            ∙ ap (λ (n : ℕ). Σ n (λ q. cond (eqb (block_of Fs (three_word p) q) j) (read sums q) (pos 0))) (ap size factors)

        all-is : sum_of_all p readings ≡ Σ (size Fs) (read sums)
        all-is =
            by-run (runs_of p) p.repeats (some-repeat p ok).0 (λ q. true) (read readings)
            ∙ Σ-cong (runs_of p) (λ q h. sym (sums-read (runs_of p) p.repeats readings q h))
            ∙ ap (λ (n : ℕ). Σ n (read sums)) (ap size factors)

        amount-is-whole : all_readings p * block_amount p sums + denominator_of p * squared (sum_of_all p readings)
            ≡ denominator_of p * (3 * Σℕ 3 (λ j. squared (sum_of p readings j)))
        amount-is-whole =
            let squares-are : Σℕ 3 (λ j. squared (sum_of p readings j)) ≡ Σℕ 3 (λ j. squared (block_sum Fs (three_word p) (read sums) j)) = Σℕ-cong 3 (λ j _. ap squared (sum_is j)) in
            let whole = amount-whole p.k (three_word p) (uses-digits p ok some) (read sums) p.repeats (some-repeat p ok).0 in
            ap₂ (λ (a t : ℕ). all_readings p * a + denominator_of p * t) (of_three p ok some sums) (ap squared all-is)
            ∙ ap₂ (λ (n d : ℕ). n * p.repeats * block_numerator Fs p.repeats (three_word p) (read sums) + p.repeats * d * squared (Σ (size Fs) (read sums))) (ap size factors) (ap denominator factors)
            ∙ whole
            ∙ sym (ap₂ (λ (d s : ℕ). p.repeats * d * (3 * s)) (ap denominator factors) squares-are)

-- ---- the claims

blocks-of : (p : Plan) → HasWord p → BlocksOf p
blocks-of p o =
    let ok = o.in_three.accepted in
    let some = some_word p o in
    record {
      lawful = (lawful-word p.k (word p)).0 (rw (word-is p o) at (keeps-rule p (accepted p ok) some));
      the_block = λ run. digit-sums p ok some run ∙ ap (λ w. Σℕ p.k (λ i. digit w i * level run i) % 3) (word-is p o);
      third = third-of-runs p ok some;
      the_row = ap (row_of (factors_of p)) (word-is p o);
      untouched = same-totals p ok some;
    }

amount-made : (p : Plan) (readings : List ℤ) (marks : List ℕ) (totals : List ℤ) (rows : List ℕ) → HasWord p
    → table_refused p readings marks totals rows ≡ 0 → Amount p readings marks totals rows
unfolding table_figures bad_mark
amount-made p readings marks totals rows o e =
    let ok = o.in_three.accepted in
    let some = some_word p o in
    let each = (formed p readings marks totals rows e).each_row (word_row p) (word-row-lt p ok) in
    let numerator-of = numerator-is p ok some marks readings in
    record {
      degrees = degrees-are p ok some marks readings;
      amount = ap (λ n. all_readings p * n + denominator_of p * squared (sum_of_all p readings)) numerator-of ∙ amount-is-whole p ok some marks readings;
      remainder = ap (λ n. get_or (table_rows p readings marks totals rows) (word_row p) 0 + n) numerator-of ∙ (rw (eq-eqb (word_row p) (word_row p) refl) at each);
      degrees-left = ap (λ n. row_degrees p (word_row p) + n) (sym (two-degrees p ok some)) ∙ degrees-left p ok;
      not-blocks = not-blocks p ok some marks;
      by-mark = by-mark p ok some marks;
      markable = rw (ne_eqb (word_row p) 0 (uses-row p ok some), none-lost p (three-levels p some) (word_row p)) refl;
    }

pub three-blocks : ThreeBlocks
three-blocks = record { refused = three-refusals; runs = runs-of; blocks = blocks-of; table = amount-made }

no-three-word : (p : Plan) → (p.levels ≡ 3 → ⊥) ⊎ (p.blocks ≡ 0) → three_word p ≡ 0
no-three-word p (inl t) = no_number p t
no-three-word p (inr z) = no_word p z

joins-nothing : (p : Plan) (sums : List ℤ) → three_word p ≡ 0 → (s : Source) → joined s (block_source p sums) ≡ s
unfolding joined block_source
joins-nothing p sums none s =
    let degrees-same : s.degrees + block_degrees p ≡ s.degrees = ap (λ n. s.degrees + n) (no-degrees p none) ∙ add-zero s.degrees in
    let numerator-same : s.numerator + block_amount p sums ≡ s.numerator = ap (λ n. s.numerator + n) (no-amount p none sums) ∙ add-zero s.numerator in
    λ i. record { degrees = degrees-same i; numerator = numerator-same i }

pub nothing-moves : WithoutWord
unfolding table_figures
nothing-moves p w readings marks =
    let none = no-three-word p w in
    let sums = run_sums_of p readings in
    (joins-nothing p sums none (source_of p sums marks blocks_row), λ v. (degrees-stay p none v, row_stays p none sums v))
