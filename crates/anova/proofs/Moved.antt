-- The block amount of a three-level plan: how it is formed, and how it is moved from its row to the blocks line.
--
--   runs-ready, blocks-ready    the run sums are formed, and the amount of them
--   amount-formed, column-kept  what is formed, and the length of the column that is lent for it
--   amount-ready, amount-is     what the table hands to it, and what it gets
--   row_is                      the row that it leaves is one of the rows
--   row-ready, rows_left        it leaves enough, and what is left is what the table has of its rows
--   marks-there                 the row has a mark
--   moved_ready, moved-is       so it is with the figures
--   unmoved, unmoved-rows       without a block word of three levels the table by its effects is the table
use mathlib.Core.Path.{◌≡◌, refl, sym, ◌∙◌, ap}
use mathlib.Core.Bool.{Bool, true, false, cond, not}
use mathlib.Core.List.{List}
use Prim.Native.Nat.{ℕ, ◌+◌, ◌-◌, ◌*◌, ◌^◌, ◌<◌, ◌≤◌}
use native.Mathlib.Nat.{add-zero, mul_assoc, mul-le-mul_right}
use native.Mathlib.Omega.{arith}
use lib.Dec.{eqb}
use lib.IntN.{ℤ}
use lib.ListN.{length, get_or, set, replicate}
use Rattle.algebra.specs.Laws.Tab.{length-tab, get_or-tab, tab-set}
use Rattle.contrasts.specs.Blocks.{block_numerator}
use Rattle.contrasts.specs.Columns.{read, run_sums_in}
use Rattle.contrasts.proofs.Factors.{three}
use Rattle.contrasts.specs.Limits.{three_reading_limit, most_three}
use Rattle.contrasts.specs.Rows.{row_numerator}
use Rattle.contrasts.proofs.Laws.Repeats.{sums-long, sums-within}
use Rattle.plan.specs.declared.types.Plan.{Plan}
use Rattle.plan.specs.Check.{used_row}
use Rattle.plan.specs.Limits.{reading_limit}
use Rattle.plan.specs.Plan.{factors_of, run_sums_of, three_word, word_row}
use Rattle.plan.proofs.Laws.Accepted.{accepted}
use Rattle.plan.proofs.Laws.Limits.{limit-three, numerator-fits}
use Rattle.plan.proofs.Laws.Sizes.{as-power, readings-few, some-repeat}
use Rattle.plan.proofs.Laws.Words.{three-levels, used-row}
use Rattle.repeats.specs.Ready.{AllRuns}
use Rattle.blocks.specs.Ready.{Blockable}
use Rattle.rows.specs.Kinds.{rows_in, Kind, mean_row, blocks_row, error_row, kept_row, kind_by_mark, kind_of, same}
use Rattle.anova.specs.declared.types.Source.{Source}
use Rattle.anova.specs.declared.types.Figures.{Figures}
use Rattle.anova.specs.Inner.Effects.{effect_source, effect_figures, rows_by_effects}
use Rattle.anova.specs.Inner.Figures.{leaves, moved_figures}
use Rattle.anova.specs.Inner.Ready.{Amountable, Leavable, Movable}
use Rattle.anova.specs.Laws.Admitted.{TableReady, InBlocks, sums-ready}
use Rattle.anova.specs.Laws.Blocks.{no-degrees, no-amount, rows_stay, sources-stay}
use Rattle.anova.specs.Laws.Blocks.{uses-digits, two-degrees, by-mark, amount-once, word-row-lt, never-below, degrees-moved, numerator-moved, remainder, other-rows}
use Rattle.anova.specs.Laws.Within.{row-effects-within, effect-within}
use Rattle.anova.specs.Table.{block_degrees, block_amount, block_source, row_left, source_of, within_source, joined, table_figures, rows_of}

-- ---- forming it

module _ {k word r : ℕ} {readings column : List ℤ} (pre : Amountable k word r readings column) where
  pub runs-ready : AllRuns r readings column
  runs-ready = record { few = pre.few; whole = pre.whole }

  module _ {zs : List ℤ} (e : zs ≡ run_sums_in (length column) r readings) where
    pub column-kept : length zs ≡ length column
    column-kept = ap length e ∙ sums-long (length column) r readings

    pub blocks-ready : Blockable k word zs
    blocks-ready =
        record {
          few = pre.factors-few;
          uses = pre.uses;
          whole = column-kept ∙ pre.column-whole;
          limit = r * pre.limit;
          roomy = pre.roomy;
          within = rw e (sums-within (length column) r pre.limit readings pre.within);
        }

    pub amount-formed : {n : ℕ} → n ≡ block_numerator (replicate k three) 1 word (read zs)
        → n ≡ block_numerator (replicate k three) 1 word (read (run_sums_in (length column) r readings))
    amount-formed d = d ∙ rw e refl

-- ---- moving it

-- the kind of a row by its mark, told apart
error-by : (b : Bool) → same (cond b error_row kept_row) error_row ≡ b
error-by true = refl
error-by false = refl

kept_by : (b : Bool) → same (cond b error_row kept_row) kept_row ≡ not b
kept_by true = refl
kept_by false = refl

not-mean : (b : Bool) → same (cond b error_row kept_row) mean_row ≡ false
not-mean true = refl
not-mean false = refl

not-blocks : (b : Bool) → same (cond b error_row kept_row) blocks_row ≡ false
not-blocks true = refl
not-blocks false = refl

-- s, and the amount m with 2 degrees where it is of a row of the line's own, are the line
record Parted (s line : Source) (own : Bool) (m : ℕ) : Type 0 where
  degrees : s.degrees + cond own 2 0 ≡ line.degrees
  numerator : s.numerator + cond own m 0 ≡ line.numerator

left_is : {s line : Source} (own : Bool) {m : ℕ} → Parted s line own m → leaves line own m ≡ s
unfolding leaves
left_is {s} {line} true {m} h =
    let degrees-are : line.degrees - 2 ≡ s.degrees = omega (arith, h.degrees) in
    let numerator-is : line.numerator - m ≡ s.numerator = omega (arith, h.numerator) in
    λ i. record { degrees = degrees-are i; numerator = numerator-is i }
left_is {s} {line} false h =
    let degrees-are : line.degrees ≡ s.degrees = sym h.degrees ∙ add-zero s.degrees in
    let numerator-is : line.numerator ≡ s.numerator = sym h.numerator ∙ add-zero s.numerator in
    λ i. record { degrees = degrees-are i; numerator = numerator-is i }

leavable : {s line : Source} {own : Bool} {m : ℕ} → Parted s line own m → Leavable line own m
leavable {s} {line} {own} {m} h =
    record {
      degrees-enough = λ e. let f : s.degrees + 2 ≡ line.degrees = rw e at h.degrees in omega (arith, f);
      numerator-enough = λ e. let f : s.numerator + m ≡ line.numerator = rw e at h.numerator in omega (arith, f);
    }

-- where another source joins both
parted-joined : {s line : Source} {own : Bool} {m : ℕ} → Parted s line own m → (t : Source) → Parted (joined s t) (joined line t) own m
unfolding joined
parted-joined h t = record { degrees = omega (arith, h.degrees); numerator = omega (arith, h.numerator) }

module _ {p : Plan} {word : ℕ} {readings : List ℤ} {marks : List ℕ} {totals : List ℤ} {rows : List ℕ} (b : InBlocks p word readings marks totals rows) where
  abbrev a : TableReady p readings marks totals rows
  a = b.ready

  abbrev sums : List ℤ
  sums = run_sums_of p readings

  some : three_word p ≡ 0 → ⊥
  some z = b.some (b.word-is ∙ z)

  levels : p.levels ≡ 3
  levels = three-levels p some

  power : length totals ≡ 3 ^ p.k
  power = as-power p a.plan a.same ∙ rw levels refl

  -- 1,024 readings within 100,000
  room : 3 ^ p.k * (p.repeats * reading_limit p) ≤ 102_400_000
  unfolding three_reading_limit
  room =
      let few : 3 ^ p.k * p.repeats ≤ 1024 = rw (← power, a.same) (readings-few p a.plan) in
      rw (limit-three p (omega (arith, levels)), ← (mul_assoc (3 ^ p.k) p.repeats 100_000)) (mul-le-mul_right 100_000 few)

  pub amount-ready : Amountable p.k word p.repeats readings totals
  unfolding most_three
  amount-ready =
      record {
        factors-few = (accepted p a.plan).factors.2 levels;
        uses = rw b.word-is (uses-digits p a.plan some);
        few = (some-repeat p a.plan).1;
        column-whole = power;
        whole = a.whole ∙ rw a.same refl;
        limit = reading_limit p;
        roomy = room;
        within = a.within;
      }

  module _ {m : ℕ} (formed : m ≡ block_numerator (replicate p.k three) 1 word (read (run_sums_in (length totals) p.repeats readings))) where
    pub amount-is : m ≡ block_amount p sums
    amount-is = formed ∙ rw (b.word-is, a.same) (amount-once p a.plan some sums)

    amount-small : m < 2 ^ 63
    amount-small =
        rw amount-is
        (omega (arith, (never-below p a.plan sums).0, row-effects-within (sums-ready a) (word_row p), numerator-fits p))

    module _ {row : ℕ} (there : row ≡ used_row p) where
      pub row_is : row ≡ word_row p
      row_is = there ∙ used-row p (accepted p a.plan)

      row_lt : row < rows_in p
      row_lt = rw row_is (word-row-lt p a.plan)

      pub marks-there : row < length marks
      marks-there = rw a.marks-long row_lt

      module _ {zs : List ℕ} (made : zs ≡ rows_by_effects p sums) where
        row-held : get_or zs row 0 ≡ row_numerator (factors_of p) (read sums) row
        unfolding rows_by_effects
        row-held = rw made (get_or-tab 0 (rows_in p) (row_numerator (factors_of p) (read sums)) row row_lt)

        pub row-ready : (row < length zs) × (m ≤ get_or zs row 0)
        unfolding rows_by_effects
        row-ready = (
          rw (made, length-tab (rows_in p) (row_numerator (factors_of p) (read sums))) row_lt,
          rw (row-held, row_is, amount-is) (never-below p a.plan sums).0,
        )

        pub rows_left : {ys : List ℕ} → ys ≡ set zs row (get_or zs row 0 - m) → ys ≡ rows_of p sums
        unfolding rows_of rows_by_effects
        rows_left e =
            e
            ∙ tab-set 0 (rows_in p) row (row_numerator (factors_of p) (read sums)) (row_left p sums) (get_or zs row 0 - m) zs made own
            (λ w _ d. sym (other-rows p w (λ h. d (h ∙ sym row_is)) sums))
          where
            own : get_or zs row 0 - m ≡ row_left p sums row
            own = rw (row-held, row_is, amount-is) (omega (arith, remainder p a.plan sums))

      -- ---- the figures

      module _ {marked : Bool} (mark : marked ≡ eqb (get_or marks row 0) 1) where
        kind-is : kind_of p marks (word_row p) ≡ cond marked error_row kept_row
        unfolding kind_by_mark
        kind-is = by-mark p a.plan some marks ∙ rw (mark, row_is) refl

        module _ (c : Kind) {own : Bool} (h : same (cond marked error_row kept_row) c ≡ own) where
          here : same (kind_of p marks (word_row p)) c ≡ own
          here = rw kind-is h

          parted : Parted (source_of p sums marks c) (effect_source p sums marks c) own m
          parted =
              record {
                degrees = rw (here, two-degrees p a.plan some) at (degrees-moved p a.plan sums marks c);
                numerator = rw amount-is (rw here at (numerator-moved p a.plan sums marks c));
              }

        kept-parted : Parted (source_of p sums marks kept_row) (effect_source p sums marks kept_row) (not marked) m
        kept-parted = parted kept_row (kept_by marked)

        error-parted : Parted (joined (source_of p sums marks error_row) (within_source p readings))
            (joined (effect_source p sums marks error_row) (within_source p readings)) marked m
        error-parted = parted-joined (parted error_row (error-by marked)) (within_source p readings)

        module _ {f : Figures} (made : f ≡ effect_figures p readings marks) where
          pub moved_ready : Movable f marked m
          unfolding effect_figures
          moved_ready =
              rw made
              (record {
                from-kept = leavable kept-parted;
                from-error = leavable error-parted;
                to-blocks =
                    record {
                      degrees-fit = omega (arith, (effect-within (sums-ready a) marks blocks_row).degrees, numerator-fits p);
                      numerator-fits = omega (arith, (effect-within (sums-ready a) marks blocks_row).numerator, numerator-fits p);
                      amount-fits = amount-small;
                    };
              })

          same_source : (c : Kind) → same (cond marked error_row kept_row) c ≡ false → effect_source p sums marks c ≡ source_of p sums marks c
          unfolding leaves
          same_source c h = left_is false (parted c h)

          blocks-are : joined (effect_source p sums marks blocks_row) (record { degrees = 2; numerator = m })
              ≡ joined (source_of p sums marks blocks_row) (block_source p sums)
          unfolding block_source
          blocks-are = rw (same_source blocks_row (not-blocks marked), amount-is, two-degrees p a.plan some) refl

          pub moved-is : {g : Figures} → g ≡ moved_figures f marked m → g ≡ table_figures p readings marks
          unfolding moved_figures table_figures effect_figures
          moved-is e =
              let kept-is = left_is (not marked) kept-parted in
              let error-is = left_is marked error-parted in
              let mean-is = same_source mean_row (not-mean marked) in
              e
              ∙ ap (λ (x : Figures). moved_figures x marked m) made
              ∙ (λ i. record {
                denominator = (table_figures p readings marks).denominator;
                mean = mean-is i;
                kept = kept-is i;
                blocks = blocks-are i;
                error = error-is i;
                total = (table_figures p readings marks).total;
                checks = (table_figures p readings marks).checks;
              })

-- ---- without a block word of three levels

module _ (p : Plan) (none : three_word p ≡ 0) (readings : List ℤ) where
  pub unmoved : (marks : List ℕ) → effect_figures p readings marks ≡ table_figures p readings marks
  unfolding effect_figures table_figures joined block_source
  unmoved marks =
      let sums = run_sums_of p readings in
      let stay : (c : Kind) → source_of p sums marks c ≡ effect_source p sums marks c = λ c. sources-stay p none sums marks c in
      let blocks-degrees : (effect_source p sums marks blocks_row).degrees ≡ (source_of p sums marks blocks_row).degrees + block_degrees p
      = rw (stay blocks_row, no-degrees p none) (sym (add-zero (effect_source p sums marks blocks_row).degrees)) in
      let blocks-numerator : (effect_source p sums marks blocks_row).numerator ≡ (source_of p sums marks blocks_row).numerator + block_amount p sums
      = rw (stay blocks_row, no-amount p none sums) (sym (add-zero (effect_source p sums marks blocks_row).numerator)) in
      λ i. record {
        denominator = (table_figures p readings marks).denominator;
        mean = sym (stay mean_row) i;
        kept = sym (stay kept_row) i;
        blocks = record { degrees = blocks-degrees i; numerator = blocks-numerator i };
        error = joined (sym (stay error_row) i) (within_source p readings);
        total = (table_figures p readings marks).total;
        checks = (table_figures p readings marks).checks;
      }

  pub unmoved-rows : rows_by_effects p (run_sums_of p readings) ≡ rows_of p (run_sums_of p readings)
  unmoved-rows = sym (rows_stay p none (run_sums_of p readings))
