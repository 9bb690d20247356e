-- The lines of rows, as the loop writes them.
--
--   one-degree, power-degrees, few-letters    the degrees of a row, as code forms them
--   two-to-leave                              a row with a letter has 2 degrees or more at three levels
--   all_left, less_two, others-left           what a row has left of them
--   used-is, none-used                        the row of the letters that a three-level block word uses, which is 0 at two levels
--   few-rows                                  there are at most 1,024 rows
--   no_rows, row_more, all-rows               the loop: no row yet, one more, all
use Rattle.std.specs.Prelude.{◌≡◌, Bool, true, false, cond, List, ◌++◌, eqb, ltb, length, get_or}
use Rattle.std.proofs.Math.Path.{refl, ap}
use Rattle.std.proofs.Common.{sym, ◌∙◌, lt_of_lt_of_le, mul-one, pow-suc, add-one, arith}
use Prim.Native.Nat.{ℕ, zero, suc, ◌+◌, ◌*◌, ◌-◌, ◌%◌, ◌^◌, ◌<◌, ◌≤◌}
use Rattle.std.proofs.Math.Decide.{ℕ_discrete}
use Rattle.std.proofs.Math.Nat.{pow-zero, pow-le-pow_right}
use borrow.Author.Tests.{eq-eqb, ne_eqb}
use Rattle.std.specs.Int.Count.{ones}
use Rattle.std.proofs.lemmas.Nat.{ones-le}
use Rattle.algebra.specs.Laws.Gathered.{one_shifted}
use Rattle.algebra.specs.Laws.Tab.{get_or-tab}
use Rattle.contrasts.specs.Limits.{most_three}
use Rattle.contrasts.specs.Rows.{row_of, degrees_of}
use Rattle.contrasts.proofs.Factors.{two, three}
use Rattle.contrasts.proofs.Laws.Degrees.{degrees-power, some-digit}
use Rattle.contrasts.proofs.Laws.Rows.{row-none}
use Rattle.words.specs.Words.{letters}
use Rattle.words.specs.Laws.Letters.{letters-ones}
use Rattle.plan.specs.declared.types.Plan.{Plan}
use Rattle.plan.specs.Check.{used_row}
use Rattle.plan.specs.Plan.{factors_of, three_word, word_row}
use Rattle.plan.proofs.Laws.Accepted.{accepted}
use Rattle.plan.proofs.Laws.Sizes.{plan-kind, factors-two, factors-three}
use Rattle.plan.proofs.Laws.Words.{no_number, used-row}
use Rattle.contrasts.proofs.Laws.Levels.{the-three}
use Rattle.rows.specs.Kinds.{rows_in, Kind, kept_row, kind_of, kinds_of}
use Rattle.rows.proofs.Laws.Rows.{rows_few}
use Rattle.text.specs.declared.bytes.Text.{Text}
use Rattle.text.specs.Text.{Writes}
use Rattle.text.specs.Laws.Writing.{nothing, then, retext}
use Rattle.lines.specs.Lines.{row_line}
use Rattle.anova.specs.Table.{block_degrees, row_degrees}
use Rattle.anova.specs.Laws.Blocks.{no-degrees, uses-row, two-degrees}
use Rattle.printing.specs.Inner.Ready.{RowsReady}
use Rattle.printing.specs.Printed.{row_lines}
use Rattle.printing.specs.Inner.Written.{degrees_by, degrees_left, rows_by}

-- ---- degrees

pub few-letters : (w : ℕ) → w < 2 ^ 16 → letters w ≤ 16
few-letters w h = rw (← (letters-ones w h)) (ones-le 16 w h)

power-of-one : (n : ℕ) → 1 ^ n ≡ 1
power-of-one zero = pow-zero 1
power-of-one (suc n) = pow-suc 1 n ∙ mul-one (1 ^ n) ∙ power-of-one n

module _ (levels w : ℕ) where
  pub one-degree : levels ≡ 2 → 1 ≡ degrees_by levels w
  unfolding degrees_by
  one-degree e = rw (eq-eqb levels 2 e) refl

  pub power-degrees : (levels ≡ 2 → ⊥) → w < 2 ^ 16 → {n : ℕ} → n ≡ letters w → 1 * 2 ^ n % 2 ^ 64 ≡ degrees_by levels w
  unfolding degrees_by
  power-degrees h k {n} e = one_shifted n 64 (omega (arith, few-letters w k)) ∙ rw (ne_eqb levels 2 h) (ap (λ m. 2 ^ m) e)

-- ---- the degrees that a row has left

pub two-to-leave : (levels w : ℕ) → (levels ≡ 2 → ⊥) → (w ≡ 0 → ⊥) → w < 2 ^ 16 → 2 ≤ degrees_by levels w
unfolding degrees_by
two-to-leave levels w h some k =
    let one : 1 ≤ letters w = rw (letters-ones w k) at (some-digit 16 w k some) in
    rw (ne_eqb levels 2 h) (rw (pow-one) at (pow-le-pow_right {n = 2} (omega arith) {i = 1} {j = letters w} one))
  where
    pow-one : 2 ^ 1 ≡ 2
    pow-one = refl

module _ (levels used w : ℕ) {n : ℕ} (all : n ≡ degrees_by levels w) where
  pub all_left : used ≡ 0 → n ≡ degrees_left levels used w
  unfolding degrees_left
  all_left e = rw (eq-eqb used 0 e) (omega (arith, all))

  module _ (some : used ≡ 0 → ⊥) where
    pub less_two : w ≡ used → n - 2 ≡ degrees_left levels used w
    unfolding degrees_left
    less_two e = rw (ne_eqb used 0 some, eq-eqb w used e, all) refl

    pub others-left : (w ≡ used → ⊥) → n ≡ degrees_left levels used w
    unfolding degrees_left
    others-left e = rw (ne_eqb used 0 some, ne_eqb w used e) (omega (arith, all))

-- ---- the loop

pub no_rows : (a : Text) (levels used : ℕ) (kinds : List Kind) (rows : List ℕ) → Writes a (rows_by levels used kinds rows 0) a
unfolding rows_by
no_rows a levels used kinds rows = nothing a

module _ {a b c : Text} (levels used : ℕ) (kinds : List Kind) (rows : List ℕ) (w : ℕ) where
  pub row_more : {d : ℕ} → d ≡ degrees_left levels used w → Writes a (rows_by levels used kinds rows w) b
      → Writes b (row_line w d (get_or rows w 0) (get_or kinds w kept_row)) c → Writes a (rows_by levels used kinds rows (w + 1)) c
  unfolding rows_by
  row_more e f g =
      retext
      (ap (λ d. rows_by levels used kinds rows w ++ row_line w d (get_or rows w 0) (get_or kinds w kept_row)) e ∙ ap (rows_by levels used kinds rows) (sym (add-one w)))
      (then f g)

-- ---- the plan

pub none-used : (p : Plan) → p.levels ≡ 2 → used_row p ≡ 0
unfolding used_row
none-used p e = rw (no_number p (λ t. omega (arith, e, t)), row-none (factors_of p)) (by (ltb most_three p.k))
  where
    by : (b : Bool) → cond {A = ℕ} b 0 0 ≡ 0
    by true = refl
    by false = refl

module _ {p : Plan} {rows : List ℕ} (ready : RowsReady p rows) (marks : List ℕ) where
  pub few-rows : length rows ≤ 1024
  few-rows = rw ready.long (rows_few p ready.plan)

  degrees-are : (w : ℕ) → w < rows_in p → degrees_by p.levels w ≡ degrees_of (factors_of p) w
  unfolding degrees_by two three
  degrees-are w h = by (ℕ_discrete p.levels 2)
    where
      count : ones w ≡ letters w
      count = letters-ones w (lt_of_lt_of_le h (omega (arith, rows_few p ready.plan)))

      by : Dec (p.levels ≡ 2) → cond (eqb p.levels 2) 1 (2 ^ letters w) ≡ degrees_of (factors_of p) w
      by (yes e) = rw (eq-eqb p.levels 2 e, factors-two p e) (sym (degrees-power two p.k w h ∙ power-of-one (ones w)))
      by (no e) = rw (ne_eqb p.levels 2 e, factors-three p (the-three p.levels (plan-kind p ready.plan) e)) (sym (degrees-power three p.k w h ∙ ap (λ n. 2 ^ n) count))

  -- the row that is used, and what it leaves
  used-is : used_row p ≡ word_row p
  used-is = used-row p (accepted p ready.plan)

  leaving : (w : ℕ) → cond (eqb (word_row p) 0) 0 (cond (eqb w (word_row p)) 2 0) ≡ cond (eqb w (word_row p)) (block_degrees p) 0
  leaving w = by (ℕ_discrete (three_word p) 0)
    where
      nothing-goes : (b : Bool) → 0 ≡ cond {A = ℕ} b 0 0
      nothing-goes true = refl
      nothing-goes false = refl

      by : Dec (three_word p ≡ 0) → cond (eqb (word_row p) 0) 0 (cond (eqb w (word_row p)) 2 0) ≡ cond (eqb w (word_row p)) (block_degrees p) 0
      by (yes e) =
          let row_is : word_row p ≡ 0 = ap (row_of (factors_of p)) e ∙ row-none (factors_of p) in
          rw (eq-eqb (word_row p) 0 row_is, no-degrees p e) (nothing-goes (eqb w (word_row p)))
      by (no n) = rw (ne_eqb (word_row p) 0 (uses-row p ready.plan n), two-degrees p ready.plan n) refl

  left-are : (w : ℕ) → w < rows_in p → degrees_left p.levels (used_row p) w ≡ row_degrees p w
  unfolding degrees_left row_degrees
  left-are w h = rw (used-is, degrees-are w h, leaving w) refl

  so_far : (n : ℕ) → n ≤ rows_in p → rows_by p.levels (used_row p) (kinds_of p marks) rows n ≡ row_lines p marks rows n
  unfolding rows_by row_lines kinds_of
  so_far zero h = refl
  so_far (suc w) h =
      ap (λ t. t ++ row_line w (degrees_left p.levels (used_row p) w) (get_or rows w 0) (get_or (kinds_of p marks) w kept_row)) (so_far w (omega arith))
      ∙ rw (left-are w (omega arith), get_or-tab kept_row 1024 (kind_of p marks) w (omega (arith, rows_few p ready.plan))) refl

  pub all-rows : {a b : Text} {i used : ℕ} {kinds : List Kind} → used ≡ used_row p → kinds ≡ kinds_of p marks → i ≡ length rows
      → Writes a (rows_by p.levels used kinds rows i) b → Writes a (row_lines p marks rows (length rows)) b
  all-rows {i = i} {used = used} d e n w =
      retext
      (ap (λ k. rows_by p.levels used k rows i) e
      ∙ ap (λ u. rows_by p.levels u (kinds_of p marks) rows i) d
      ∙ ap (rows_by p.levels (used_row p) (kinds_of p marks) rows) n
      ∙ so_far (length rows) (omega (arith, ready.long)))
      w
