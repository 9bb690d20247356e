-- Laws on the kinds of rows, and the numbers by which the code tells them.
--
--   four-kinds    the numbers of kinds are below 4
--   kind-in       the number of a kind stands for it
--   code_in       and a number below 4 is that of the kind for which it stands
--   one-kind      the test that two kinds are one says so where they are, and only there
--   code_by       the number of one of two kinds, by a test
use Rattle.std.specs.Prelude.{◌≡◌, refl, Bool, true, false, cond, ℕ, ◌<◌, eqb}
use Rattle.std.proofs.Common.{sym, ◌∙◌, ap, eq-eqb, eqb-true, eqb→eq, lit<}
use Rattle.algebra.specs.Tests.{every}
use Rattle.algebra.specs.Laws.Tests.{every-at}
use Rattle.rows.specs.Kinds.{Kind, mean_row, blocks_row, error_row, kept_row, code_of, kind_in, same}

pub four-kinds : (c : Kind) → code_of c < 4
four-kinds mean_row = lit< tt
four-kinds blocks_row = lit< tt
four-kinds error_row = lit< tt
four-kinds kept_row = lit< tt

pub kind-in : (c : Kind) → kind_in (code_of c) ≡ c
unfolding kind_in
kind-in mean_row = refl
kind-in blocks_row = refl
kind-in error_row = refl
kind-in kept_row = refl

pub code_in : (n : ℕ) → n < 4 → code_of (kind_in n) ≡ n
unfolding kind_in every
code_in n h = eqb→eq (code_of (kind_in n)) n (every-at 4 (λ n. eqb (code_of (kind_in n)) n) tt n h)

pub one-kind : (c d : Kind) → (same c d ≡ true → c ≡ d) × (c ≡ d → same c d ≡ true)
one-kind c d =
    (λ e. sym (kind-in c) ∙ ap kind_in (eqb-true (code_of c) (code_of d) e) ∙ kind-in d, λ e. eq-eqb (code_of c) (code_of d) (ap code_of e))

pub code_by : (b : Bool) (c d : Kind) → code_of (cond b c d) ≡ cond b (code_of c) (code_of d)
code_by true c d = refl
code_by false c d = refl
