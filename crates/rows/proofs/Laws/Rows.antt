-- Laws on how many rows there are, and on marks.
--
--   row-count                          what `row-count` gives of an accepted plan
--   rows-wrong, rows_right, rows-by    what the code's comparison with `row-count` says of an accepted plan
--   rows_few                           there are at most 1,024 rows
--   same-marks                         marks that are refused beside one plan are refused beside a plan that is alike
--   rows-as-long                       rows or marks to which refusal 11 does not apply are as many as the plan has rows
use Rattle.std.specs.Prelude.{◌≡◌, true, false, not, List, ℕ, ◌≤◌, eqb}
use Rattle.std.proofs.Math.Path.{refl, sym}
use Rattle.std.proofs.Common.{◌∙◌, le-ltb, eq-eqb, ne_eqb, eqb-true, lit<}
use Rattle.std.proofs.Math.Nat.{pow-le-pow_right}
use Rattle.std.proofs.lemmas.Bool.{not-false}
use Rattle.contrasts.specs.Limits.{most_two}
use Rattle.plan.specs.declared.types.Plan.{Plan}
use Rattle.plan.specs.Check.{plan_refused}
use Rattle.plan.proofs.Laws.Accepted.{accepted, sizes}
use Rattle.plan.proofs.Laws.Alike.{Alike}
use Rattle.rows.specs.Kinds.{rows_in, row_count, wrong_rows, bad_mark, bad_marks}

pub row-count : (p : Plan) → plan_refused p ≡ 0 → row_count p ≡ rows_in p
unfolding row_count
row-count p ok = rw (le-ltb most_two p.k (accepted p ok).factors.1) refl

module _ (p : Plan) (ok : plan_refused p ≡ 0) {n : ℕ} (e : n ≡ row_count p) (m : ℕ) where
  pub rows-wrong : (m ≡ n → ⊥) → wrong_rows p m ≡ true
  unfolding wrong_rows
  rows-wrong h = rw (ne_eqb m (rows_in p) (λ d. h (d ∙ sym (e ∙ row-count p ok)))) refl

  pub rows_right : m ≡ n → wrong_rows p m ≡ false
  unfolding wrong_rows
  rows_right h = rw (eq-eqb m (rows_in p) (h ∙ e ∙ row-count p ok)) refl

  pub rows-by : not (eqb m n) ≡ wrong_rows p m
  unfolding wrong_rows
  rows-by = rw (e, row-count p ok) refl

pub rows_few : (p : Plan) → plan_refused p ≡ 0 → rows_in p ≤ 1024
rows_few p ok = pow-le-pow_right {n = 2} (lit< tt) {i = p.k} {j = 10} (sizes p ok).0

pub same-marks : {p q : Plan} → Alike p q → (marks : List ℕ) → bad_marks p marks ≡ bad_marks q marks
unfolding bad_marks bad_mark
same-marks a marks = rw a.blockwords refl

pub rows-as-long : (p : Plan) (n : ℕ) → wrong_rows p n ≡ false → n ≡ rows_in p
unfolding wrong_rows
rows-as-long p n e = eqb-true n (rows_in p) (not-false (eqb n (rows_in p)) e)
