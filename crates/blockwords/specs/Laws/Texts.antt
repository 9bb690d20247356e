-- The program's text, from its lines as they are printed one after the other.
--
--   whole-text                     what a text leaves in a buffer that has room for it
--   no_lists, list_more            the lines of the lists: none yet, and one more
--   text-of_lists, text-refused    the whole text
use Rattle.std.specs.Prelude.{Result, Ok, Err, ◌≡◌, refl, List, [], ◌∷◌, ◌++◌, ℕ, ◌+◌, ◌<◌, ◌≤◌, length, take, drop, get_or}
use Rattle.std.proofs.Common.{sym, ap, ◌∙◌, append_assoc, append-nil, add-one, eq-eqb, ne_eqb, take-suc}
use Rattle.std.proofs.Math.Seq.{take_at}
use Rattle.text.specs.declared.bytes.Text.{Text}
use Rattle.text.specs.Text.{ascii, Writes}
use Rattle.text.specs.Laws.Writing.{from_start}
use Rattle.lines.specs.Lines.{named_line}
use Rattle.plan.specs.declared.refusals.Refusal.{Refusal}
use Rattle.plan.specs.Outcome.{outcome}
use Rattle.plan.specs.Refusals.{number}
use Rattle.plan.proofs.Laws.Answers.{given_is, refused-is}
use Rattle.blockings.specs.Blockings.{blockings_of, blockings_refused, blockings_outcome}
use Rattle.blockwords.specs.Listed.{list_line}
use Rattle.blockwords.specs.Printed.{list_lines, blockings_text}

pub whole-text : {a b : Text} {before t : List ℕ} → a.at ≡ 0 → a.buffer.now ≡ before → length t ≤ length before → Writes a t b → take b.at b.buffer.now ≡ t
whole-text {a} {b} {before} {t} start lent h w =
    let from = from_start w start (rw lent h) in
    ap (take b.at) from.1 ∙ take_at t (drop (length t) a.buffer.now) b.at (sym from.0)

lines-joined : (k : ℕ) (xs ys : List (List ℕ)) → list_lines k (xs ++ ys) ≡ list_lines k xs ++ list_lines k ys
unfolding list_lines
lines-joined k [] ys = refl
lines-joined k (x ∷ xs) ys = rw (lines-joined k xs ys, append_assoc) refl

one_line : (k : ℕ) (ws : List ℕ) → list_lines k (ws ∷ []) ≡ list_line k ws
unfolding list_lines
one_line k ws = append-nil (list_line k ws)

pub no_lists : (k : ℕ) → list_lines k [] ≡ []
unfolding list_lines
no_lists k = refl

pub list_more : (k : ℕ) (lists : List (List ℕ)) (i : ℕ) → i < length lists
    → list_lines k (take i lists) ++ list_line k (get_or lists i []) ≡ list_lines k (take (i + 1) lists)
list_more k lists i h =
    let last = get_or lists i [] in
    ap (λ l. list_lines k (take i lists) ++ l) (sym (one_line k last))
    ∙ sym (lines-joined k (take i lists) (last ∷ []))
    ∙ ap (list_lines k) (sym (take-suc lists i [] h))
    ∙ ap (λ n. list_lines k (take n lists)) (sym (add-one i))

-- ---- what the blocking call answers, where it is lent 3,360 places

module _ (k b places : ℕ) {answer : Result ℕ Refusal} (told : blockings_outcome answer ≡ outcome (blockings_refused k b places) (length (blockings_of k b)))
    (room : places ≡ 3360) {n : ℕ} where
  pub text-of_lists : answer ≡ Ok n → named_line (ascii "lists") n ++ list_lines k (blockings_of k b) ≡ blockings_text k b
  unfolding blockings_text
  text-of_lists is =
      let done = given_is (blockings_refused k b places) (length (blockings_of k b)) (ap blockings_outcome (sym is) ∙ told) in
      rw (eq-eqb (blockings_refused k b 3360) 0 (ap (blockings_refused k b) (sym room) ∙ done.0), done.1) refl

  pub text-refused : {r : Refusal} → answer ≡ Err r → n ≡ number r → named_line (ascii "refused") n ≡ blockings_text k b
  unfolding blockings_text
  text-refused is own =
      let e : blockings_refused k b places ≡ blockings_refused k b 3360 = ap (blockings_refused k b) room in
      let not = refused-is (blockings_refused k b places) (length (blockings_of k b)) (ap blockings_outcome (sym is) ∙ told) in
      rw (ne_eqb (blockings_refused k b 3360) 0 (λ z. not.1 (e ∙ z)), own, not.0, e) refl
