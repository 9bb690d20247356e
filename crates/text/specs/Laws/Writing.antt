-- Texts that are written one after the other are one text.
--
--   nothing                            no text
--   then                               a text, and another from where it ends
--   retext                             the same text, written otherwise
--   letter-more                        the letters of a word, and one more, if the word has it
--   letters-long                       they are at most 16
--   part-more                          the bytes of a part, and one byte more
--   same_size                          a text leaves the buffer's length
--   from_start                         a text from the first place on, for which there is room
use Rattle.std.specs.Prelude.{◌≡◌, refl, Bool, true, false, cond, List, [], ◌∷◌, ◌++◌, ℕ, zero, suc, ◌+◌, ◌-◌, ◌<◌, ◌≤◌, length, take, drop, get_or, set}
use Rattle.std.proofs.Common.{sym, ap, ◌∙◌, subst, add-zero, zero-add, add-suc, suc-add, add-one, arith, length-append, append-nil, take-suc}
use Rattle.std.proofs.Math.Decide.{dec_le}
use Rattle.std.proofs.lemmas.List.Edits.{sets, sets-eq}
use Rattle.std.proofs.Math.Seq.{length-sets, set_out}
use Rattle.words.specs.Words.{has}
use Rattle.text.specs.declared.bytes.Text.{Text}
use Rattle.text.specs.Text.{Writes}
use Rattle.text.specs.Spelled.{letter_of, letters_in, letters_of}

-- ---- places of a list

sets-out : (l : List ℕ) (i : ℕ) (t : List ℕ) → length l ≤ i → sets l i t ≡ l
sets-out l i [] h = refl
sets-out l i (x ∷ t) h = ap (λ k. sets k (suc i) t) (set_out l i x h) ∙ sets-out l (suc i) t (omega arith)

sets-append : (l : List ℕ) (i : ℕ) (t u : List ℕ) → sets (sets l i t) (i + length t) u ≡ sets l i (t ++ u)
sets-append l i [] u = ap (λ k. sets l k u) (add-zero i)
sets-append l i (x ∷ t) u =
    ap (λ k. sets (sets (set l i x) (suc i) t) k u) (add-suc i (length t) ∙ sym (suc-add i (length t))) ∙ sets-append (set l i x) (suc i) t u

-- ---- texts

pub nothing : (a : Text) → Writes a [] a
nothing a = record { lent = refl; wrote = record { holds = refl; ends = omega arith } }

pub same_size : {a b : Text} {t : List ℕ} → Writes a t b → length b.buffer.now ≡ length a.buffer.now
same_size {a} {b} {t} w = ap length w.wrote.holds ∙ length-sets a.buffer.now a.at t

pub then : {a b c : Text} {t u : List ℕ} → Writes a t b → Writes b u c → Writes a (t ++ u) c
then {a} {b} {c} {t} {u} w v =
    record {
      lent = v.lent ∙ w.lent;
      wrote = record {
        holds = v.wrote.holds ∙ ap (λ l. sets l b.at u) w.wrote.holds ∙ from (dec_le (length t) (length old - a.at)) ∙ sets-append old a.at t u;
        ends = v.wrote.ends ∙ omega (arith, w.wrote.ends, same_size w, length-append t u);
      };
    }
  where
    old : List ℕ
    old = a.buffer.now

    from : Dec (length t ≤ length old - a.at) → sets (sets old a.at t) b.at u ≡ sets (sets old a.at t) (a.at + length t) u
    from (yes h) = ap (λ k. sets (sets old a.at t) k u) (omega (arith, w.wrote.ends))
    from (no h) =
        sets-out (sets old a.at t) b.at u (omega (arith, w.wrote.ends, length-sets old a.at t))
        ∙ sym (sets-out (sets old a.at t) (a.at + length t) u (omega (arith, length-sets old a.at t)))

pub retext : {a b : Text} {t u : List ℕ} → t ≡ u → Writes a t b → Writes a u b
retext {a} {b} e w = subst (λ x. Writes a x b) e w

letters-in : (n w : ℕ) → length (letters_in n w) ≤ n
unfolding letters_in letter_of
letters-in zero w = omega arith
letters-in (suc i) w = rw (length-append (letters_in i w) (cond (has w i) ((65 + i) ∷ []) [])) (omega (arith, letters-in i w, one (has w i)))
  where
    one : (b : Bool) → length (cond b ((65 + i) ∷ []) []) ≤ 1
    one true = omega arith
    one false = omega arith

pub letters-long : (w : ℕ) → length (letters_of w) ≤ 16
letters-long w = letters-in 16 w

pub no-letters : (a : Text) (w : ℕ) → Writes a (letters_in 0 w) a
unfolding letters_in
no-letters a w = nothing a

module _ {a b : Text} (w i : ℕ) (f : Writes a (letters_in i w) b) where
  pub letter-more : {c : Text} → has w i ≡ true → Writes b ((65 + i) ∷ []) c → Writes a (letters_in (i + 1) w) c
  unfolding letters_in letter_of
  letter-more e g = rw (add-one i, e) (then f g)

  pub letter-passed : has w i ≡ false → Writes a (letters_in (i + 1) w) b
  unfolding letters_in letter_of
  letter-passed e = rw (add-one i, e, append-nil) f

pub part-more : {a b c : Text} (part : List ℕ) (i : ℕ) → i < length part → Writes a (take i part) b → Writes b (get_or part i 0 ∷ []) c
    → Writes a (take (i + 1) part) c
part-more part i h f g = retext (sym (ap (λ n. take n part) (add-one i) ∙ take-suc part i 0 h)) (then f g)

pub from_start : {a b : Text} {t : List ℕ} → Writes a t b → a.at ≡ 0 → length t ≤ length a.buffer.now
    → (b.at ≡ length t) × (b.buffer.now ≡ t ++ drop (length t) a.buffer.now)
from_start {a} {b} {t} w s h =
    let old = a.buffer.now in
    (w.wrote.ends ∙ omega (arith, s, h), w.wrote.holds ∙ ap (λ k. sets old k t) s ∙ sets-eq t old 0 (omega arith) ∙ ap (λ n. t ++ drop n old) (zero-add (length t)))
