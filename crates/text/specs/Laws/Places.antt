-- Texts that are written one after the other are one text, by a buffer and a place, for programs that keep these two themselves. `Writing` has the
-- same laws of texts as values, and most of these follow from them.
--
--   text_at a at, as_writes                 the text that ends at a place of a buffer, and what is written from there
--   one_byte, no_byte                       a byte, where there is a place for it and where there is none
--   nothing                                 no text
--   then                                    a text, and another from where it ends
--   retext                                  the same text, written otherwise
--   with-letter, without-letter             a letter that a word has, and one that it has not
--   no-letters, letter-more, all-letters    the letters of a word: none yet, one more, all
--   part-more                               the bytes of a part, and one byte more
--   same_size                               a text leaves the buffer's length
--   from_start                              a text from the first place on, for which there is room
use Rattle.std.specs.Prelude.{◌≡◌, refl, true, false, List, [], ◌∷◌, ◌++◌, ℕ, ◌+◌, ◌<◌, ◌≤◌, length, take, drop, get_or, set}
use Rattle.std.proofs.Common.{sym, ap, add-one, arith}
use Rattle.std.proofs.Math.Seq.{set_out}
use Rattle.words.specs.Words.{has}
use Rattle.text.specs.declared.bytes.Text.{Text}
use Rattle.text.specs.Text.{Wrote, Writes}
use Rattle.text.specs.Spelled.{letter_of, letters_in, letters_of}
use Rattle.text.specs.Laws.Writing as writing

-- which buffer it is does not matter here
abbrev pub text_at : List ℕ → ℕ → Text
text_at a at = record { buffer = record { ref_ptr = (0, 0); ghost_name = 0; now = a }; at = at }

pub as_writes : {a b t : List ℕ} {at next : ℕ} → Wrote a at t b next → Writes (text_at a at) t (text_at b next)
as_writes w = record { lent = refl; wrote = w }

module _ (a : List ℕ) (at x : ℕ) where
  pub one_byte : at < length a → Wrote a at (x ∷ []) (set a at x) (at + 1)
  one_byte h = record { holds = refl; ends = omega arith }

  pub no_byte : length a ≤ at → Wrote a at (x ∷ []) a at
  no_byte h = record { holds = sym (set_out a at x h); ends = omega arith }

pub nothing : (a : List ℕ) (at : ℕ) → Wrote a at [] a at
nothing a at = (writing.nothing (text_at a at)).wrote

pub same_size : {a b t : List ℕ} {at next : ℕ} → Wrote a at t b next → length b ≡ length a
same_size w = writing.same_size (as_writes w)

pub then : {a b c t u : List ℕ} {at next last : ℕ} → Wrote a at t b next → Wrote b next u c last → Wrote a at (t ++ u) c last
then w v = (writing.then (as_writes w) (as_writes v)).wrote

pub retext : {a b t u : List ℕ} {at next : ℕ} → t ≡ u → Wrote a at t b next → Wrote a at u b next
retext e w = (writing.retext e (as_writes w)).wrote

module _ {a b : List ℕ} {at next : ℕ} (w i : ℕ) where
  pub with-letter : has w i ≡ true → Wrote a at ((65 + i) ∷ []) b next → Wrote a at (letter_of w i) b next
  unfolding letter_of
  with-letter e f = rw e f

pub without-letter : (a : List ℕ) (at w i : ℕ) → has w i ≡ false → Wrote a at (letter_of w i) a at
unfolding letter_of
without-letter a at w i e = rw e (nothing a at)

pub no-letters : (a : List ℕ) (at w : ℕ) → Wrote a at (letters_in 0 w) a at
no-letters a at w = (writing.no-letters (text_at a at) w).wrote

pub all-letters : {a b : List ℕ} {at next i : ℕ} (w : ℕ) → i ≡ 16 → Wrote a at (letters_in i w) b next → Wrote a at (letters_of w) b next
all-letters w e f = retext (ap (λ n. letters_in n w) e) f

pub letter-more : {a b c : List ℕ} {at next last : ℕ} (w i : ℕ) → Wrote a at (letters_in i w) b next → Wrote b next (letter_of w i) c last
    → Wrote a at (letters_in (i + 1) w) c last
unfolding letters_in
letter-more w i f g = retext (ap (λ n. letters_in n w) (sym (add-one i))) (then f g)

pub part-more : {a b c : List ℕ} {at next last : ℕ} (part : List ℕ) (i : ℕ) → i < length part → Wrote a at (take i part) b next
    → Wrote b next (get_or part i 0 ∷ []) c last → Wrote a at (take (i + 1) part) c last
part-more part i h f g = (writing.part-more part i h (as_writes f) (as_writes g)).wrote

pub from_start : {a b t : List ℕ} {next : ℕ} → Wrote a 0 t b next → length t ≤ length a → (next ≡ length t) × (b ≡ t ++ drop (length t) a)
from_start w h = writing.from_start (as_writes w) refl h
