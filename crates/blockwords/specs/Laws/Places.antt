-- The line of a list and the lines of numbers, by a buffer and a place, for programs that keep these two themselves. `Lists` and `Texts` have the
-- same laws of texts as values.
--
--   no_words, word_more, all_words            the words: none yet, one more, all
--   effect-put, effect-passed                 an effect: one that is confounded, and one that is not
--   no-effects, effect-more, all-effects      the confounded effects: none yet, one word more, all
--   line_made                                 the line
--   whole-line                                a buffer of 1,024 bytes has room for it
--   ends-within                               a text from the first place on ends in the buffer
--   whole-text                                what a text leaves in a buffer that has room for it
--   number-text                               a line of a name and a number, where the name is short
use Rattle.std.specs.Prelude.{◌≡◌, refl, Bool, true, false, cond, List, [], ◌∷◌, ℕ, ◌+◌, ◌^◌, ◌<◌, ◌≤◌, length, take, get_or}
use Rattle.std.proofs.Common.{arith}
use Rattle.algebra.specs.Tab.{tab}
use Rattle.algebra.specs.Those.{those}
use Rattle.plan.specs.Plan.{confounded_in}
use Rattle.text.specs.Text.{Wrote}
use Rattle.text.specs.Spelled.{letters_of}
use Rattle.text.specs.Laws.Places.{text_at, as_writes}
use Rattle.lines.specs.Lines.{space, newline, named_line}
use Rattle.lines.specs.Laws.Lines.{named-long}
use Rattle.blockings.specs.Blockings.{blocked_plan}
use Rattle.blockwords.specs.Listed.{confounded_of, list_line}
use Rattle.blockwords.specs.Inner.Written.{space_after, space_before}
use Rattle.blockwords.specs.Laws.Lists as lists
use Rattle.blockwords.specs.Laws.Texts as texts

-- ---- the words

pub no_words : (a : List ℕ) (at : ℕ) → Wrote a at (space_after []) a at
no_words a at = (lists.no_words (text_at a at)).wrote

pub word_more : {a b c d : List ℕ} {at p q r : ℕ} (ws : List ℕ) (i : ℕ) → i < length ws → Wrote a at (space_after (take i ws)) b p
    → Wrote b p (letters_of (get_or ws i 0)) c q → Wrote c q (space ∷ []) d r → Wrote a at (space_after (take (i + 1) ws)) d r
word_more ws i h f g s = (lists.word_more ws i h (as_writes f) (as_writes g) (as_writes s)).wrote

pub all_words : {a b : List ℕ} {at next : ℕ} (ws : List ℕ) (i : ℕ) → length ws ≤ i → Wrote a at (space_after (take i ws)) b next
    → Wrote a at (space_after ws) b next
all_words ws i h f = (lists.all_words ws i h (as_writes f)).wrote

-- ---- the confounded effects

module _ {a b c : List ℕ} {at p q : ℕ} (w : ℕ) {lost : Bool} where
  pub effect-put : lost ≡ true → Wrote a at (space ∷ []) b p → Wrote b p (letters_of w) c q → Wrote a at (space_before (cond lost (w ∷ []) [])) c q
  effect-put e f g = (lists.effect-put w e (as_writes f) (as_writes g)).wrote

pub effect-passed : (a : List ℕ) (at w : ℕ) {lost : Bool} → lost ≡ false → Wrote a at (space_before (cond lost (w ∷ []) [])) a at
effect-passed a at w e = (lists.effect-passed (text_at a at) w e).wrote

module _ (test : ℕ → Bool) where
  pub no-effects : (a : List ℕ) (at : ℕ) → Wrote a at (space_before (those test (tab 0 (λ v. v)))) a at
  no-effects a at = (lists.no-effects test (text_at a at)).wrote

  pub effect-more : {a b c : List ℕ} {at p q : ℕ} (w : ℕ) {lost : Bool} → lost ≡ test w
      → Wrote a at (space_before (those test (tab w (λ v. v)))) b p → Wrote b p (space_before (cond lost (w ∷ []) [])) c q
      → Wrote a at (space_before (those test (tab (w + 1) (λ v. v)))) c q
  effect-more w e f g = (lists.effect-more test w e (as_writes f) (as_writes g)).wrote

pub all-effects : (k : ℕ) (ws : List ℕ) {a b : List ℕ} {at next w all : ℕ} → all ≡ 2 ^ k → w ≡ all
    → Wrote a at (space_before (those (confounded_in (blocked_plan k ws)) (tab w (λ v. v)))) b next
    → Wrote a at (space_before (confounded_of k ws)) b next
all-effects k ws e f g = (lists.all-effects k ws e f (as_writes g)).wrote

-- ---- the line

pub line_made : {a b c d e : List ℕ} {at p q r s : ℕ} (k : ℕ) (ws : List ℕ) → Wrote a at (space_after ws) b p → Wrote b p (58 ∷ []) c q
    → Wrote c q (space_before (confounded_of k ws)) d r → Wrote d r (newline ∷ []) e s → Wrote a at (list_line k ws) e s
line_made k ws w x y z = (lists.line_made k ws (as_writes w) (as_writes x) (as_writes y) (as_writes z)).wrote

pub whole-line : (k : ℕ) (ws : List ℕ) {a b : List ℕ} {n : ℕ} → Wrote a 0 (list_line k ws) b n → length a ≡ 1024 → k ≤ 5 → length ws ≤ 4
    → n ≡ length (list_line k ws)
whole-line k ws w e h l = omega (arith, w.ends, e, lists.list-long k ws h l)

-- ---- the whole text

pub ends-within : {a t b : List ℕ} {n : ℕ} → Wrote a 0 t b n → n ≤ length b
ends-within w = lists.ends-within refl (as_writes w)

pub whole-text : {a b t : List ℕ} {n : ℕ} → Wrote a 0 t b n → length t ≤ length a → take n b ≡ t
whole-text w h = texts.whole-text refl refl h (as_writes w)

pub number-text : (name : List ℕ) (m : ℕ) {a b : List ℕ} {n : ℕ} → Wrote a 0 (named_line name m) b n → length a ≡ 1024 → length name ≤ 1000
    → take n b ≡ named_line name m
number-text name m w e h = whole-text w (omega (arith, e, h, named-long name m))
