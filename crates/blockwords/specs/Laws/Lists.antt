-- The line of a list, from its parts as the code writes them one after the other.
--
--   no_words, word_more, all_words            the words: none yet, one more, all
--   effect-put, effect-passed                 an effect: one that is confounded, and one that is not
--   no-effects, effect-more, all-effects      the confounded effects: none yet, one word more, all
--   line_made                                 the line
--   list-long                                 how long it is at the most
--   ends-within                               a text from the first place on ends in the buffer
use Rattle.std.specs.Prelude.{◌≡◌, refl, Bool, true, false, cond, List, [], ◌∷◌, ◌++◌, map, ℕ, suc, ◌+◌, ◌*◌, ◌^◌, ◌<◌, ◌≤◌, length, take, get_or}
use Rattle.std.proofs.Common.{sym, ap, ◌∙◌, append_assoc, append-nil, add-one, arith, length-append, pow_mono, take-suc, take_all}
use Rattle.algebra.specs.Tab.{tab, tab_from}
use Rattle.algebra.specs.Those.{those}
use Rattle.algebra.specs.Laws.Tab.{length-tab}
use Rattle.algebra.specs.Laws.Those.{those-pass, those-skip}
use Rattle.plan.specs.Plan.{confounded_in}
use Rattle.text.specs.declared.bytes.Text.{Text}
use Rattle.text.specs.Text.{ascii, Writes}
use Rattle.text.specs.Spelled.{letters_of}
use Rattle.text.specs.Laws.Writing.{nothing, then, retext, same_size, letters-long}
use Rattle.lines.specs.Lines.{space, newline, line_of}
use Rattle.blockings.specs.Blockings.{blocked_plan}
use Rattle.blockwords.specs.Listed.{confounded_of, list_line}
use Rattle.blockwords.specs.Inner.Written.{space_after, space_before}

-- ---- the words

after_last : (ws : List ℕ) (w : ℕ) → space_after (ws ++ (w ∷ [])) ≡ space_after ws ++ (letters_of w ++ (space ∷ []))
unfolding space_after
after_last [] w = refl
after_last (v ∷ ws) w = rw (after_last ws w, append_assoc) refl

pub no_words : (a : Text) → Writes a (space_after []) a
unfolding space_after
no_words a = nothing a

pub word_more : {a b c d : Text} (ws : List ℕ) (i : ℕ) → i < length ws → Writes a (space_after (take i ws)) b
    → Writes b (letters_of (get_or ws i 0)) c → Writes c (space ∷ []) d → Writes a (space_after (take (i + 1) ws)) d
word_more ws i h f g s =
    retext
    (sym (ap (λ n. space_after (take n ws)) (add-one i) ∙ ap space_after (take-suc ws i 0 h) ∙ after_last (take i ws) (get_or ws i 0)))
    (then f (then g s))

pub all_words : {a b : Text} (ws : List ℕ) (i : ℕ) → length ws ≤ i → Writes a (space_after (take i ws)) b
    → Writes a (space_after ws) b
all_words ws i h f = retext (ap space_after (take_all i ws h)) f

-- ---- the confounded effects

before-joined : (vs ws : List ℕ) → space_before (vs ++ ws) ≡ space_before vs ++ space_before ws
unfolding space_before
before-joined [] ws = refl
before-joined (v ∷ vs) ws = rw (before-joined vs ws, append_assoc) refl

module _ {a b c : Text} (w : ℕ) {lost : Bool} where
  pub effect-put : lost ≡ true → Writes a (space ∷ []) b → Writes b (letters_of w) c → Writes a (space_before (cond lost (w ∷ []) [])) c
  unfolding space_before
  effect-put e f g = rw (e, append-nil) (then f g)

pub effect-passed : (a : Text) (w : ℕ) {lost : Bool} → lost ≡ false → Writes a (space_before (cond lost (w ∷ []) [])) a
unfolding space_before
effect-passed a w e = rw e (nothing a)

module _ (test : ℕ → Bool) where
  one_more : (w : ℕ) → those test (tab (w + 1) (λ v. v)) ≡ those test (tab w (λ v. v)) ++ cond (test w) (w ∷ []) []
  one_more w = by (test w) refl
    where
      by : (b : Bool) → test w ≡ b → those test (tab (w + 1) (λ v. v)) ≡ those test (tab w (λ v. v)) ++ cond b (w ∷ []) []
      by true e = those-pass test (λ v. v) w e
      by false e = those-skip test (λ v. v) w e ∙ sym (append-nil (those test (tab w (λ v. v))))

  pub no-effects : (a : Text) → Writes a (space_before (those test (tab 0 (λ v. v)))) a
  unfolding space_before those tab_from
  no-effects a = nothing a

  pub effect-more : {a b c : Text} (w : ℕ) {lost : Bool} → lost ≡ test w
      → Writes a (space_before (those test (tab w (λ v. v)))) b → Writes b (space_before (cond lost (w ∷ []) [])) c
      → Writes a (space_before (those test (tab (w + 1) (λ v. v)))) c
  effect-more w e f g =
      retext (sym (ap space_before (one_more w) ∙ before-joined (those test (tab w (λ v. v))) (cond (test w) (w ∷ []) [])))
      (then f (retext (ap (λ t. space_before (cond t (w ∷ []) [])) e) g))

pub all-effects : (k : ℕ) (ws : List ℕ) {a b : Text} {w all : ℕ} → all ≡ 2 ^ k → w ≡ all
    → Writes a (space_before (those (confounded_in (blocked_plan k ws)) (tab w (λ v. v)))) b
    → Writes a (space_before (confounded_of k ws)) b
unfolding confounded_of
all-effects k ws e f g = retext (ap (λ n. space_before (those (confounded_in (blocked_plan k ws)) (tab n (λ v. v)))) (f ∙ e)) g

-- ---- the line

line-of-effects : (f : List ℕ) (es : List ℕ) → line_of (f ∷ map letters_of es) ≡ f ++ (space_before es ++ (newline ∷ []))
unfolding line_of space_before
line-of-effects f [] = refl
line-of-effects f (e ∷ es) =
    ap (λ t. f ++ (space ∷ t)) (line-of-effects (letters_of e) es ∙ sym (append_assoc (letters_of e) (space_before es) (newline ∷ [])))

line-of-words : (ws g : List ℕ) (gs : List (List ℕ)) → line_of (map letters_of ws ++ (g ∷ gs)) ≡ space_after ws ++ line_of (g ∷ gs)
unfolding line_of space_after
line-of-words [] g gs = refl
line-of-words (w ∷ []) g gs = sym (append_assoc (letters_of w) (space ∷ []) (line_of (g ∷ gs)))
line-of-words (w ∷ v ∷ ws) g gs =
    ap (λ t. letters_of w ++ (space ∷ t)) (line-of-words (v ∷ ws) g gs)
    ∙ sym (append_assoc (letters_of w) (space ∷ space_after (v ∷ ws)) (line_of (g ∷ gs)))

the-line : (k : ℕ) (ws : List ℕ) → list_line k ws ≡ space_after ws ++ (ascii ":" ++ (space_before (confounded_of k ws) ++ (newline ∷ [])))
unfolding list_line
the-line k ws =
    line-of-words ws (ascii ":") (map letters_of (confounded_of k ws))
    ∙ ap (λ t. space_after ws ++ t) (line-of-effects (ascii ":") (confounded_of k ws))

pub line_made : {a b c d e : Text} (k : ℕ) (ws : List ℕ) → Writes a (space_after ws) b → Writes b (58 ∷ []) c
    → Writes c (space_before (confounded_of k ws)) d → Writes d (newline ∷ []) e → Writes a (list_line k ws) e
line_made k ws w x y z = retext (sym (the-line k ws)) (then w (then x (then y z)))

-- ---- how long it is

after-long : (ws : List ℕ) → length (space_after ws) ≤ 17 * length ws
unfolding space_after
after-long [] = omega arith
after-long (w ∷ ws) = rw (length-append (letters_of w) (space ∷ space_after ws)) (omega (arith, letters-long w, after-long ws))

before-long : (ws : List ℕ) → length (space_before ws) ≤ 17 * length ws
unfolding space_before
before-long [] = omega arith
before-long (w ∷ ws) = rw (length-append (letters_of w) (space_before ws)) (omega (arith, letters-long w, before-long ws))

not_more : (test : ℕ → Bool) (xs : List ℕ) → length (those test xs) ≤ length xs
unfolding those
not_more test [] = omega arith
not_more test (x ∷ xs) = by (test x) (not_more test xs)
  where
    by : (b : Bool) → length (those test xs) ≤ length xs → length (cond b (x ∷ those test xs) (those test xs)) ≤ suc (length xs)
    by true h = omega arith
    by false h = omega arith

few-effects : (k : ℕ) (ws : List ℕ) → k ≤ 5 → length (confounded_of k ws) ≤ 32
unfolding confounded_of
few-effects k ws h = omega (arith, not_more (confounded_in (blocked_plan k ws)) (tab (2 ^ k) (λ v. v)), length-tab (2 ^ k) (λ v. v), pow_mono h)

pub list-long : (k : ℕ) (ws : List ℕ) → k ≤ 5 → length ws ≤ 4 → length (list_line k ws) ≤ 614
list-long k ws h l =
    rw (the-line k ws, length-append (space_after ws), length-append (ascii ":"), length-append (space_before (confounded_of k ws)))
    (omega (arith, after-long ws, before-long (confounded_of k ws), few-effects k ws h))

pub ends-within : {a b : Text} {t : List ℕ} → a.at ≡ 0 → Writes a t b → b.at ≤ length b.buffer.now
ends-within s w = omega (arith, s, w.wrote.ends, same_size w)
