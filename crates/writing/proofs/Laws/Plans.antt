-- The plan that is read back.
--
--   settled-alike                a plan and the same with 0 beyond its counts are alike
--   settled_same                 a plan that has 0 there stays as it is
--   six_bodies once r            the bodies of tag 6 where runs are made r times
--   After rest                   what comes after the fields of a plan has none of these
--   Bodies, the_bodies           the bodies of the fields of a plan, and of what comes after them
--   plan-back                    the plan that is read of them
--   at_most_one, not-needless    of tag 6 there is at most one, and it is not needless
use Rattle.std.specs.Prelude.{◌≡◌, Bool, not, ◌&&◌, List, [], ◌∷◌, ◌++◌, ℕ, ◌+◌, ◌≤◌, ◌<◌, ltb, length, get_or, take}
use Rattle.std.proofs.Math.Path.{refl, sym, ap}
use Rattle.std.proofs.Common.{◌∙◌, add-zero, arith, lt-ltb, le-ltb, eqb-true, length-take-le, get_or-take}
use Rattle.std.proofs.Math.Bool.{true, false, cond}
use Rattle.std.proofs.Math.Decide.{dec_lt}
use Rattle.std.proofs.Math.Dec.{eqb}
use Rattle.algebra.specs.Tab.{tab}
use Rattle.algebra.specs.Laws.Tab.{length-tab, get_or-tab, is-tab, tab-cong}
use Rattle.plan.specs.declared.types.Plan.{Plan}
use Rattle.plan.specs.Plan.{word_count, number_count}
use Rattle.plan.proofs.Laws.Words.{counts-few}
use Rattle.plan.proofs.Laws.Alike.{Alike}
use Rattle.numerals.specs.Numbers.{big}
use Rattle.fields.specs.Fields.{Fields, bodies, body_at}
use Rattle.fields.specs.Tags.{at_most_once}
use Rattle.contents.specs.Contents.{byte_at, word_in, repeats_in, needless, plan_in}
use Rattle.writing.specs.Writer.{bytes, each, added_body, block_body, repeats_fields, head_fields, settled}
use Rattle.writing.proofs.Laws.Bytes.{two_back}
use Rattle.writing.proofs.Laws.Each.{each-other, each-count, each_at, each-past}
use Rattle.writing.specs.RoundTrip.{Shaped, Clean}

-- ---- 0 beyond the counts

-- a list with 0 put from place n on keeps its first c places, where c is n or fewer
front : (m n c : ℕ) (ws : List ℕ) → length ws ≡ m → n ≤ m → c ≤ n → take c (tab m (λ i. cond (ltb i n) (get_or ws i 0) 0)) ≡ take c ws
front m n c ws l h f =
    is-tab 0 (take c (tab m upto)) c (λ i. get_or ws i 0) (length-take-le c (tab m upto) (rw (length-tab m upto) (omega arith))) so
    ∙ sym (is-tab 0 (take c ws) c (λ i. get_or ws i 0) (length-take-le c ws (rw l (omega arith))) (λ i k. get_or-take c ws i 0 k))
  where
    upto : ℕ → ℕ
    upto i = cond (ltb i n) (get_or ws i 0) 0

    so : (i : ℕ) → i < c → get_or (take c (tab m upto)) i 0 ≡ get_or ws i 0
    so i k = get_or-take c (tab m upto) i 0 k ∙ get_or-tab 0 m upto i (omega arith) ∙ rw (lt-ltb i n (omega arith)) refl

-- P14: at two levels all block words are sets of letters, at three they are numbers; either way they are the first of the plan's own
pub settled-alike : (p : Plan) → Shaped p → p.added ≤ 6 → p.blocks ≤ 4 → Alike (settled p) p
unfolding settled
settled-alike p s h k =
    let few = counts-few p p.blocks (omega arith) in
    record {
      levels = refl;
      k = refl;
      added = refl;
      words = front 6 p.added p.added p.words s.words_long h (omega arith);
      signs = front 6 p.added p.added p.signs s.signs-long h (omega arith);
      blocks = refl;
      blockwords = front 4 p.blocks (word_count p) p.blockwords s.blockwords-long k few.0;
      numbers = front 4 p.blocks (number_count p) p.blockwords s.blockwords-long k few.1;
      repeats = refl;
    }

stays : (m n : ℕ) (ws : List ℕ) → length ws ≡ m → ((i : ℕ) → n ≤ i → get_or ws i 0 ≡ 0) → tab m (λ i. cond (ltb i n) (get_or ws i 0) 0) ≡ ws
stays m n ws l h = sym (is-tab 0 ws m (λ i. cond (ltb i n) (get_or ws i 0) 0) l (λ i k. by i (dec_lt i n)))
  where
    by : (i : ℕ) → Dec (i < n) → get_or ws i 0 ≡ cond (ltb i n) (get_or ws i 0) 0
    by i (yes k) = rw (lt-ltb i n k) refl
    by i (no k) = rw (le-ltb i n (omega arith)) (h i (omega arith))

pub settled_same : (p : Plan) → Shaped p → Clean p → settled p ≡ p
unfolding settled
settled_same p s c = λ i. record {
  levels = p.levels;
  k = p.k;
  added = p.added;
  words = stays 6 p.added p.words s.words_long c.words i;
  signs = stays 6 p.added p.signs s.signs-long c.signs i;
  blocks = p.blocks;
  blockwords = stays 4 p.blocks p.blockwords s.blockwords-long c.blockwords i;
  repeats = p.repeats;
}

-- ---- the bodies of the fields that are written

-- of tag 6, where runs are made r times: none where that is once
abbrev pub six_bodies : Bool → ℕ → List (List ℕ)
six_bodies once r = cond once [] ((r ∷ []) ∷ [])

module _ (fs : Fields) (r : ℕ) (same : bodies 6 fs ≡ six_bodies (eqb r 1) r) where
  pub at_most_one : at_most_once (length (bodies 6 fs)) ≡ true
  at_most_one = rw same (by (eqb r 1))
    where
      by : (once : Bool) → at_most_once (length (six_bodies once r)) ≡ true
      by true = refl
      by false = refl

  pub not-needless : needless fs ≡ false
  unfolding needless body_at
  not-needless = rw same (by (eqb r 1) refl)
    where
      by : (once : Bool) → eqb r 1 ≡ once → (not (eqb (length (six_bodies once r)) 0) && eqb (byte_at 0 (get_or (six_bodies once r) 0 [])) 1) ≡ false
      by true e = refl
      by false e = e

  repeats-back : repeats_in fs ≡ r
  unfolding body_at
  repeats-back = rw same (by (eqb r 1) refl)
    where
      by : (once : Bool) → eqb r 1 ≡ once → cond (eqb (length (six_bodies once r)) 0) 1 (byte_at 0 (get_or (six_bodies once r) 0 [])) ≡ r
      by true e = sym (eqb-true r 1 e)
      by false e = refl

-- what comes after the plan has no field of a plan
pub record After (rest : Fields) : Type 0 where
  pub no_ones : bodies 1 rest ≡ []
  pub no-twos : bodies 2 rest ≡ []
  pub no-threes : bodies 3 rest ≡ []
  pub no-sixes : bodies 6 rest ≡ []

module _ (p : Plan) (rest : Fields) where
  abbrev after-blocks : Fields
  after-blocks = repeats_fields p rest

  abbrev after-added : Fields
  after-added = each 3 p.blocks (block_body p) after-blocks

  pub record Bodies : Type 0 where
    pub ones : bodies 1 (head_fields p rest) ≡ (p.levels ∷ p.k ∷ []) ∷ []
    pub added-bodies : bodies 2 (head_fields p rest) ≡ bodies 2 (each 2 p.added (added_body p) after-added)
    pub no-more-added : bodies 2 after-added ≡ []
    pub block-bodies : bodies 3 (head_fields p rest) ≡ bodies 3 after-added
    pub no-more-blocks : bodies 3 after-blocks ≡ []
    pub sixes : bodies 6 (head_fields p rest) ≡ six_bodies (eqb p.repeats 1) p.repeats
    pub fours : bodies 4 (head_fields p rest) ≡ bodies 4 rest
    pub fives : bodies 5 (head_fields p rest) ≡ bodies 5 rest

  -- of another tag the added factors and the block words have no field
  others : (t : ℕ) → (2 ≡ t → ⊥) → (3 ≡ t → ⊥) → bodies t (each 2 p.added (added_body p) after-added) ≡ bodies t after-blocks
  others t h k = each-other 2 p.added (added_body p) after-added t h ∙ each-other 3 p.blocks (block_body p) after-blocks t k

  -- nor has the field of the repeats
  no-repeats : (t : ℕ) → (6 ≡ t → ⊥) → bodies t after-blocks ≡ bodies t rest
  no-repeats t h = each-other 6 (cond (eqb p.repeats 1) 0 1) (λ i. p.repeats ∷ []) rest t h

  -- and of its own tag it is the only one
  own : (once : Bool) → bodies 6 rest ≡ [] → bodies 6 (each 6 (cond once 0 1) (λ i. p.repeats ∷ []) rest) ≡ six_bodies once p.repeats
  unfolding each bodies
  own true e = e
  own false e = ap (λ bs. (p.repeats ∷ []) ∷ bs) e

  pub the_bodies : After rest → Bodies
  unfolding bodies
  the_bodies a = record {
    ones = ap (λ bs. (p.levels ∷ p.k ∷ []) ∷ bs) (others 1 (λ e. omega (arith, e)) (λ e. omega (arith, e)) ∙ no-repeats 1 (λ e. omega (arith, e)) ∙ a.no_ones);
    added-bodies = refl;
    no-more-added = each-other 3 p.blocks (block_body p) after-blocks 2 (λ e. omega (arith, e)) ∙ no-repeats 2 (λ e. omega (arith, e)) ∙ a.no-twos;
    block-bodies = each-other 2 p.added (added_body p) after-added 3 (λ e. omega (arith, e));
    no-more-blocks = no-repeats 3 (λ e. omega (arith, e)) ∙ a.no-threes;
    sixes = others 6 (λ e. omega (arith, e)) (λ e. omega (arith, e)) ∙ own (eqb p.repeats 1) a.no-sixes;
    fours = others 4 (λ e. omega (arith, e)) (λ e. omega (arith, e)) ∙ no-repeats 4 (λ e. omega (arith, e));
    fives = others 5 (λ e. omega (arith, e)) (λ e. omega (arith, e)) ∙ no-repeats 5 (λ e. omega (arith, e));
  }

-- what is taken of each of the bodies bs, for m places
module _ (t n m : ℕ) (body : ℕ → List ℕ) (rest : Fields) (g : List ℕ → ℕ) (v : ℕ → ℕ) where
  placed : {bs : List (List ℕ)} → bs ≡ bodies t (each t n body rest) → bodies t rest ≡ [] → g [] ≡ 0 → ((i : ℕ) → g (body i) ≡ v i)
      → tab m (λ i. g (get_or bs i [])) ≡ tab m (λ i. cond (ltb i n) (v i) 0)
  placed same none zero_of is = rw same (tab-cong 0 m _ _ (λ i k. by i (dec_lt i n)))
    where
      by : (i : ℕ) → Dec (i < n) → g (get_or (bodies t (each t n body rest)) i []) ≡ cond (ltb i n) (v i) 0
      by i (yes h) = rw (lt-ltb i n h, each_at t n body rest i h) (is i)
      by i (no h) = rw (le-ltb i n (omega arith), each-past t n body rest i (omega arith), none) zero_of

counted : (t n : ℕ) (body : ℕ → List ℕ) (rest : Fields) {bs : List (List ℕ)} → bs ≡ bodies t (each t n body rest) → bodies t rest ≡ [] → length bs ≡ n
counted t n body rest same none = ap length same ∙ each-count t n body rest ∙ ap (λ bs. n + length bs) none ∙ add-zero n

word_of : (w : ℕ) (more : List ℕ) → w < 65536 → word_in (bytes 2 w ++ more) ≡ w
unfolding bytes
word_of w more h = two_back w h

block_of : (w : ℕ) → w < 65536 → word_in (bytes 2 w) ≡ w
unfolding bytes
block_of w h = two_back w h

sign_of : (w s : ℕ) → byte_at 2 (bytes 2 w ++ (s ∷ [])) ≡ s
unfolding bytes
sign_of w s = refl

no_word : word_in [] ≡ 0
unfolding big
no_word = refl

pub plan-back : (p : Plan) (rest : Fields) → After rest → Shaped p → plan_in (head_fields p rest) ≡ settled p
unfolding plan_in settled body_at
plan-back p rest a s = λ i. record {
  levels = ap (λ bs. byte_at 0 (get_or bs 0 [])) b.ones i;
  k = ap (λ bs. byte_at 1 (get_or bs 0 [])) b.ones i;
  added = counted 2 p.added (added_body p) _ b.added-bodies b.no-more-added i;
  words = placed 2 p.added 6 (added_body p) _ word_in (λ j. get_or p.words j 0) b.added-bodies b.no-more-added no_word (λ j. word_of (get_or p.words j 0) _ (s.words-fit j)) i;
  signs = placed 2 p.added 6 (added_body p) _ (byte_at 2) (λ j. get_or p.signs j 0) b.added-bodies b.no-more-added refl (λ j. sign_of (get_or p.words j 0) (get_or p.signs j 0)) i;
  blocks = counted 3 p.blocks (block_body p) _ b.block-bodies b.no-more-blocks i;
  blockwords = placed 3 p.blocks 4 (block_body p) _ word_in (λ j. get_or p.blockwords j 0) b.block-bodies b.no-more-blocks no_word (λ j. block_of (get_or p.blockwords j 0) (s.blockwords-fit j)) i;
  repeats = repeats-back (head_fields p rest) p.repeats b.sixes i;
}
  where
    b : Bodies p rest
    b = the_bodies p rest a
