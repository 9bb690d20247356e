-- The facts that computed tests show. A law turns the test of a whole table into the rule at each entry.
--
--   tests                  a comparison of the code, as a test of a contract
--   fails                  a test that cannot pass fails
--   is                     a test has the value that the code found for it
--   either                 what holds in both cases of a test holds by the test
--   same_test              numbers below i + 1 other than i are those below i
--   and_left, and_right    both sides of a test a && b pass
--   both                   the same as equations
--   neither, none          neither side of a test a || b passes
--   every-at               a test that passes at each number below n passes at any one of them
--   eqb-digits             two numbers are equal where their lowest digits are, and the rest
--   cond-*, cond-*ℤ-cond   a product of two numbers, each under a test, is under both tests
--   eqZ→eq, eq_z-true      integers that the test `eq_z` finds equal are equal
--   eq-eq_z, ne-eq_z       and it finds so exactly of equal ones
--   both_ways              two tests fail alike where each fails if the other does
use Rattle.std.specs.Prelude.{◌≡◌, refl, Bool, true, false, not, cond, ◌&&◌, ◌||◌, ℕ, zero, suc, ◌+◌, ◌*◌, ◌/◌, ◌%◌, ◌<◌, T, eqb, ltb, ℤ, pos, negsuc, ◌*ℤ◌}
use Rattle.std.proofs.Common.{sym, ◌∙◌, ap, true≢false, div-add-mod', mul-zero, zero-mul, arith, lt-ltb, le-ltb, le-leb, eq-eqb, ne_eqb, eqb-true, eqb→eq}
use Rattle.std.proofs.Math.Decide.{ℕ_discrete, dec_lt}
use Rattle.std.proofs.lemmas.Bool.{lt-leb}
use Rattle.std.proofs.Math.IntN.{*ℤ-zero, zero-*ℤ}
use Rattle.algebra.specs.Tests.{every, eq_z}

pub ruleset tests = (lt-ltb, le-ltb, le-leb, lt-leb, eq-eqb, ne_eqb, arith)

pub fails : (b : Bool) → (b ≡ true → ⊥) → b ≡ false
fails true h = absurd (h refl)
fails false h = refl

pub is : {b t v : Bool} → b ≡ t → b ≡ v → t ≡ v
is e f = sym e ∙ f

pub either : {A : Type 0} (c : Bool) (x y : A) (P : A → Type 0) → (T c → P x) → (T (not c) → P y) → P (cond c x y)
either true x y P f g = f tt
either false x y P f g = g tt

pub same_test : (j i : ℕ) → (j ≡ i → ⊥) → ltb j i ≡ ltb j (i + 1)
same_test j i d = by (dec_lt j i)
  where
    by : Dec (j < i) → ltb j i ≡ ltb j (i + 1)
    by (yes h) = rw (lt-ltb j i h, lt-ltb j (i + 1) (omega arith))
    by (no h) = rw (le-ltb j i (omega arith), le-ltb j (i + 1) (omega arith))

pub and_left : (a b : Bool) → T (a && b) → T a
and_left true b t = tt
and_left false b t = t

pub and_right : (a b : Bool) → T (a && b) → T b
and_right true b t = t
and_right false b t = absurd t

pub both : (a b : Bool) → (a && b) ≡ true → (a ≡ true) × (b ≡ true)
both true b e = (refl, e)
both false b e = absurd (true≢false (sym e))

pub neither : (a b : Bool) → (a || b) ≡ false → (a ≡ false) × (b ≡ false)
neither true b e = absurd (true≢false e)
neither false b e = (refl, e)

pub none : {a b : Bool} → a ≡ false → b ≡ false → (a || b) ≡ false
none e f = rw e f

pub every-at : (n : ℕ) (p : ℕ → Bool) → T (every n p) → (i : ℕ) → i < n → T (p i)
unfolding every
every-at zero p t i h = absurd (omega arith)
every-at (suc n) p t i h = go (ℕ_discrete i n) (every-at n p (and_right (p n) (every n p) t) i)
  where
    go : Dec (i ≡ n) → (i < n → T (p i)) → T (p i)
    go (yes e) r = rw e (and_left (p n) (every n p) t)
    go (no e) r = r (omega arith)

pub eqb-digits : (l c e : ℕ) → eqb c e ≡ (eqb (c % l) (e % l) && eqb (c / l) (e / l))
eqb-digits l c e = go (ℕ_discrete (c % l) (e % l)) (ℕ_discrete (c / l) (e / l))
  where
    go : Dec (c % l ≡ e % l) → Dec (c / l ≡ e / l) → eqb c e ≡ (eqb (c % l) (e % l) && eqb (c / l) (e / l))
    go (yes p) (yes q) =
        let s : c ≡ e = sym (div-add-mod' c l) ∙ rw (p, q) (div-add-mod' e l) in
        rw (eq-eqb c e s, eq-eqb (c % l) (e % l) p, eq-eqb (c / l) (e / l) q)
    go (yes p) (no q) = rw (ne_eqb c e (λ s. q (ap (λ z. z / l) s)), eq-eqb (c % l) (e % l) p, ne_eqb (c / l) (e / l) q)
    go (no p) q = rw (ne_eqb c e (λ s. p (ap (λ z. z % l) s)), ne_eqb (c % l) (e % l) p)

pub cond-* : (a b : Bool) (m n : ℕ) → cond a m 0 * cond b n 0 ≡ cond (a && b) (m * n) 0
cond-* true true m n = refl
cond-* true false m n = mul-zero m
cond-* false b m n = zero-mul (cond b n 0)

pub cond-*ℤ-cond : (a b : Bool) (m n : ℤ) → cond a m (pos 0) *ℤ cond b n (pos 0) ≡ cond (a && b) (m *ℤ n) (pos 0)
cond-*ℤ-cond true true m n = refl
cond-*ℤ-cond true false m n = *ℤ-zero m
cond-*ℤ-cond false b m n = zero-*ℤ (cond b n (pos 0))

pub eqZ→eq : (a b : ℤ) → T (eq_z a b) → a ≡ b
eqZ→eq (pos a) (pos b) t = ap pos (eqb→eq a b t)
eqZ→eq (pos a) (negsuc b) t = absurd t
eqZ→eq (negsuc a) (pos b) t = absurd t
eqZ→eq (negsuc a) (negsuc b) t = ap negsuc (eqb→eq a b t)

pub eq_z-true : (a b : ℤ) → eq_z a b ≡ true → a ≡ b
eq_z-true (pos a) (pos b) e = ap pos (eqb-true a b e)
eq_z-true (pos a) (negsuc b) e = absurd (true≢false (sym e))
eq_z-true (negsuc a) (pos b) e = absurd (true≢false (sym e))
eq_z-true (negsuc a) (negsuc b) e = ap negsuc (eqb-true a b e)

pub eq-eq_z : (a b : ℤ) → a ≡ b → eq_z a b ≡ true
eq-eq_z (pos a) b e = rw (← e) (eq-eqb a a refl)
eq-eq_z (negsuc a) b e = rw (← e) (eq-eqb a a refl)

pub ne-eq_z : (a b : ℤ) → (a ≡ b → ⊥) → eq_z a b ≡ false
ne-eq_z a b h = fails (eq_z a b) (λ e. h (eq_z-true a b e))

pub both_ways : (a b : Bool) → (a ≡ false → b ≡ false) → (b ≡ false → a ≡ false) → a ≡ b
both_ways true true f g = refl
both_ways true false f g = g refl
both_ways false true f g = sym (f refl)
both_ways false false f g = refl
