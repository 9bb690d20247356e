-- A list whose places are written one after the other, in any order: `key p` is the turn of the place p, `f p` what is written there and
-- `g p` what stood there.
--
--   mix key f g t   what stands where t turns are done: f at places whose turn was below t, g elsewhere
--   mix-start       before the first turn it is the list that was there
--   mix-read        a place whose turn has not come holds what it held
--   mix-step        a turn writes its place
--   mix-end         after the last turn it is all f
use Rattle.std.specs.Prelude.{◌≡◌, cond, List, ◌≢◌, ℕ, ◌+◌, ◌<◌, ◌≤◌, ltb, length, get_or, set}
use Rattle.std.proofs.Common.{sym, ◌∙◌, arith, lt-ltb, le-ltb, length-set, get_or-set_same, get_or-set_other}
use Rattle.std.proofs.Math.Decide.{dec_lt, ℕ_discrete}
use Rattle.algebra.specs.Tab.{tab}
use Rattle.algebra.specs.Laws.Tab.{length-tab, get_or-tab, is-tab}

unfoldable pub mix : {A : Type 0} → (ℕ → ℕ) → (ℕ → A) → (ℕ → A) → ℕ → ℕ → A
mix key f g t p = cond (ltb (key p) t) (f p) (g p)

module _ {A : Type 0} (z : A) (key : ℕ → ℕ) (f g : ℕ → A) where
  done : (t p : ℕ) → key p < t → mix key f g t p ≡ f p
  unfolding mix
  done t p h = rw (lt-ltb (key p) t h)

  left : (t p : ℕ) → t ≤ key p → mix key f g t p ≡ g p
  unfolding mix
  left t p h = rw (le-ltb (key p) t h)

  pub mix-start : (n : ℕ) (xs : List A) → length xs ≡ n → ((p : ℕ) → p < n → get_or xs p z ≡ g p) → xs ≡ tab n (mix key f g 0)
  mix-start n xs l h = is-tab z xs n (mix key f g 0) l (λ p k. h p k ∙ sym (left 0 p (omega arith)))

  pub mix-read : (n t p : ℕ) → p < n → t ≤ key p → get_or (tab n (mix key f g t)) p z ≡ g p
  mix-read n t p k h = get_or-tab z n (mix key f g t) p k ∙ left t p h

  pub mix-step : (n t p : ℕ) → p < n → key p ≡ t → ((q : ℕ) → q < n → key q ≡ key p → q ≡ p)
      → set (tab n (mix key f g t)) p (f p) ≡ tab n (mix key f g (t + 1))
  mix-step n t p k e one =
      is-tab z (set now p (f p)) n (mix key f g (t + 1)) (length-set now p (f p) ∙ length-tab n (mix key f g t))
      (λ q h. at q h (ℕ_discrete q p))
    where
      now : List A
      now = tab n (mix key f g t)

      other : (q : ℕ) → q < n → q ≢ p → Dec (key q < t) → mix key f g t q ≡ mix key f g (t + 1) q
      other q h ne (yes d) = done t q d ∙ sym (done (t + 1) q (omega arith))
      other q h ne (no d) =
          let ne' : key q ≢ t = λ e'. ne (one q h (e' ∙ sym e)) in
          left t q (omega arith) ∙ sym (left (t + 1) q (omega arith))

      at : (q : ℕ) → q < n → Dec (q ≡ p) → get_or (set now p (f p)) q z ≡ mix key f g (t + 1) q
      at q h (yes e') =
          rw e' (get_or-set_same now p (f p) z (omega (arith, length-tab n (mix key f g t))) ∙ sym (done (t + 1) p (omega arith)))
      at q h (no ne) = get_or-set_other now p q (f p) z ne ∙ get_or-tab z n (mix key f g t) q h ∙ other q h ne (dec_lt (key q) t)

  pub mix-end : (n t : ℕ) → ((p : ℕ) → p < n → key p < t) → tab n (mix key f g t) ≡ tab n f
  mix-end n t h =
      is-tab z (tab n (mix key f g t)) n f (length-tab n (mix key f g t))
      (λ p k. get_or-tab z n (mix key f g t) p k ∙ done t p (h p k))
