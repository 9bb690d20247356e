-- How often each run is made, by the number of fields 6 and by the byte of the first.
--
--   once-without, repeats-by      what the plan says without such a field, and with one
--   none-needless, needless-by    whether the field is needless
--   without-or-more               where it is not, there is none, or the runs are not made once
use Rattle.std.specs.Prelude.{◌≡◌, ◌⊎◌, false, ℕ, eqb, length}
use Rattle.std.proofs.Math.Path.{refl}
use Rattle.std.proofs.Common.{sym, ◌∙◌, inl, inr, true≢false}
use Rattle.std.proofs.Math.Decide.{ℕ_discrete}
use borrow.Author.Tests.{eq-eqb, ne_eqb}
use Rattle.fields.specs.Fields.{Fields, bodies, body_at}
use Rattle.contents.specs.Contents.{byte_at, repeats_in, needless}

module _ (fs : Fields) {n : ℕ} (count : n ≡ length (bodies 6 fs)) where
  pub once-without : n ≡ 0 → 1 ≡ repeats_in fs
  once-without e = rw (← count, eq-eqb n 0 e) refl

  pub none-needless : n ≡ 0 → false ≡ needless fs
  unfolding needless
  none-needless e = rw (← count, eq-eqb n 0 e) refl

  module _ (some : n ≡ 0 → ⊥) {r : ℕ} (byte : r ≡ byte_at 0 (body_at 6 0 fs)) where
    pub repeats-by : r ≡ repeats_in fs
    repeats-by = rw (← count, ne_eqb n 0 some) byte

    pub needless-by : eqb r 1 ≡ needless fs
    unfolding needless
    needless-by = rw (← count, ne_eqb n 0 some, byte) refl

pub without-or-more : (fs : Fields) → needless fs ≡ false → (length (bodies 6 fs) ≡ 0) ⊎ (repeats_in fs ≡ 1 → ⊥)
without-or-more fs e = by (ℕ_discrete (length (bodies 6 fs)) 0)
  where
    by : Dec (length (bodies 6 fs) ≡ 0) → (length (bodies 6 fs) ≡ 0) ⊎ (repeats_in fs ≡ 1 → ⊥)
    by (yes z) = inl z
    by (no h) =
        inr (λ d.
        let one : byte_at 0 (body_at 6 0 fs) ≡ 1 = repeats-by fs refl h refl ∙ d in
        true≢false (sym (eq-eqb (byte_at 0 (body_at 6 0 fs)) 1 one) ∙ needless-by fs refl h refl ∙ e))
