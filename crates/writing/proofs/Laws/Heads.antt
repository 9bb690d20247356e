-- A plan that is written in bytes is read back: so every plan that is accepted, with words of 16 bits in as many places as a plan has, can be
-- handed over in this form.
--
--   sign_small, levels-small    signs and levels of such a plan fit a byte
--   head-back                   its bytes are not refused, and hold it, with 0 beyond its counts
--   same_head                   and the plan itself where it has 0 there
--   head_bytes                  they are bytes only
use Rattle.std.specs.Prelude.{◌≡◌, false, [], ◌∷◌, ◌⊎◌, ℕ, ◌<◌, length, get_or}
use Rattle.std.proofs.Math.Path.{refl}
use Rattle.std.proofs.Common.{ap, ◌∙◌, inl, inr, length-take-le, get_or-take}
use native.Mathlib.Omega.{arith}
use Rattle.plan.specs.declared.types.Plan.{Plan}
use Rattle.plan.specs.Check.{plan_refused}
use Rattle.plan.specs.Outcome.{lowest}
use Rattle.plan.specs.Plan.{added_signs}
use Rattle.plan.proofs.Laws.Accepted.{accepted as accepted-plan, sizes}
use Rattle.plan.proofs.Laws.Alike.{same-refused}
use Rattle.plan.proofs.Laws.Answers.{after-plan}
use Rattle.plan.proofs.Laws.Sizes.{some-repeat}
use Rattle.fields.specs.Fields.{Fields, end, fields_of, bodies}
use Rattle.fields.specs.Tags.{bad_from}
use Rattle.contents.specs.Contents.{plan_in}
use Rattle.heads.specs.Heads.{bad_head, head_plan, head_refusals, head_refused}
use Rattle.writing.specs.Writer.{bytes, added_body, block_body, head_fields, head_of, settled}
use Rattle.writing.specs.RoundTrip.{Shaped, Clean, AllBytes}
use Rattle.writing.proofs.Laws.Back.{read_back}
use Rattle.writing.proofs.Laws.Each.{each-whole, each-fine}
use Rattle.writing.proofs.Laws.Plain.{plain-append, plain-bytes, plain-fields, plain-each}
use Rattle.writing.proofs.Laws.Plans.{settled-alike, settled_same, After, Bodies, the_bodies, at_most_one, not-needless, plan-back}

module _ (p : Plan) (s : Shaped p) (ok : plan_refused p ≡ 0) where
  pub sign_small : (i : ℕ) → i < p.added → get_or p.signs i 0 < 256
  sign_small i h =
      let k = sizes p ok in
      let l : length (added_signs p) ≡ p.added = length-take-le p.added p.signs (rw s.signs-long k.1) in
      let e : get_or (added_signs p) i 0 ≡ get_or p.signs i 0 = get_or-take p.added p.signs i 0 h in
      omega (arith, e, (accepted-plan p ok).signs i (rw l h))

  pub levels-small : p.levels < 256
  levels-small = by (accepted-plan p ok).levels
    where
      by : (p.levels ≡ 2) ⊎ (p.levels ≡ 3) → p.levels < 256
      by (inl e) = omega (arith, e)
      by (inr e) = omega (arith, e)

  abbrev fs : Fields
  fs = head_fields p end

  after : After end
  unfolding bodies
  after = record { no_ones = refl; no-twos = refl; no-threes = refl; no-sixes = refl }

  b : Bodies p end
  b = the_bodies p end after

  fields_back : fields_of (head_of p) ≡ fs
  unfolding head_of bytes
  fields_back =
      read_back fs (
        omega arith,
        each-whole 2 p.added (added_body p) _ (λ i. omega arith)
            (each-whole 3 p.blocks (block_body p) _ (λ i. omega arith) (each-whole 6 _ (λ i. p.repeats ∷ []) _ (λ i. omega arith) tt)),
      )

  no-bad : bad_from 0 fs ≡ false
  unfolding bad_from bytes
  no-bad =
      each-fine 2 p.added (added_body p) _ (λ i. refl)
      (λ m h. each-fine 3 p.blocks (block_body p) _ (λ i. refl)
      (λ l k. each-fine 6 _ (λ i. p.repeats ∷ []) _ (λ i. refl) (λ o q. refl) l (omega arith)) m (omega arith)) 1 (omega arith)

  no-fours : bodies 4 fs ≡ []
  unfolding bodies
  no-fours = b.fours

  no-fives : bodies 5 fs ≡ []
  unfolding bodies
  no-fives = b.fives

  fine : bad_head fs ≡ false
  unfolding bad_head
  fine = rw (no-bad, b.ones, at_most_one fs p.repeats b.sixes, no-fours, no-fives) refl

  plan-is : plan_in fs ≡ settled p
  plan-is = plan-back p end after s

  accepted : plan_refused (plan_in fs) ≡ 0
  accepted = let k = sizes p ok in ap plan_refused plan-is ∙ same-refused (settled-alike p s k.1 k.2) ∙ ok

  left : lowest (head_refusals fs) ≡ 0
  left = rw (not-needless fs p.repeats b.sixes) refl

  pub head-back : (head_refused (head_of p) ≡ 0) × (head_plan (head_of p) ≡ settled p)
  unfolding head_refused
  head-back = (rw (fields_back, fine) (after-plan (plan_in fs) (head_refusals fs) accepted ∙ left), rw fields_back plan-is)

  pub same_head : Clean p → head_plan (head_of p) ≡ p
  same_head c = head-back.1 ∙ settled_same p s c

  pub head_bytes : AllBytes (head_of p)
  unfolding head_of
  head_bytes =
      plain-fields fs (
        omega arith,
        (levels-small, (omega (arith, (sizes p ok).0), tt)),
        plain-each 2 p.added (added_body p) _ (omega arith)
            (λ i h. plain-append (bytes 2 (get_or p.words i 0)) (get_or p.signs i 0 ∷ []) (plain-bytes 2 (get_or p.words i 0)) (sign_small i h, tt))
            (plain-each 3 p.blocks (block_body p) _ (omega arith) (λ i h. plain-bytes 2 (get_or p.blockwords i 0))
            (plain-each 6 _ (λ i. p.repeats ∷ []) _ (omega arith) (λ i h. (omega (arith, (some-repeat p ok).1), tt)) tt)),
      )
