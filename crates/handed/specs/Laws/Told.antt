-- The number of an answer, in each arm of a match.
--
--   told    an answer is one of its cases, and the number of that case is the lowest that applies
use Rattle.std.specs.Prelude.{Result, ◌≡◌, ℕ}
use Rattle.std.proofs.Common.{sym, ap, ◌∙◌}
use Rattle.plan.specs.declared.refusals.Refusal.{Refusal}
use Rattle.plan.specs.Outcome.{refused_of, outcome}
use Rattle.plan.proofs.Laws.Answers.{refused-of}
use Rattle.columns.specs.Refusals.{answer_outcome}

pub told : {r s : Result Unit Refusal} {n : ℕ} → r ≡ s → answer_outcome r ≡ outcome n tt → refused_of (answer_outcome s) ≡ n
told {n = n} d e = ap refused_of (ap answer_outcome (sym d) ∙ e) ∙ refused-of n tt
