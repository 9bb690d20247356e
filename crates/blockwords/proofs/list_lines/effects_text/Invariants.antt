use Rattle.algebra.specs.Tab.{tab}
use Rattle.algebra.specs.Those.{those}
use Rattle.plan.specs.Plan.{confounded_in}
use Rattle.text.specs.Text.{Writes}
use Rattle.blockings.specs.Blockings.{blocked_plan}
use Rattle.blockwords.specs.Inner.Written.{space_before}
use Rattle.blockwords.proofs.list_lines.effects_text.Given as goal

abbrev pub invariant-loop-word : goal.invariant-loop-word
invariant-loop-word l = Writes l.initial.text (space_before (those (confounded_in (blocked_plan l.k l.list)) (tab l.word (λ v. v)))) l.text
