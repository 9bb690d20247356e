use Rattle.std.proofs.Common.{ℕ, Bool, ◌≡◌}
use Rattle.plan.proofs.Laws.Combinations.{Trying}
use Rattle.plan.proofs.combinations.some_combination.Given as goal

abbrev pub invariant-loop-choice : goal.invariant-loop-choice
invariant-loop-choice g l =
    (f : ℕ → Bool) → ((word : ℕ) (answer : Bool) → g.F.Fn.post l.test (word, tt) answer → answer ≡ f word) → Trying l.words f l.choice
