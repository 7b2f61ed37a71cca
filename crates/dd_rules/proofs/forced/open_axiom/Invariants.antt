use Rattle.std.proofs.Common.{◌≡◌, true}
use Rattle.dd_set.specs.Words.{has}
use Rattle.dd_rules.specs.Numbers.{keeps_axiom}
use Rattle.dd_rules.proofs.Walks.{EachBelow}
use Rattle.dd_rules.proofs.forced.open_axiom.Given as goal

abbrev pub invariant-loop-k : goal.invariant-loop-k
invariant-loop-k l = EachBelow (λ m a. keeps_axiom (has l.label.words) a ≡ true) l.axioms l.k
