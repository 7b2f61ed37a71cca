use Rattle.std.proofs.Common.{◌≡◌, true, arith}
use Rattle.dd_set.specs.Words.{has}
use Rattle.dd_rules.specs.Numbers.{decides_axiom}
use Rattle.dd_rules.proofs.Walks.{each-all, list_all-from}
use Rattle.dd_rules.proofs.choice.open_axiom.Goals as goal

pub returns-clause-none : goal.returns-clause-none
returns-clause-none c _ = list_all-from (decides_axiom (has c.args.label.now.words)) c.args.axioms.now
    (each-all (λ m a. decides_axiom (has c.args.label.now.words) a ≡ true) c.args.axioms.now c.loop-k.k (omega arith) c.loop-k.invariant)
