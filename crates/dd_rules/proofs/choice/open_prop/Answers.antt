use Rattle.std.proofs.Common.{◌≡◌, true, arith}
use Rattle.dd_set.specs.Words.{has}
use Rattle.dd_rules.specs.Numbers.{decides_prop}
use Rattle.dd_rules.specs.Tables.{prop_with}
use Rattle.dd_rules.proofs.Walks.{each-all, list_all-from}
use Rattle.dd_rules.proofs.choice.open_prop.Goals as goal

pub returns-clause-none : goal.returns-clause-none
returns-clause-none c _ = list_all-from (λ t. decides_prop (has c.args.label.now.words) (prop_with c.args.joined.now t)) c.args.props.now
    (each-all (λ m t. decides_prop (has c.args.label.now.words) (prop_with c.args.joined.now t) ≡ true) c.args.props.now c.loop-k.k (omega arith) c.loop-k.invariant)
