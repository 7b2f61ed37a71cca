use Rattle.std.proofs.Common.{◌∙◌, sym, arith}
use Rattle.std.proofs.lemmas.Option.{slice_get_within}
use Rattle.dd_set.specs.Words.{has}
use Rattle.dd_rules.proofs.Draining.{fired-none, fired-one}
use Rattle.dd_rules.proofs.saturate.fire.Goals as goal

pub returns-then-has_joined-clause-fired : goal.returns-then-has_joined-clause-fired
returns-then-has_joined-clause-fired c = fired-one c.args.axioms.now c.args.k c.axiom_at-row.result.now (has c.args.label.now.words) (has c.insert.new.self.words)
    c.axiom_at-row.ensures (sym c.has_joined.ensures ∙ c.if-has_joined.true) c.insert.ensures.with

pub returns-else-k-axioms-clause-fired : goal.returns-else-k-axioms-clause-fired
returns-else-k-axioms-clause-fired c = fired-none c.args.axioms.now c.args.k (has c.args.label.now.words)
    (λ a e _. let low = slice_get_within c.args.axioms.now c.args.k a e in absurd (omega (arith, c.if-k-axioms.false, low)))
