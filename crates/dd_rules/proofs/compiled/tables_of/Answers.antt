use Rattle.dd_rules.proofs.Within.{shapes-within, axioms-within}
use Rattle.dd_rules.proofs.compiled.tables_of.Goals as goal

pub new-requires-clause-parts : goal.new-requires-clause-parts
new-requires-clause-parts c = shapes-within c.args.concepts.now.concepts c.in_ok-shapes.shapes.items c.known.ensures.closed.parts c.in_ok-shapes.ensures

pub new-requires-clause-sides : goal.new-requires-clause-sides
new-requires-clause-sides c =
    axioms-within c.args.concepts.now.concepts c.args.concepts.now.axioms c.in_ok-shapes.shapes.items c.in_ok-axioms.axioms.items c.known.ensures.closed.sides c.in_ok-shapes.ensures c.in_ok-axioms.ensures
