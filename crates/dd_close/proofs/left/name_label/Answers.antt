use Rattle.std.proofs.Common.{◌∙◌, ◌==◌, ◌||◌, ap}
use Rattle.dd_graph.specs.View.{view_of}
use Rattle.dd_rules.specs.Numbers.{place_of}
use Rattle.dd_set.specs.Words.{has}
use Rattle.dd_close.proofs.Lefts.{name-label}
use Rattle.dd_close.proofs.left.name_label.Goals as goal

pub returns-clause-label : goal.returns-clause-label
returns-clause-label c =
    let v = view_of c.args.g.now in
    name-label v c.known.ensures.distinct c.known.ensures.closed.parts (has c.in_ok-label.label.words) (has c.add_concept.new.set.words) (has c.add_concept-2.new.set.words)
    c.args.name c.requires.there c.requires.complement c.in_ok-label.ensures.empty
    (λ k. c.add_concept.ensures.with k ∙ ap (λ d. (k == place_of v.closure.concepts d) || has c.in_ok-label.label.words k) c.in_ok-complement.ensures)
    c.add_concept-2.ensures.with
