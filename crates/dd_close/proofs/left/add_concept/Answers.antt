use Rattle.std.proofs.Common.{◌∙◌, ◌<◌, ap, sym, subst, length}
use Rattle.dd_graph.specs.View.{view_of}
use Rattle.dd_rules.specs.Numbers.{number_of}
use Rattle.dd_close.proofs.Lefts.{number-place, place-low}
use Rattle.dd_close.proofs.left.add_concept.Goals as goal

pub insert-requires : goal.insert-requires
insert-requires c =
    let cs = (view_of c.args.g.now).closure.concepts in
    let e = sym c.in-Some.is ∙ c.number.ensures ∙ ap (λ k. number_of k.concepts c.args.c.now) c.compiled.ensures in
    subst (λ w. c.in-Some.n < w) (sym c.requires.width) (subst (λ m. m < length cs) (sym (number-place cs c.args.c.now c.in-Some.n c.requires.inside e)) (place-low cs c.args.c.now c.requires.inside))
