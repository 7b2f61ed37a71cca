use Rattle.std.proofs.Common.{◌∙◌, ◌<◌, ap, sym, subst, map, slice_get, Some}
use Rattle.dd_graph.specs.View.{view_of}
use Rattle.dd_rules.specs.Numbers.{shape_of}
use Rattle.dd_close.proofs.Climbing.{and-low}
use Rattle.dd_close.proofs.forced.add_parts.Goals as goal

pub insert-requires : goal.insert-requires
insert-requires c =
    let v = view_of c.args.g.now in
    let here = sym (ap (λ k. slice_get (map (shape_of k.concepts) k.concepts) c.args.at) c.compiled.ensures) ∙ c.shape.ensures ∙ ap Some c.in-And.is in
    subst (λ w. c.in-And.left < w) (sym c.requires.width) (and-low v c.known.ensures.closed c.args.at c.in-And.left c.in-And.right here).0

pub insert-requires-in-And : goal.insert-requires-in-And
insert-requires-in-And c =
    let v = view_of c.args.g.now in
    let here = sym (ap (λ k. slice_get (map (shape_of k.concepts) k.concepts) c.args.at) c.compiled.ensures) ∙ c.shape.ensures ∙ ap Some c.in-And.is in
    subst (λ w. c.in-And.right < w) (sym (c.insert.ensures.width ∙ c.requires.width)) (and-low v c.known.ensures.closed c.args.at c.in-And.left c.in-And.right here).1
