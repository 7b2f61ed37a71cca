use Rattle.std.proofs.Common.{◌∙◌, ap, sym, map, slice_get, Some}
use Rattle.dd_graph.specs.View.{view_of}
use Rattle.dd_rules.specs.Numbers.{place_of, shape_of}
use Rattle.dd_concept.specs.Normal.{nnf_not_of}
use Rattle.dd_graph.proofs.Lists.{same_Some}
use Rattle.dd_rules.specs.declared.shape.Shape.TheVariants as shape
use Rattle.dd_close.proofs.Lefts.{or-left, or-right, or-shape}
use Rattle.dd_close.proofs.left.or_parts.Goals as goal

pub unreachable-requires : goal.unreachable-requires
unreachable-requires c =
    let v = view_of c.args.g.now in
    let cs = v.closure.concepts in
    let here = sym (ap (λ k. slice_get (map (shape_of k.concepts) k.concepts) c.args.n) c.compiled.ensures) ∙ c.shape.ensures in
    c.in_default.not-Or (place_of cs (nnf_not_of c.args._d.now)) (place_of cs (nnf_not_of c.args._e.now))
    (same_Some c.shape.result (shape.Or (place_of cs (nnf_not_of c.args._d.now)) (place_of cs (nnf_not_of c.args._e.now)))
    (sym here ∙ or-shape v c.known.ensures.distinct c.known.ensures.closed.parts c.args.n c.args._d.now c.args._e.now c.requires))

pub returns-clause-left : goal.returns-clause-left
returns-clause-left c =
    let v = view_of c.args.g.now in
    let here = sym (ap (λ k. slice_get (map (shape_of k.concepts) k.concepts) c.args.n) c.compiled.ensures) ∙ c.shape.ensures ∙ ap Some c.in-Or.is in
    or-left v c.known.ensures.distinct c.known.ensures.closed.parts c.args.n c.in-Or.x c.in-Or.y c.args._d.now c.args._e.now c.requires here

pub returns-clause-right : goal.returns-clause-right
returns-clause-right c =
    let v = view_of c.args.g.now in
    let here = sym (ap (λ k. slice_get (map (shape_of k.concepts) k.concepts) c.args.n) c.compiled.ensures) ∙ c.shape.ensures ∙ ap Some c.in-Or.is in
    or-right v c.known.ensures.distinct c.known.ensures.closed.parts c.args.n c.in-Or.x c.in-Or.y c.args._d.now c.args._e.now c.requires here
