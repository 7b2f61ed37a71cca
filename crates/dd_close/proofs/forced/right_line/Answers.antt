use Rattle.std.proofs.Common.{◌∙◌, ap, sym, subst, length, map, slice_get}
use Rattle.dd_graph.specs.View.{rules_at, view_of}
use Rattle.dd_rules.specs.Compiled.{sides_numbers}
use Rattle.dd_rules.specs.declared.shape.Step.TheVariants as way
use Rattle.dd_set.specs.Words.{has}
use Rattle.dd_close.specs.Drafts.{CitesEach}
use Rattle.dd_close.proofs.Rights.{left-names, left-number, right-cites}
use Rattle.dd_close.proofs.forced.right_line.Goals as goal

pub refute-requires-clause-number : goal.refute-requires-clause-number
refute-requires-clause-number c =
    let v = view_of c.args.g.now in
    let here = ap (λ xs. slice_get xs c.args.index) (c.requires.axioms ∙ sym c.as_slice.ensures) ∙ c.axiom_at-axiom.ensures in
    let sides = sym (ap (λ k. slice_get (map (sides_numbers k.concepts) k.axioms) c.args.index) c.compiled.ensures) ∙ c.sides-left.ensures in
    left-number v c.args.index c.axiom_at-axiom.result.now c.sides-left.result here sides c.known.ensures.closed

pub refute-requires-clause-names : goal.refute-requires-clause-names
refute-requires-clause-names c =
    let v = view_of c.args.g.now in
    let here = ap (λ xs. slice_get xs c.args.index) (c.requires.axioms ∙ sym c.as_slice.ensures) ∙ c.axiom_at-axiom.ensures in
    let sides = sym (ap (λ k. slice_get (map (sides_numbers k.concepts) k.axioms) c.args.index) c.compiled.ensures) ∙ c.sides-left.ensures in
    left-names v c.args.index c.axiom_at-axiom.result.now c.sides-left.result here sides (has c.args.set.now.words) c.requires.forced

pub choice_line-requires-clause-cited : goal.choice_line-requires-clause-cited
choice_line-requires-clause-cited c =
    let v = view_of c.args.g.now in
    let here = ap (λ xs. slice_get xs c.args.index) (c.requires.axioms ∙ sym c.as_slice.ensures) ∙ c.axiom_at-axiom.ensures in
    let sides = sym (ap (λ k. slice_get (map (sides_numbers k.concepts) k.axioms) c.args.index) c.compiled.ensures) ∙ c.sides-left.ensures in
    subst (CitesEach (rules_at v) c.refute.new.book.table.list (length c.refute.new.book.table.list) (has c.args.set.now.words) (way.Axiom c.args.index)) (sym c.in_ok-cites.ensures)
    (right-cites v c.args.index c.axiom_at-axiom.result.now c.sides-left.result here sides (has c.args.set.now.words) c.requires.forced c.args.book.now c.refute.new.book c.in_ok-cite.cite c.args.line
    c.in_ok-cite.ensures c.requires.line)
