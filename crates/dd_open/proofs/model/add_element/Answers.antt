use Rattle.std.proofs.Common.{◌∙◌, ◌++◌, ◌+◌, ◌<◌, slice_index_or, ℕ, sym, ap, ap₂, subst, length, map, slice_get}
use Rattle.std.proofs.lemmas.Result.{on_ok_weaker}
use Rattle.dd_set.specs.Sets.{numbers}
use Rattle.dd_rules.specs.Numbers.{shape_of}
use Rattle.dd_graph.specs.View.{view_of}
use Rattle.dd_open.specs.Builds.{Builds, name_pairs}
use Rattle.dd_open.proofs.Handling.{numbers-below, are-pairs, never-other}
use Rattle.dd_open.proofs.Stepping.{element-done}
use Rattle.dd_open.proofs.model.add_element.Goals as goal

pub add_names-requires : goal.add_names-requires
add_names-requires c =
    let width = c.label-label.ensures.width ∙ c.table.ensures.width ∙ ap (λ k. length k.concepts) (sym c.compiled.ensures) in
    let listed = c.deref.ensures.value ∙ c.in_ok-numbers.ensures ∙ ap₂ numbers c.words.ensures.words c.width.ensures.width in
    subst (λ w. (k : ℕ) (d : ℕ) → k < length c.deref.result.now → slice_index_or c.deref.result.now k d < w) width
    (numbers-below c.label-label.result.width c.label-label.result.words c.deref.result.now c.width.ensures.packed listed)

pub add_roles-requires-clause-pairs : goal.add_roles-requires-clause-pairs
add_roles-requires-clause-pairs c = are-pairs (view_of c.args.g.now) c.args._goal c.args.x c.in-Some.at c.args.elements.now.marked.list c.in-Done.to c.as_slice.result.now c.requires.builds.each
    (sym c.get.ensures.number ∙ c.in-Some.is) (sym c.node.ensures ∙ c.in-Done.is) (c.as_slice.ensures.value ∙ c.to.view_is)

pub unreachable-requires-in_default : goal.unreachable-requires-in_default
unreachable-requires-in_default c = never-other (view_of c.args.g.now) c.args._goal c.args.x c.in-Some.at c.args.elements.now.marked.list c.requires.builds.each
    (sym c.get.ensures.number ∙ c.in-Some.is) c.node.result.now c.node.ensures c.in_default.not-Done

pub returns-clause-builds : goal.returns-clause-builds
returns-clause-builds c =
    let v = view_of c.args.g.now in
    let width = c.label-label.ensures.width ∙ c.table.ensures.width in
    let listed = c.deref.ensures.value ∙ c.in_ok-numbers.ensures ∙ ap₂ numbers c.words.ensures.words (c.width.ensures.width ∙ width) in
    let named = c.in_ok-add_names.ensures
    ∙ ap (λ k. c.args.names.now.items ++ name_pairs (map (shape_of k.concepts) k.concepts) c.deref.result.now c.args.x) c.compiled.ensures
    ∙ ap (λ ns. c.args.names.now.items ++ name_pairs (map (shape_of v.closure.concepts) v.closure.concepts) ns c.args.x) listed in
    on_ok_weaker c.add_roles.result (λ meets.
    subst (λ ns. Builds v c.args._goal c.add_roles.new.elements.marked.list ns c.add_roles.new.roles.items (c.args.x + 1)) (sym named)
    (element-done v c.known.ensures.graph c.known.ensures.distinct c.known.ensures.closed c.args._goal c.args.x c.in-Some.at c.as_slice.result.now c.args.elements.now.marked.list
    c.add_roles.new.elements.marked.list c.args.names.now.items c.args.roles.now.items c.add_roles.new.roles.items c.label-label.result.words c.requires.builds
    (sym c.get.ensures.number ∙ c.in-Some.is) (ap (λ ls. slice_get ls c.in-Some.at) (sym c.table.ensures.labels) ∙ c.label-label.ensures.words)
    (are-pairs v c.args._goal c.args.x c.in-Some.at c.args.elements.now.marked.list c.in-Done.to c.as_slice.result.now c.requires.builds.each
    (sym c.get.ensures.number ∙ c.in-Some.is) (sym c.node.ensures ∙ c.in-Done.is) (c.as_slice.ensures.value ∙ c.to.view_is)) meets))
    c.add_roles.ensures.meets

pub returns-clause-grown : goal.returns-clause-grown
returns-clause-grown c = on_ok_weaker c.add_roles.result (λ meets. meets.goes_on) c.add_roles.ensures.meets
