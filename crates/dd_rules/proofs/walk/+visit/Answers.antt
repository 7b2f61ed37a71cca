use Rattle.std.proofs.Common.{◌∙◌, ◌<◌, arith, sym, ap, length, Some}
use Rattle.std.proofs.lemmas.Option.{slice_get_read}
use Rattle.std.proofs.Common.{refl}
use Rattle.dd_concept.specs.Parts.{parts_in_order}
use Rattle.dd_rules.specs.Compiled.{concept_at}
use Rattle.dd_rules.specs.Trees.{trees}
use Rattle.dd_rules.specs.Walks.{concepts_in}
use Rattle.dd_rules.proofs.Growing.{length-trees}
use Rattle.dd_rules.proofs.Numbering.{all-there}
use Rattle.dd_rules.proofs.Visiting.{visited, visited-within, finished}
use Rattle.dd_rules.proofs.walk.+visit.Goals as goal

pub visit-index-requires : goal.visit-index-requires
visit-index-requires t c = omega (arith, c.requires.walk.sized, length-trees c.args.rows.now.keys, c.requires.within)

pub visit-index_mut-requires : goal.visit-index_mut-requires
visit-index_mut-requires t c = omega (arith, c.in_ok-visit_parts.ensures.walk.sized, length-trees c.args.rows.now.keys, c.requires.within)

pub visit-returns-then-index-clause-order : goal.visit-returns-then-index-clause-order
visit-returns-then-index-clause-order t c =
    let ts = trees c.args.rows.now.keys in
    let low : c.args.n < length c.args.walk.now.done.items = omega (arith, c.requires.walk.sized, length-trees c.args.rows.now.keys, c.requires.within) in
    let at = slice_get_read c.args.walk.now.done.items (length c.args.walk.now.done.items) c.args.n c.index.result.now refl low c.index.ensures in
    sym (all-there (concepts_in ts c.args.walk.now.order.items) (parts_in_order (concept_at ts c.args.n)) (c.requires.walk.done_are c.args.n (at ∙ ap Some c.if-index.true)))

pub visit-returns-clause-order : goal.visit-returns-clause-order
visit-returns-clause-order t c =
    let ts = trees c.args.rows.now.keys in
    visited c.args.rows.now.keys c.args.n c.row_at.result (concepts_in ts c.args.walk.now.order.items) (concepts_in ts c.mark.new.walk.order.items) (concepts_in ts c.visit_parts.new.walk.order.items)
    c.requires.rows c.requires.within c.row_at.ensures.row c.in_ok-mark.ensures.order c.in_ok-visit_parts.ensures.order

pub visit-returns-clause-walk : goal.visit-returns-clause-walk
visit-returns-clause-walk t c =
    let ts = trees c.args.rows.now.keys in
    finished ts c.visit_parts.new.walk.order.items c.visit_parts.new.walk.numbers.items c.visit_parts.new.walk.done.items c.args.n c.in_ok-visit_parts.ensures.walk
    (visited-within (concepts_in ts c.args.walk.now.order.items) (parts_in_order (concept_at ts c.args.n)) (concepts_in ts c.visit_parts.new.walk.order.items)
    (visited c.args.rows.now.keys c.args.n c.row_at.result (concepts_in ts c.args.walk.now.order.items) (concepts_in ts c.mark.new.walk.order.items) (concepts_in ts c.visit_parts.new.walk.order.items)
    c.requires.rows c.requires.within c.row_at.ensures.row c.in_ok-mark.ensures.order c.in_ok-visit_parts.ensures.order))
