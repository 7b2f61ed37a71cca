use Rattle.std.proofs.Common.{◌∙◌, ap, slice_get, slice_index_or, sym}
use Rattle.std.proofs.lemmas.Option.{slice_get-get_or}
use Rattle.dd_graph.specs.View.{rules_at, view_of}
use Rattle.dd_rules.specs.Numbers.{additions}
use Rattle.dd_set.specs.Words.{has}
use Rattle.dd_close.proofs.Nodes.{addition-low, has-line-kept, splits-next}
use Rattle.dd_close.proofs.node.split_cites.Goals as goal

pub child_line-requires-clause-number : goal.child_line-requires-clause-number
child_line-requires-clause-number c =
    let at = ap (slice_get (additions (rules_at (view_of c.args.g.now)) c.args.step)) (sym c.in_ok-k.ensures) ∙ c.added-n.ensures in
    addition-low (view_of c.args.g.now) c.known.ensures.graph c.known.ensures.distinct c.known.ensures.closed (has c.args.set.now.words) c.args.step c.requires.calls c.loop-i.i c.added-n.result at

pub child_line-requires-clause-least : goal.child_line-requires-clause-least
child_line-requires-clause-least c =
    let at = ap (slice_get (additions (rules_at (view_of c.args.g.now)) c.args.step)) (sym c.in_ok-k.ensures) ∙ c.added-n.ensures in
    c.requires.least c.loop-i.i c.added-n.result (slice_index_or c.args.to.now c.loop-i.i 0) at (slice_get-get_or c.args.to.now c.loop-i.i 0 c.loop-i-test.true)

pub child_line-requires-clause-line : goal.child_line-requires-clause-line
child_line-requires-clause-line c = has-line-kept (view_of c.args.g.now) c.args.book.now c.loop-i.book c.args.lines.now (slice_index_or c.args.to.now c.loop-i.i 0) c.loop-i.invariant.adds
    (c.requires.lines c.loop-i.i (slice_index_or c.args.to.now c.loop-i.i 0) (slice_get-get_or c.args.to.now c.loop-i.i 0 c.loop-i-test.true))

pub loop-i-preserved : goal.loop-i-preserved
loop-i-preserved c =
    let at = ap (slice_get (additions (rules_at (view_of c.args.g.now)) c.args.step)) (sym c.in_ok-k.ensures) ∙ c.added-n.ensures in
    splits-next (view_of c.args.g.now) c.args.book.now c.loop-i.book c.child_line.new.book (has c.args.set.now.words) c.args.step c.loop-i.cites c.push.new.self c.loop-i.i c.added-n.result c.in_ok-line.line
    c.loop-i.invariant at c.in_ok-line.ensures c.in_ok-push.ensures.ok
