use Rattle.std.proofs.Common.{◌∙◌, sym}
use Rattle.dd_graph.specs.View.{view_of}
use Rattle.dd_open.proofs.Ways.{leads-itself, leads-on, child-on, no-child, on-measure, on-within}
use Rattle.dd_open.proofs.resolve.resolve.Goals as goal

-- src/resolve.rt:18:5
pub loop-next-init : goal.loop-next-init
loop-next-init c = record {
  within = c.requires.within;
  open_now = c.requires.open;
  leads = leads-itself (view_of c.args.g.now) c.known.ensures.graph c.known.ensures.distinct c.known.ensures.closed c.args.id c.requires.open;
}

-- src/resolve.rt:18:5
pub loop-next-smaller : goal.loop-next-smaller
loop-next-smaller c =
    let v = view_of c.args.g.now in
    on-measure v c.known.ensures.graph c.known.ensures.distinct c.known.ensures.closed c.loop-next.at c.in-Some.next
    (child-on v c.known.ensures.graph c.known.ensures.distinct c.known.ensures.closed c.loop-next.at c.in-Some.next c.loop-next.invariant.open_now
    (sym c.in-Some.is ∙ c.open_child.ensures))

-- src/resolve.rt:18:5
pub loop-next-preserved : goal.loop-next-preserved
loop-next-preserved c =
    let v = view_of c.args.g.now in
    let on = child-on v c.known.ensures.graph c.known.ensures.distinct c.known.ensures.closed c.loop-next.at c.in-Some.next c.loop-next.invariant.open_now
    (sym c.in-Some.is ∙ c.open_child.ensures) in
    record {
      within = on-within v c.known.ensures.graph c.known.ensures.distinct c.known.ensures.closed c.loop-next.at c.in-Some.next on;
      open_now = on.open_next;
      leads = leads-on v c.known.ensures.graph c.known.ensures.distinct c.known.ensures.closed c.args.id c.loop-next.at c.in-Some.next c.loop-next.invariant.leads on;
    }

-- src/resolve.rt:9:1
pub returns-clause-done : goal.returns-clause-done
returns-clause-done c = no-child (view_of c.args.g.now) c.known.ensures.graph c.known.ensures.distinct c.known.ensures.closed c.loop-next.at c.loop-next.invariant.open_now
    (sym c.in_default.is ∙ c.open_child.ensures)
