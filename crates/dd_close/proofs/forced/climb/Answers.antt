use Rattle.std.proofs.Common.{◌∙◌}
use Rattle.dd_graph.specs.View.{rules_at, view_of}
use Rattle.dd_set.specs.Words.{has}
use Rattle.dd_close.proofs.Climbing.{climb-smaller, log-next, reaches-next}
use Rattle.dd_close.proofs.forced.climb.Goals as goal

pub loop-alloc-smaller : goal.loop-alloc-smaller
loop-alloc-smaller c = climb-smaller (rules_at (view_of c.args.g.now)) c.loop-alloc.label c.climb_one.new.label c.loop-alloc.log.items c.climb_one.new.log.items
    c.in_ok-climb_one.ensures.width c.in_ok-climb_one.ensures.climbs

pub loop-alloc-preserved : goal.loop-alloc-preserved
loop-alloc-preserved c = (
  c.in_ok-climb_one.ensures.width ∙ c.loop-alloc.invariant.0,
  log-next (rules_at (view_of c.args.g.now)) c.args.label.now.width (has c.args.label.now.words) c.loop-alloc.label c.climb_one.new.label c.loop-alloc.log.items c.climb_one.new.log.items
      c.loop-alloc.invariant.0 c.loop-alloc.invariant.1 c.in_ok-climb_one.ensures.climbs,
  reaches-next (rules_at (view_of c.args.g.now)) c.args.book.now c.args.line (has c.loop-alloc.label.words) (has c.climb_one.new.label.words) c.in_ok-climb_one.ensures.climbs.adds.above c.loop-alloc.invariant.2,
)
