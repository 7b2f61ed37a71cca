use Rattle.std.proofs.Common.{◌∙◌, slice_index_or}
use Rattle.std.proofs.lemmas.Option.{slice_get-get_or}
use Rattle.dd_graph.specs.View.{view_of}
use Rattle.dd_open.proofs.Growing.{ready, meets-next}
use Rattle.dd_open.proofs.roles.add_roles.Goals as goal

-- src/roles.rt:60:9
pub add_role-requires-clause-number : goal.add_role-requires-clause-number
add_role-requires-clause-number c = (ready (view_of c.args.g.now) c.known.ensures.graph c.known.ensures.distinct c.known.ensures.closed c.args.elements.now.marked.list c.args.x c.loop-i.i
    c.args.pairs.now (slice_index_or c.args.pairs.now c.loop-i.i (0, 0)) c.requires.pairs (slice_get-get_or c.args.pairs.now c.loop-i.i (0, 0) c.loop-i-test.true)).number

-- src/roles.rt:60:9
pub add_role-requires-clause-restricts : goal.add_role-requires-clause-restricts
add_role-requires-clause-restricts c = (ready (view_of c.args.g.now) c.known.ensures.graph c.known.ensures.distinct c.known.ensures.closed c.args.elements.now.marked.list c.args.x c.loop-i.i
    c.args.pairs.now (slice_index_or c.args.pairs.now c.loop-i.i (0, 0)) c.requires.pairs (slice_get-get_or c.args.pairs.now c.loop-i.i (0, 0) c.loop-i-test.true)).restricts

-- src/roles.rt:60:9
pub add_role-requires-clause-within : goal.add_role-requires-clause-within
add_role-requires-clause-within c = (ready (view_of c.args.g.now) c.known.ensures.graph c.known.ensures.distinct c.known.ensures.closed c.args.elements.now.marked.list c.args.x c.loop-i.i
    c.args.pairs.now (slice_index_or c.args.pairs.now c.loop-i.i (0, 0)) c.requires.pairs (slice_get-get_or c.args.pairs.now c.loop-i.i (0, 0) c.loop-i-test.true)).within

-- src/roles.rt:60:9
pub add_role-requires-clause-open : goal.add_role-requires-clause-open
add_role-requires-clause-open c = (ready (view_of c.args.g.now) c.known.ensures.graph c.known.ensures.distinct c.known.ensures.closed c.args.elements.now.marked.list c.args.x c.loop-i.i
    c.args.pairs.now (slice_index_or c.args.pairs.now c.loop-i.i (0, 0)) c.requires.pairs (slice_get-get_or c.args.pairs.now c.loop-i.i (0, 0) c.loop-i-test.true)).open_now

-- src/roles.rt:58:5
pub loop-i-preserved : goal.loop-i-preserved
loop-i-preserved c = (
  c.add_role.ensures.bound ∙ c.loop-i.invariant.0,
  meets-next (view_of c.args.g.now) c.known.ensures.graph c.known.ensures.distinct c.known.ensures.closed c.args._goal c.args.x c.loop-i.i c.args.pairs.now
      (slice_index_or c.args.pairs.now c.loop-i.i (0, 0)) c.args.elements.now.marked.list c.loop-i.elements.marked.list c.add_role.new.elements.marked.list c.args.roles.now.items
      c.loop-i.roles.items c.add_role.new.roles.items c.requires.pairs (slice_get-get_or c.args.pairs.now c.loop-i.i (0, 0) c.loop-i-test.true) c.loop-i.invariant.1 c.in_ok-add_role.ensures.adds,
)
