use Rattle.std.proofs.Common.{arith}
use Rattle.dd_graph.specs.View.{view_of}
use Rattle.dd_close.proofs.Finishing.{written-next}
use Rattle.dd_close.proofs.write.write_lines.Goals as goal

pub loop-k-preserved : goal.loop-k-preserved
loop-k-preserved c = (
  omega (arith, c.loop-k-test.true),
  written-next c.args.p.now c.args.peer c.args.view.now c.args.version.now (view_of c.args.g.now) c.args.book.now.table.list c.requires.version c.loop-k.k c.loop-k.lines.items c.push.new.self.items
      c.in_ok-line_of.field-0 c.loop-k.invariant.1 c.in_ok-line_of.ensures c.in_ok-push.ensures.items,
)
