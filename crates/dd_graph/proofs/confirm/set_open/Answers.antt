use Rattle.std.proofs.Common.{arith}
use Rattle.dd_graph.proofs.Opening.{open_one-set}
use Rattle.dd_graph.proofs.confirm.set_open.Goals as goal

pub returns : goal.returns
returns c = open_one-set c.args.entries.now.items c.args.id c.index_mut-entry.result.now (omega (arith, c.requires)) c.index_mut-entry.ensures.value
