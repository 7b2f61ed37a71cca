use Rattle.dd_wire.proofs.JsonLines.{json_there, json_missing}
use Rattle.dd_wire.proofs.line.value_of.Goals as goal

pub returns-in-Ok : goal.returns-in-Ok
returns-in-Ok c = json_there c.args.line.now _ c.in-Ok.ensures.ok.0 c.in-Ok.ensures.ok.1

pub returns-else-is_memory : goal.returns-else-is_memory
returns-else-is_memory c = json_missing c.args.line.now (c.in-Err.ensures.err (λ memory. cc (c.is_memory.ensures.1 memory, c.if-is_memory.false)))
