use Rattle.std.proofs.Common.{rules}
use Rattle.dd_server.proofs.Runs.{nothing_yet}
use Rattle.dd_server.proofs.serve.read_lines.Goals as goal

pub returns-in-Ok-clause-output : goal.returns-in-Ok-clause-output
returns-in-Ok-clause-output g c = search rules

pub returns-in-Err-clause-output : goal.returns-in-Err-clause-output
returns-in-Err-clause-output g c = nothing_yet c.args.server.now.reading.options (g.S.Source.left c.args.source.now) (g.K.Sink.given c.args.sink.now)
