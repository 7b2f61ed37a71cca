use Rattle.dd_server.proofs.Runs.{nothing_yet}
use Rattle.dd_server.proofs.serve.serve_by.Goals as goal

pub returns-in-Err-clause-output : goal.returns-in-Err-clause-output
returns-in-Err-clause-output g c = nothing_yet c.args.options (g.S.Source.left c.args.source.now) (g.K.Sink.given c.args.sink.now)
