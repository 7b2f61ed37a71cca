use Rattle.std.proofs.Common.{rules}
use Rattle.dd_server.specs.ServerState.{session_of}
use Rattle.dd_server.proofs.Runs.{due-turned, more-turned}
use Rattle.dd_server.proofs.turn.turn.Goals as goal

pub returns-in-Ok-Due-clause-turned : goal.returns-in-Ok-Due-clause-turned
returns-in-Ok-Due-clause-turned g c = search (rules, due-turned)

pub returns-in-Ok-More-clause-turned : goal.returns-in-Ok-More-clause-turned
returns-in-Ok-More-clause-turned g c = λ line stands.
    more-turned c.args.server.now.reading.options (session_of c.args.server.now) (session_of c.accept.new.self) _ line (g.K.Sink.given c.args.sink.now)
    c.in-Ok-More.field-0-is (c.in-Ok-More.ensures.line line stands) c.in-Ok-More.ensures.cache
