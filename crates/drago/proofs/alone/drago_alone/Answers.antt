use Rattle.std.proofs.Common.{map}
use Rattle.std.specs.String.{string_bytes}
use Rattle.dd_words.specs.Apps.{alone_app}
use Rattle.dd_words.specs.Numbers.{session_of}
use Rattle.drago.specs.Obeys.{options_of}
use Rattle.drago.proofs.Commands.{by_alone, by_drill, by_make, without}
use Rattle.drago.proofs.alone.drago_alone.Goals as goal

pub returns-in-Ok-clause-alone : goal.returns-in-Ok-clause-alone
returns-in-Ok-clause-alone g c =
    by_alone (map string_bytes c.args.words.now) c.obey.result (g.S.Source.left c.args.source.now) (g.S.Source.left c.obey.new.source) (g.K.Sink.given c.args.sink.now)
    (g.K.Sink.given c.obey.new.sink) c.in-Ok.command c.in-Ok.ensures.command.0 c.obey.ensures.obeys

pub returns-in-Ok-clause-make : goal.returns-in-Ok-clause-make
returns-in-Ok-clause-make g c =
    by_make (map string_bytes c.args.words.now) c.obey.result (g.S.Source.left c.args.source.now) (g.S.Source.left c.obey.new.source) (g.K.Sink.given c.args.sink.now)
    (g.K.Sink.given c.obey.new.sink) c.in-Ok.command c.in-Ok.ensures.command.0 c.obey.ensures.obeys

pub returns-in-Ok-clause-drill : goal.returns-in-Ok-clause-drill
returns-in-Ok-clause-drill g c =
    by_drill (map string_bytes c.args.words.now) c.obey.result (g.S.Source.left c.args.source.now) (g.S.Source.left c.obey.new.source) (g.K.Sink.given c.args.sink.now)
    (g.K.Sink.given c.obey.new.sink) c.in-Ok.command c.in-Ok.ensures.command.0 c.obey.ensures.obeys

pub returns-in-Err-clause-alone : goal.returns-in-Err-clause-alone
returns-in-Err-clause-alone g c b =
    without (options_of (session_of alone_app (map string_bytes c.args.words.now))) c.in-Err.e c.status_of.result (g.S.Source.left c.args.source.now)
    (g.K.Sink.given c.args.sink.now) c.status_of.ensures.words c.status_of.ensures.memory
