use Rattle.std.proofs.Common.{subst}
use Rattle.std.proofs.lemmas.Result.{on_ok_weaker}
use Rattle.std.specs.Prelude.{flat_map}
use Rattle.dd_lines.specs.Outside.{Gives, GivesFront}
use Rattle.dd_text.specs.Symbols.{texts_of}
use Rattle.dd_server.specs.ServerState.{session_of}
use Rattle.dd_server.proofs.Runs.{finished-of, half-finished-of}
use Rattle.dd_server.proofs.turn.end_window.Goals as goal

pub returns-in-Ok-clause-finished : goal.returns-in-Ok-clause-finished
returns-in-Ok-clause-finished g c = on_ok_weaker c.write_lines.result (λ gives.
    finished-of c.args.server.now.reading.options (session_of c.args.server.now) c.serve_window_by.new.self.cache.list (texts_of c.in-Ok.lines.items) (g.K.Sink.given c.args.sink.now) (g.K.Sink.given c.write_lines.new.sink)
    c.in-Ok.ensures.finishes
    (subst (λ lines. Gives (g.K.Sink.given c.args.sink.now) (g.K.Sink.given c.write_lines.new.sink) (flat_map (λ line. line) (texts_of lines))) c.deref.ensures.value gives)) c.write_lines.ensures.whole

pub returns-in-Ok-clause-breaks : goal.returns-in-Ok-clause-breaks
returns-in-Ok-clause-breaks g c = λ is. (
  half-finished-of c.args.server.now.reading.options (session_of c.args.server.now) c.serve_window_by.new.self.cache.list (texts_of c.in-Ok.lines.items) (g.K.Sink.given c.args.sink.now) (g.K.Sink.given c.write_lines.new.sink)
      c.in-Ok.ensures.finishes
      (subst (λ lines. GivesFront (g.K.Sink.given c.args.sink.now) (g.K.Sink.given c.write_lines.new.sink) (flat_map (λ line. line) (texts_of lines))) c.deref.ensures.value (c.write_lines.ensures.front is)),
  c.in-Ok.ensures.standing,
)
