use Rattle.std.proofs.Common.{length, refl, arith, rules, subst}
use Rattle.std.proofs.lemmas.Option.{slice_get_read}
use Rattle.dd_lines.specs.Outside.{GivesFront}
use Rattle.dd_server.proofs.Runs.{front-of-lines}
use Rattle.dd_server.proofs.turn.write_lines.Goals as goal

pub returns-then-is_err-clause-front : goal.returns-then-is_err-clause-front
returns-then-is_err-clause-front g c = λ is.
    let l = c.loop-line in
    let lines = c.args.lines.now in
    front-of-lines lines l.line-index c.line-item.result (g.K.Sink.given c.args.sink.now) (g.K.Sink.given l.sink) (g.K.Sink.given c.write_whole.new.sink)
    (slice_get_read lines (length lines) l.line-index c.line-item.result refl (omega (arith, c.loop-line-test.true, l.auto)) c.line-item.is)
    l.invariant.gives
    (subst (GivesFront (g.K.Sink.given l.sink) (g.K.Sink.given c.write_whole.new.sink)) c.as_slice.ensures.value (search rules))
