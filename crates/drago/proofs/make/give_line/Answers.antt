use Rattle.std.proofs.Common.{◌∷◌, []}
use Rattle.drago.proofs.Giving.{front_after, front_before, on_err, with_err}
use Rattle.drago.proofs.make.give_line.Goals as goal

pub returns-in_err-write_whole-clause-front : goal.returns-in_err-write_whole-clause-front
returns-in_err-write_whole-clause-front g c =
    with_err c.from_residual.result
    (front_before (g.K.Sink.given c.args.sink.now) (g.K.Sink.given c.write_whole.new.sink) c.args.line.now (10 ∷ []) c.in_err-write_whole.ensures.front)

pub returns-clause-front : goal.returns-clause-front
returns-clause-front g c =
    on_err c.write_whole-2.result
    (front_after (g.K.Sink.given c.args.sink.now) (g.K.Sink.given c.write_whole.new.sink) (g.K.Sink.given c.write_whole-2.new.sink) c.args.line.now (10 ∷ [])
    c.in_ok-write_whole.ensures.whole)
    c.write_whole-2.ensures.front
