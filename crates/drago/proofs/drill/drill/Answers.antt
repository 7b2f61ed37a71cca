use Rattle.std.proofs.Common.{subst}
use Rattle.dd_lines.specs.Outside.{GivesFront}
use Rattle.drago.proofs.drill.drill.Goals as goal

pub returns-clause-drilled : goal.returns-clause-drilled
returns-clause-drilled g c =
    (c.in-Ok.text.items, c.in-Ok.ensures, subst (GivesFront (g.K.Sink.given c.args.sink.now) (g.K.Sink.given c.write_whole.new.sink)) c.as_slice.ensures.value c.in-Err-write_whole.ensures.front)
