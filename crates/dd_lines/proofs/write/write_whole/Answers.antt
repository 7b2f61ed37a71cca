-- What one more call gives joins what was given before.
use Rattle.std.proofs.Common.{take, drop, sym, subst, arith}
use Rattle.std.proofs.Math.Seq.{take-add}
use Rattle.std.proofs.lemmas.List.{take-append-drop, take_rest}
use Rattle.std.proofs.lemmas.Grind.{common_steps}
use Rattle.dd_lines.specs.Outside.{Gives}
use Rattle.dd_lines.proofs.Pieces.{gives-both}
use Rattle.dd_lines.proofs.write.write_whole.Goals as goal

pub loop-at-preserved : goal.loop-at-preserved
loop-at-preserved g c =
    let at = c.loop-at.at in
    let piece = c.args.piece.now in
    let before = g.K.Sink.given c.args.sink.now in
    let after = g.K.Sink.given c.give.new.self in
    let next = take c.in-Ok.given (drop at piece) in
    let both = gives-both before (g.K.Sink.given c.loop-at.sink) after (take at piece) next c.loop-at.invariant.given (rw take_rest at c.in-Ok.ensures.bytes) in
    record {
      within = omega (arith, c.in-Ok.ensures.bound);
      given = subst (Gives before after) (sym (take-add at c.in-Ok.given piece)) both;
      counts = omega (arith, c.loop-at.invariant.counts, c.in-Ok.ensures.counts);
    }

pub returns-in-Err-clause-front : goal.returns-in-Err-clause-front
returns-in-Err-clause-front g c =
    let at = c.loop-at.at in
    let piece = c.args.piece.now in
    let before = g.K.Sink.given c.args.sink.now in
    (take at piece, drop at piece, sym (take-append-drop at piece), subst (λ v. Gives before v (take at piece)) (sym c.in-Err.ensures.same) c.loop-at.invariant.given)

pub returns-clause-whole : goal.returns-clause-whole
returns-clause-whole g c = grind (arith, common_steps)
