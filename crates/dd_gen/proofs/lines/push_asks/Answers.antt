use Rattle.std.proofs.Common.{map}
use Rattle.dd_gen.specs.Made.{ask_line}
use Rattle.dd_gen.proofs.Rest.{lines-more}
use Rattle.dd_gen.proofs.lines.push_asks.Goals as goal

pub loop-i-preserved : goal.loop-i-preserved
loop-i-preserved c =
    lines-more (λ line. line.items) (ask_line c.args.left.now c.args.right.now) c.loop-i.i (map (λ line. line.items) c.args.lines.now.items) c.loop-i.lines.items c.push.new.self.items c.in_ok-ask_request.field-0
    c.loop-i.invariant c.in_ok-ask_request.ensures c.in_ok-push.ensures.items
