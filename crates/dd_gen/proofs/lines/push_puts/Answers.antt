use Rattle.std.proofs.Common.{map}
use Rattle.dd_gen.specs.Made.{put_line}
use Rattle.dd_gen.proofs.Rest.{lines-more}
use Rattle.dd_gen.proofs.lines.push_puts.Goals as goal

pub loop-i-preserved : goal.loop-i-preserved
loop-i-preserved c =
    lines-more (λ line. line.items) (put_line c.args.seed c.args.peers c.args.size) c.loop-i.i (map (λ line. line.items) c.args.lines.now.items) c.loop-i.lines.items c.push.new.self.items c.in_ok-put_of.field-0
    c.loop-i.invariant c.in_ok-put_of.ensures c.in_ok-push.ensures.items
