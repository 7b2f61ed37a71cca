-- What the call answers is what its last step answered, seen from where the call began.
use Rattle.std.proofs.Common.{arith}
use Rattle.dd_lines.proofs.Answering.{Replies, replies-feed, replies-last, replies-long}
use Rattle.dd_lines.proofs.reader.LineReader.read_line.Goals as goal

pub returns-in-Feed : goal.returns-in-Feed
returns-in-Feed g c =
    let r = replies-feed c.hand_on.result c.args.self.now (g.S.Source.left c.args.source.now) c.gather.new.self c.hand_on.new.self
    (g.S.Source.left c.gather.new.source) (g.S.Source.fault_count c.args.source.now) (g.S.Source.fault_count c.gather.new.source)
    c.in-Feed.ensures.stop.0 c.hand_on.ensures.line c.hand_on.ensures.memory in
    record { answer = r.answer; going = r.going; stops = r.stops; limits = r.limits; counts = c.in-Feed.ensures.counts }

pub returns-in-Long : goal.returns-in-Long
returns-in-Long g c =
    let e = c.skip.ensures in
    let here : Replies c.skip.result c.gather.new.self (g.S.Source.left c.gather.new.source) c.skip.new.self (g.S.Source.left c.skip.new.source)
    (g.S.Source.fault_count c.gather.new.source) (g.S.Source.fault_count c.skip.new.source)
    = record { answer = e.answer; going = e.going; stops = e.stops; limits = e.limits } in
    let r = replies-long c.skip.result c.args.self.now (g.S.Source.left c.args.source.now) c.gather.new.self (g.S.Source.left c.gather.new.source)
    c.skip.new.self (g.S.Source.left c.skip.new.source) (g.S.Source.fault_count c.args.source.now)
    (g.S.Source.fault_count c.gather.new.source) (g.S.Source.fault_count c.skip.new.source)
    c.in-Long.ensures.stop.0 c.in-Long.ensures.counts here in
    record { answer = r.answer; going = r.going; stops = r.stops; limits = r.limits; counts = omega (arith, c.in-Long.ensures.counts, e.counts) }

pub returns-in-Ended : goal.returns-in-Ended
returns-in-Ended g c =
    let r = replies-last c.last.result c.args.self.now (g.S.Source.left c.args.source.now) c.gather.new.self c.last.new.self
    (g.S.Source.left c.gather.new.source) (g.S.Source.fault_count c.args.source.now) (g.S.Source.fault_count c.gather.new.source)
    c.in-Ended.ensures.stop.0 c.in-Ended.ensures.stop.1 c.in-Ended.ensures.stop.3 c.last.ensures.line c.last.ensures.memory in
    record { answer = r.answer; going = r.going; stops = r.stops; limits = r.limits; counts = c.in-Ended.ensures.counts }
