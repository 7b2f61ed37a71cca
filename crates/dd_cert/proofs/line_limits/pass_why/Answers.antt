use Rattle.dd_cert.proofs.Passing.{bridge-passes}
use Rattle.dd_cert.proofs.line_limits.pass_why.Goals as goal

pub returns-in-Bridge : goal.returns-in-Bridge
returns-in-Bridge c =
    let b = c.in-Bridge in
    bridge-passes c.pass_bridge.result c.args.place b.from b.onto c.as_slice.result.now b.into_set b.cite c.as_slice-in-Bridge.result.now b.each c.args.why.now b.is
    c.as_slice.ensures c.as_slice-in-Bridge.ensures c.pass_bridge.ensures
