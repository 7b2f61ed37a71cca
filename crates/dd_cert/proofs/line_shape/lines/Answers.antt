use Rattle.dd_cert.specs.LineForms.{line_of}
use Rattle.dd_cert.proofs.Finding.{found-all, found-next}
use Rattle.dd_cert.proofs.line_shape.lines.Goals as goal

pub loop-value-preserved : goal.loop-value-preserved
loop-value-preserved c =
    found-next line_of c.args.list.now c.loop-value.value-index c.loop-value.found c.loop-value.invariant c.value-item.result c.in_ok-line.field-0 c.push.new.self
    c.loop-value-test.true c.value-item.is c.in_ok-line.ensures c.in_ok-push.ensures.ok

pub returns : goal.returns
returns c = found-all line_of c.args.list.now c.loop-value.value-index c.loop-value.found c.loop-value.invariant c.loop-value-test.false
