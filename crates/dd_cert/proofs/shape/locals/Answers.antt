use Rattle.dd_cert.specs.Forms.{local_of}
use Rattle.dd_cert.proofs.Finding.{found-all, found-next}
use Rattle.dd_cert.proofs.shape.locals.Goals as goal

pub loop-value-preserved : goal.loop-value-preserved
loop-value-preserved c =
    found-next local_of c.args.list.now c.loop-value.value-index c.loop-value.found c.loop-value.invariant c.value-item.result c.in_ok-local.field-0 c.push.new.self
    c.loop-value-test.true c.value-item.is c.in_ok-local.ensures c.in_ok-push.ensures.ok

pub returns : goal.returns
returns c = found-all local_of c.args.list.now c.loop-value.value-index c.loop-value.found c.loop-value.invariant c.loop-value-test.false
