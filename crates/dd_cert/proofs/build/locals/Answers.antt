use Rattle.std.proofs.Common.{ap, ◌∙◌, ◌++◌, ◌∷◌, []}
use Rattle.dd_cert.specs.Certificates.{local_by}
use Rattle.dd_cert.specs.Steps.{local_fits}
use Rattle.dd_cert.proofs.Adding.{passes-later}
use Rattle.dd_cert.proofs.Loops.{made-all, made-next}
use Rattle.dd_cert.proofs.build.locals.Goals as goal

pub loop-local-preserved : goal.loop-local-preserved
loop-local-preserved c = record {
  built = made-next (local_by c.args.symbols.now) c.args.locals.now c.loop-local.local-index c.loop-local.built c.loop-local.invariant.built c.local-item.result c.push.new.self c.loop-local-test.true c.local-item.is
      (c.in_ok-push.ensures.ok ∙ ap (λ y. c.loop-local.built ++ y ∷ []) c.in_ok-local_of.ensures);
  fit = passes-later local_fits c.args.locals.now c.loop-local.local-index c.local-item.result c.loop-local-test.true c.local-item.is c.loop-local.invariant.fit;
}

pub returns : goal.returns
returns c = made-all (local_by c.args.symbols.now) c.args.locals.now c.loop-local.local-index c.loop-local.built c.loop-local.invariant.built c.loop-local-test.false
