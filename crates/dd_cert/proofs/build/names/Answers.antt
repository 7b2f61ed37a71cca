use Rattle.std.proofs.Common.{ap, ◌∙◌, ◌++◌, ◌∷◌, []}
use Rattle.dd_text.specs.Symbols.{number_of}
use Rattle.dd_cert.specs.Steps.{name_by, name_fits}
use Rattle.dd_cert.proofs.Adding.{passes-later}
use Rattle.dd_cert.proofs.Loops.{made-all, made-next}
use Rattle.dd_cert.proofs.build.names.Goals as goal

pub loop-name-preserved : goal.loop-name-preserved
loop-name-preserved c = record {
  built = made-next (name_by c.args.symbols.now) c.args.names.now c.loop-name.name-index c.loop-name.built c.loop-name.invariant.built c.name-item.result c.push.new.self c.loop-name-test.true c.name-item.is
      (c.in_ok-push.ensures.ok ∙ ap (λ n. c.loop-name.built ++ (n, c.name-item.result.1) ∷ []) (c.name_number.ensures ∙ ap (number_of c.args.symbols.now.names) c.as_slice.ensures));
  fit = passes-later name_fits c.args.names.now c.loop-name.name-index c.name-item.result c.loop-name-test.true c.name-item.is c.loop-name.invariant.fit;
}

pub returns : goal.returns
returns c = made-all (name_by c.args.symbols.now) c.args.names.now c.loop-name.name-index c.loop-name.built c.loop-name.invariant.built c.loop-name-test.false
