use Rattle.std.proofs.Common.{ap, ◌∙◌, ◌++◌, ◌∷◌, []}
use Rattle.dd_text.specs.Symbols.{number_of}
use Rattle.dd_cert.specs.Steps.{role_by, role_fits}
use Rattle.dd_cert.proofs.Adding.{passes-later}
use Rattle.dd_cert.proofs.Loops.{made-all, made-next}
use Rattle.dd_cert.proofs.build.roles.Goals as goal

pub loop-role-preserved : goal.loop-role-preserved
loop-role-preserved c = record {
  built = made-next (role_by c.args.symbols.now) c.args.roles.now c.loop-role.role-index c.loop-role.built c.loop-role.invariant.built c.role-item.result c.push.new.self c.loop-role-test.true c.role-item.is
      (c.in_ok-push.ensures.ok ∙ ap (λ n. c.loop-role.built ++ (n, c.role-item.result.1, c.role-item.result.2) ∷ []) (c.role_number-number.ensures ∙ ap (number_of c.args.symbols.now.roles) c.as_slice.ensures));
  fit = passes-later role_fits c.args.roles.now c.loop-role.role-index c.role-item.result c.loop-role-test.true c.role-item.is c.loop-role.invariant.fit;
}

pub returns : goal.returns
returns c = made-all (role_by c.args.symbols.now) c.args.roles.now c.loop-role.role-index c.loop-role.built c.loop-role.invariant.built c.loop-role-test.false
