use Rattle.std.proofs.Common.{◌∷◌, [], map, Ok, refl, subst, arith}
use Rattle.dd_cert.specs.Derivations.{concept}
use Rattle.dd_cert.specs.Steps.{Passes}
use Rattle.dd_cert.proofs.Stopping.{passing-ends, passing-next}
use Rattle.dd_cert.proofs.line_texts.pass_label.Goals as goal

pub loop-text-preserved : goal.loop-text-preserved
loop-text-preserved c = record {
  small = omega (arith, c.in_ok-place.ensures.passes.1);
  stays = c.in_ok-place.ensures.stays;
  passes = passing-next (λ t. concept t ∷ []) (λ ts. map concept ts) refl (λ x xs. refl) c.args.place c.loop-text.place c.args.texts.now c.loop-text.text-index c.loop-text.invariant.passes
      c.text-item.result c.in_ok-place.place c.loop-text-test.true c.text-item.is
      (subst (λ t. Passes c.loop-text.place (concept t ∷ []) (Ok c.in_ok-place.place)) c.as_slice.ensures c.in_ok-place.ensures.passes);
}

pub returns-clause-passes : goal.returns-clause-passes
returns-clause-passes c = passing-ends (λ t. concept t ∷ []) (λ ts. map concept ts) refl (λ x xs. refl) c.args.place c.loop-text.place c.args.texts.now c.loop-text.text-index c.loop-text.invariant.passes
    c.loop-text-test.false c.loop-text.invariant.small
