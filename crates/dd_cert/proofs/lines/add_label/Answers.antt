use Rattle.std.proofs.Common.{drop, ◌+◌, Err, ap, subst, sym}
use Rattle.dd_text.specs.Text.{concept_of, with_term}
use Rattle.dd_text.proofs.Building.{Grows-trans, Grows-with_term}
use Rattle.dd_cert.specs.Derivations.{IsReadable, SpellsSmall, concept}
use Rattle.dd_cert.specs.Steps.{IsBuilt, IsFull}
use Rattle.dd_cert.proofs.Certain.{label_parses}
use Rattle.dd_cert.proofs.Gathering.{built-all, built-next, full-next, where_done}
use Rattle.dd_cert.proofs.LinesBuilt.{added-same, label-readable}
use Rattle.dd_cert.proofs.lines.add_label.Goals as goal

pub add_concept-requires : goal.add_concept-requires
add_concept-requires c =
    let i = c.loop-text.text-index in
    subst (λ t. IsReadable (concept t)) (sym c.as_slice.ensures) (label-readable c.args.texts.now i c.text-item.result c.loop-text-test.true c.text-item.is c.loop-text.invariant.readable).0

pub returns-in-Err-clause-full : goal.returns-in-Err-clause-full
returns-in-Err-clause-full c full =
    let s = c.loop-text.symbols in
    let i = c.loop-text.text-index in
    let x = c.text-item.result in
    let readable = label-readable c.args.texts.now i x c.loop-text-test.true c.text-item.is c.loop-text.invariant.readable in
    full-next SpellsSmall with_term concept_of Grows-with_term c.args.symbols.now s c.args.texts.now i x c.loop-text.built c.loop-text-test.true c.text-item.is c.loop-text.invariant.label
    (subst (IsFull SpellsSmall with_term s) c.as_slice.ensures (c.in-Err.ensures.full (ap Err (added-same c.in-Err.e full)))) (label_parses (drop (i + 1) c.args.texts.now) readable.1)

pub loop-text-preserved : goal.loop-text-preserved
loop-text-preserved c =
    let old = c.args.symbols.now in
    let s = c.loop-text.symbols in
    let t = c.add_concept.new.symbols in
    let i = c.loop-text.text-index in
    let x = c.text-item.result in
    record {
      label = built-next SpellsSmall with_term concept_of Grows-with_term old s t c.args.texts.now i x c.loop-text.built c.push.new.self c.in-Ok.concept c.loop-text-test.true c.text-item.is c.loop-text.invariant.label
          (subst (λ z. IsBuilt SpellsSmall with_term concept_of s z t c.in-Ok.concept) c.as_slice.ensures c.in-Ok.ensures.concept)
          (where_done c.push.result c.is_err.result c.is_err.ensures.value c.if-is_err.false c.push.ensures.ok);
      readable = (label-readable c.args.texts.now i x c.loop-text-test.true c.text-item.is c.loop-text.invariant.readable).1;
      grows = Grows-trans old s t c.loop-text.invariant.grows c.in-Ok.ensures.grows;
    }

pub returns-clause-label : goal.returns-clause-label
returns-clause-label c = built-all SpellsSmall with_term concept_of Grows-with_term c.args.symbols.now c.loop-text.symbols c.args.texts.now c.loop-text.text-index c.loop-text.built c.loop-text-test.false c.loop-text.invariant.label
