use Rattle.std.proofs.Common.{ap, map, ◌∙◌}
use Rattle.serde_json.specs.View.{view}
use Rattle.serde_json.proofs.Views.{view-Array}
use Rattle.dd_text.specs.Text.{has_symbols}
use Rattle.dd_cert.specs.Printed.{concept_data}
use Rattle.dd_cert.proofs.Adding.{passes-here, passes-later}
use Rattle.dd_cert.proofs.Listing.{listed-all, listed-next}
use Rattle.dd_cert.proofs.print.label.Goals as goal

pub loop-concept-init : goal.loop-concept-init
loop-concept-init c = record { written = ap (map view) c.new-values.ensures.items; there = c.requires }

pub concept_value-requires : goal.concept_value-requires
concept_value-requires c = passes-here (has_symbols c.args.symbols.now) c.args.concepts.now c.loop-concept.concept-index c.concept-item.result c.loop-concept-test.true c.concept-item.is c.loop-concept.invariant.there

pub loop-concept-preserved : goal.loop-concept-preserved
loop-concept-preserved c = record {
  written = listed-next (concept_data c.args.symbols.now) c.args.concepts.now c.loop-concept.concept-index c.loop-concept.values.items c.loop-concept.invariant.written c.concept-item.result c.in_ok-concept_value.field-0 c.push.new.self.items
      c.loop-concept-test.true c.concept-item.is c.in_ok-concept_value.ensures c.in_ok-push.ensures.items;
  there = passes-later (has_symbols c.args.symbols.now) c.args.concepts.now c.loop-concept.concept-index c.concept-item.result c.loop-concept-test.true c.concept-item.is c.loop-concept.invariant.there;
}

pub returns : goal.returns
returns c = view-Array c.loop-concept.values ∙ listed-all (concept_data c.args.symbols.now) c.args.concepts.now c.loop-concept.concept-index c.loop-concept.values.items c.loop-concept.invariant.written c.loop-concept-test.false
