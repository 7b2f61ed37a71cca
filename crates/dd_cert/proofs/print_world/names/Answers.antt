use Rattle.std.proofs.Common.{ap, get_or, map, ◌∙◌}
use Rattle.serde_json.specs.View.{view}
use Rattle.serde_json.proofs.Views.{view-Array}
use Rattle.dd_cert.specs.Printed.{name_data, name_has_symbols}
use Rattle.dd_cert.proofs.Adding.{passes-here, passes-later}
use Rattle.dd_cert.proofs.Listing.{listed-all, listed-next, same-item}
use Rattle.dd_cert.proofs.print_world.names.Goals as goal

pub loop-name-init : goal.loop-name-init
loop-name-init c = record { written = ap (map view) c.new-values.ensures.items; there = c.requires }

pub print_name-requires : goal.print_name-requires
print_name-requires c = passes-here (name_has_symbols c.args.symbols.now) c.args.names.now c.loop-name.name-index (get_or c.args.names.now c.loop-name.name-index (0, 0)) c.loop-name-test.true (same-item c.args.names.now c.loop-name.name-index (0, 0) c.loop-name-test.true) c.loop-name.invariant.there

pub loop-name-preserved : goal.loop-name-preserved
loop-name-preserved c = record {
  written = listed-next (name_data c.args.symbols.now) c.args.names.now c.loop-name.name-index c.loop-name.values.items c.loop-name.invariant.written (get_or c.args.names.now c.loop-name.name-index (0, 0)) c.in_ok-print_name.field-0 c.push.new.self.items
      c.loop-name-test.true (same-item c.args.names.now c.loop-name.name-index (0, 0) c.loop-name-test.true) c.in_ok-print_name.ensures c.in_ok-push.ensures.items;
  there = passes-later (name_has_symbols c.args.symbols.now) c.args.names.now c.loop-name.name-index (get_or c.args.names.now c.loop-name.name-index (0, 0)) c.loop-name-test.true (same-item c.args.names.now c.loop-name.name-index (0, 0) c.loop-name-test.true) c.loop-name.invariant.there;
}

pub returns : goal.returns
returns c = view-Array c.loop-name.values ∙ listed-all (name_data c.args.symbols.now) c.args.names.now c.loop-name.name-index c.loop-name.values.items c.loop-name.invariant.written c.loop-name-test.false
