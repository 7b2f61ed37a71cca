use Rattle.std.proofs.Common.{ap, map, ◌∙◌}
use Rattle.serde_json.specs.View.{view}
use Rattle.serde_json.proofs.Views.{view-Array}
use Rattle.dd_cert.specs.Printed.{local_data, local_has_symbols}
use Rattle.dd_cert.proofs.Adding.{passes-here, passes-later}
use Rattle.dd_cert.proofs.Listing.{listed-all, listed-next}
use Rattle.dd_cert.proofs.print_world.locals.Goals as goal

pub loop-local-init : goal.loop-local-init
loop-local-init c = record { written = ap (map view) c.new-values.ensures.items; there = c.requires }

pub print_local-requires : goal.print_local-requires
print_local-requires c = passes-here (local_has_symbols c.args.symbols.now) c.args.locals.now c.loop-local.local-index c.local-item.result c.loop-local-test.true c.local-item.is c.loop-local.invariant.there

pub loop-local-preserved : goal.loop-local-preserved
loop-local-preserved c = record {
  written = listed-next (local_data c.args.symbols.now) c.args.locals.now c.loop-local.local-index c.loop-local.values.items c.loop-local.invariant.written c.local-item.result c.in_ok-print_local.field-0 c.push.new.self.items
      c.loop-local-test.true c.local-item.is c.in_ok-print_local.ensures c.in_ok-push.ensures.items;
  there = passes-later (local_has_symbols c.args.symbols.now) c.args.locals.now c.loop-local.local-index c.local-item.result c.loop-local-test.true c.local-item.is c.loop-local.invariant.there;
}

pub returns : goal.returns
returns c = view-Array c.loop-local.values ∙ listed-all (local_data c.args.symbols.now) c.args.locals.now c.loop-local.local-index c.loop-local.values.items c.loop-local.invariant.written c.loop-local-test.false
