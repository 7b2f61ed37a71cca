use Rattle.std.proofs.Common.{ap, map, ◌∙◌}
use Rattle.serde_json.specs.View.{view}
use Rattle.serde_json.proofs.Views.{view-Array}
use Rattle.dd_cert.specs.Printed.{line_data, line_has_symbols}
use Rattle.dd_cert.proofs.Adding.{passes-here, passes-later}
use Rattle.dd_cert.proofs.Listing.{listed-all, listed-next}
use Rattle.dd_cert.proofs.print.all_lines.Goals as goal

pub loop-line-init : goal.loop-line-init
loop-line-init c = record { written = ap (map view) c.new-values.ensures.items; there = c.requires }

pub print_line-requires : goal.print_line-requires
print_line-requires c = passes-here (line_has_symbols c.args.symbols.now) c.args.lines.now c.loop-line.line-index c.line-item.result c.loop-line-test.true c.line-item.is c.loop-line.invariant.there

pub loop-line-preserved : goal.loop-line-preserved
loop-line-preserved c = record {
  written = listed-next (line_data c.args.symbols.now) c.args.lines.now c.loop-line.line-index c.loop-line.values.items c.loop-line.invariant.written c.line-item.result c.in_ok-print_line.field-0 c.push.new.self.items
      c.loop-line-test.true c.line-item.is c.in_ok-print_line.ensures c.in_ok-push.ensures.items;
  there = passes-later (line_has_symbols c.args.symbols.now) c.args.lines.now c.loop-line.line-index c.line-item.result c.loop-line-test.true c.line-item.is c.loop-line.invariant.there;
}

pub returns : goal.returns
returns c = view-Array c.loop-line.values ∙ listed-all (line_data c.args.symbols.now) c.args.lines.now c.loop-line.line-index c.loop-line.values.items c.loop-line.invariant.written c.loop-line-test.false
