use Rattle.dd_rules.specs.Trees.{trees}
use Rattle.dd_rules.proofs.Pairing.{axioms-keep}
use Rattle.dd_rules.proofs.source.rows_of.Goals as goal

pub returns : goal.returns
returns c = record {
  rows = c.in_ok-add_extra.ensures.rows;
  axioms = axioms-keep (trees c.add_axioms.new.rows.keys) (trees c.add_extra.new.rows.keys) c.args.axioms.now c.add_axioms.new.list.items c.in_ok-add_extra.ensures.grows c.in_ok-add_axioms.ensures.axioms;
  extra = c.in_ok-add_extra.ensures.extra;
}
