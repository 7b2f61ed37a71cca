use Rattle.std.proofs.Common.{arith}
use Rattle.dd_rules.specs.contracts.row.RowPartialEq.TheImpl as row_eq
use Rattle.dd_rules.proofs.Growing.{found-insert, rows-insert}
use Rattle.dd_rules.proofs.RowEq.{eq_true, eq_same}
use Rattle.dd_rules.proofs.tree.put.Goals as goal

pub returns-clause-found : goal.returns-clause-found
returns-clause-found c =
    found-insert row_eq.eq-value.it eq_true eq_same c.args.rows.now.keys c.insert_full.new.self.keys c.args.row c.in-Ok.at c.in-Ok.ensures.keys c.requires.rows c.requires.within (omega arith) c.in-Ok.ensures.stored

pub returns-clause-rows : goal.returns-clause-rows
returns-clause-rows c =
    rows-insert row_eq.eq-value.it eq_true eq_same c.args.rows.now.keys c.insert_full.new.self.keys c.args.row c.in-Ok.ensures.keys c.requires.rows c.requires.within (omega arith)
