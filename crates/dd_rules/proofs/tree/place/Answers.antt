use Rattle.std.proofs.Common.{sym}
use Rattle.dd_rules.specs.contracts.row.RowPartialEq.TheImpl as row_eq
use Rattle.dd_rules.proofs.Growing.{placed, not_placed}
use Rattle.dd_rules.proofs.RowEq.{eq_true, eq_same}
use Rattle.dd_rules.proofs.tree.place.Goals as goal

pub returns-in-Some : goal.returns-in-Some
returns-in-Some c = placed row_eq.eq-value.it eq_true eq_same c.args.rows.now.keys c.args.row c.in-Some.n c.requires.rows c.in-Some.ensures.index

pub returns-in-None : goal.returns-in-None
returns-in-None c = not_placed row_eq.eq-value.it eq_true eq_same c.args.rows.now.keys c.args.row c.requires.rows c.requires.within (sym c.in-None.ensures.found)
