use Rattle.dd_task.proofs.Tabled.{ends-listed}
use Rattle.dd_union.proofs.rows.row.Goals as goal

pub extension-requires : goal.extension-requires
extension-requires c = ends-listed c.args.m.now c.args.elements.now c.requires.shaped c.requires.elements
