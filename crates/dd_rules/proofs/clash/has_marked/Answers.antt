use Rattle.std.proofs.Common.{◌∙◌, sym}
use Rattle.dd_set.specs.Words.{has}
use Rattle.dd_rules.proofs.Clashing.{unmarked}
use Rattle.dd_rules.proofs.clash.has_marked.Goals as goal

pub returns-then-not-has_number : goal.returns-then-not-has_number
returns-then-not-has_number c = sym (unmarked c.args.shapes.now (has c.args.label.now.words) (has c.args.marks.now) c.args.name c.requires.marked (sym c.has_number.ensures ∙ c.if-not-has_number.true))
