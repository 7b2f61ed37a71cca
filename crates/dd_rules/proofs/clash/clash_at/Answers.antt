use Rattle.std.proofs.Common.{◌∙◌, sym, ap, Some}
use Rattle.dd_set.specs.Words.{has}
use Rattle.dd_rules.specs.Tables.{shape_rules}
use Rattle.dd_rules.proofs.Clashing.{bottom-clash, name-clash}
use Rattle.dd_rules.proofs.clash.clash_at.Goals as goal

pub returns-in-Bottom-clause-some : goal.returns-in-Bottom-clause-some
returns-in-Bottom-clause-some c = bottom-clash (shape_rules c.args.shapes.now) (has c.args.label.now.words) c.args.n (c.requires.shape ∙ ap Some c.in-Bottom.is) c.requires.has

pub returns-then-has_marked-clause-some : goal.returns-then-has_marked-clause-some
returns-then-has_marked-clause-some c = name-clash (shape_rules c.args.shapes.now) (has c.args.label.now.words) c.args.n _ (c.requires.shape ∙ ap Some c.in-Name.is) c.requires.has
    (sym c.has_marked.ensures ∙ c.if-has_marked.true)
