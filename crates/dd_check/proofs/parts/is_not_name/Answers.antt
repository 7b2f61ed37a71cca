use Rattle.std.proofs.Common.{◌∙◌, ap}
use Rattle.dd_concept.specs.Same.{is_same}
use Rattle.dd_concept.specs.declared.concept.Concept.TheVariants.{Name}
use Rattle.dd_check.proofs.PartForms.{not-at, no_not}
use Rattle.dd_check.proofs.parts.is_not_name.Goals as goal

pub returns-in-Not : goal.returns-in-Not
returns-in-Not c = c.is_name.ensures ∙ ap (is_same (Name c.args.a)) c.get.ensures ∙ not-at (Name c.args.a) c.in-Not.d c.args.c.now c.in-Not.is

pub returns-in_default : goal.returns-in_default
returns-in_default c = no_not (Name c.args.a) c.args.c.now c.in_default.not-Not
