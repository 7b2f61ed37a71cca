use Rattle.std.proofs.Common.{sym}
use Rattle.dd_concept.specs.declared.concept.Concept.TheVariants.{Bottom}
use Rattle.dd_check.proofs.PartForms.{differs, same-at}
use Rattle.dd_check.proofs.parts.is_bottom.Goals as goal

pub returns-in-Bottom : goal.returns-in-Bottom
returns-in-Bottom c = same-at Bottom c.args.c.now c.in-Bottom.is

pub returns-in_default : goal.returns-in_default
returns-in_default c = differs Bottom c.args.c.now (λ e. c.in_default.not-Bottom (sym e))
