use Rattle.std.proofs.Common.{sym}
use Rattle.dd_concept.specs.declared.concept.Concept.TheVariants.{Top}
use Rattle.dd_check.proofs.PartForms.{differs, same-at}
use Rattle.dd_check.proofs.parts.is_top.Goals as goal

pub returns-in-Top : goal.returns-in-Top
returns-in-Top c = same-at Top c.args.c.now c.in-Top.is

pub returns-in_default : goal.returns-in_default
returns-in_default c = differs Top c.args.c.now (λ e. c.in_default.not-Top (sym e))
