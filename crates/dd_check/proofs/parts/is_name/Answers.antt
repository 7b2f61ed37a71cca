use Rattle.dd_check.proofs.PartForms.{name-at, no_name}
use Rattle.dd_check.proofs.parts.is_name.Goals as goal

pub returns-in-Name : goal.returns-in-Name
returns-in-Name c = name-at c.args.a c.in-Name.b c.args.c.now c.in-Name.is

pub returns-in_default : goal.returns-in_default
returns-in_default c = no_name c.args.a c.args.c.now c.in_default.not-Name
