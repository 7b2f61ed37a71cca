use Rattle.std.proofs.Common.{◌∙◌, ap, sym}
use Rattle.dd_concept.specs.declared.concept.Concept.TheViews.{out-Concept, outs-Name}
use Rattle.dd_rules.specs.Numbers.{not_shape}
use Rattle.dd_rules.specs.Trees.{concept_of}
use Rattle.dd_rules.proofs.Keeping.{complement-other}
use Rattle.dd_rules.proofs.concepts.complement_of.Goals as goal

pub returns-in-Name : goal.returns-in-Name
returns-in-Name c xs = sym (ap (λ r. not_shape (out-Concept (concept_of xs r))) c.in-Name.is ∙ ap not_shape (outs-Name c.in-Name.a))

pub returns-in_default : goal.returns-in_default
returns-in_default c xs = complement-other xs c.args.row c.in_default.not-Name
