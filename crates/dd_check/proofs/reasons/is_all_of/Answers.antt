use Rattle.std.proofs.Common.{◌∙◌, ap}
use Rattle.dd_concept.specs.declared.concept.Concept.TheVariants.{HasAll}
use Rattle.dd_concept.proofs.SameIs.{is_same-sym}
use Rattle.dd_task.specs.Lines.{is_there}
use Rattle.dd_check.specs.Parts.{is_along}
use Rattle.dd_check.proofs.PartForms.{all-at}
use Rattle.dd_check.proofs.reasons.is_all_of.Goals as goal

pub returns : goal.returns
returns c =
    c.is_one_along.ensures ∙ ap (λ o. is_there o (is_along c.args.role c.args.d.now)) c.all_parts.ensures
    ∙ all-at c.args.role c.args.d.now c.args.c.now ∙ is_same-sym (HasAll c.args.role c.args.d.now) c.args.c.now
