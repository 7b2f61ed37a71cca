use Rattle.std.proofs.Common.{◌∙◌, subst, sym}
use Rattle.std.specs.Str.{IsUtf8}
use Rattle.dd_cert.proofs.Listing.{concept-is-text}
use Rattle.dd_cert.proofs.print.concept_value.Goals as goal

pub text_value-requires : goal.text_value-requires
text_value-requires c =
    subst IsUtf8 (sym (c.as_slice.ensures.value ∙ c.in_ok-text.ensures)) (concept-is-text c.args.symbols.now c.args.concept.now c.mark-numbering.ensures.numbering c.requires)
