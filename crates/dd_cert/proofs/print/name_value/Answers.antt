use Rattle.dd_cert.proofs.Listing.{name-is-text}
use Rattle.dd_cert.proofs.print.name_value.Goals as goal

pub text_value-requires : goal.text_value-requires
text_value-requires c = name-is-text c.args.symbols.now.names c.args.name c.name.result.now c.mark-numbering.ensures.numbering.names_named c.name.ensures
