use Rattle.dd_cert.proofs.Listing.{name-is-text}
use Rattle.dd_cert.proofs.print_world.print_name.Goals as goal

pub text_value-requires : goal.text_value-requires
text_value-requires c = name-is-text c.args.symbols.now.names c.args.name.now.0 c.name.result.now c.mark-numbering.ensures.numbering.names_named c.name.ensures
