use Rattle.dd_cert.proofs.Listing.{name-is-text}
use Rattle.dd_cert.proofs.print_world.print_role.Goals as goal

pub text_value-requires : goal.text_value-requires
text_value-requires c = name-is-text c.args.symbols.now.roles c.args.role.now.0 c.role.result.now c.mark-numbering.ensures.numbering.roles_named c.role.ensures
