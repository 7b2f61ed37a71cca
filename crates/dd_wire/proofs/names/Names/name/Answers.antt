use Rattle.dd_wire.proofs.PeerNames.{named_at}
use Rattle.dd_wire.proofs.names.Names.name.Goals as goal

pub returns-clause-named : goal.returns-clause-named
returns-clause-named c = named_at c.self.inside.texts.names c.args.peer c.name.result.now c.mark-mark.ensures.numbering.names_named c.name.ensures
