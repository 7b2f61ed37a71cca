use Rattle.std.proofs.Common.{◌∙◌, ap, not}
use Rattle.std.specs.Option.{option_copied}
use Rattle.dd_wire.proofs.Answering.{is_some-copied, no_peers_is_told, versions_are_read}
use Rattle.dd_wire.proofs.lookup.versions.Goals as goal

pub returns-then-is_none-clause-reads : goal.returns-then-is_none-clause-reads
returns-then-is_none-clause-reads c = λ s room. no_peers_is_told (option_copied c.args.names) s (is_some-copied c.args.names ∙ c.is_none.ensures ∙ ap not c.if-is_none.true)

pub returns-clause-reads : goal.returns-clause-reads
returns-clause-reads c = λ s room. versions_are_read (option_copied c.args.names) s room (is_some-copied c.args.names ∙ c.is_none.ensures ∙ ap not c.if-is_none.false)
