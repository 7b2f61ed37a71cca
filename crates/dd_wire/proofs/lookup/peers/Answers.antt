use Rattle.std.proofs.Common.{◌∙◌, ap, sym}
use Rattle.std.specs.Option.{option_copied}
use Rattle.dd_wire.specs.Placed.{are_peers}
use Rattle.dd_wire.proofs.Answering.{bad_peers_is_told, is_some-copied, peers_are_read, peers_twice_is_told}
use Rattle.dd_wire.proofs.lookup.peers.Goals as goal

pub returns-then-is_some-clause-reads : goal.returns-then-is_some-clause-reads
returns-then-is_some-clause-reads c = λ s room.
    peers_twice_is_told (option_copied c.args.names) s c.args.wanted (is_some-copied c.args.names ∙ sym c.is_some.ensures ∙ c.if-is_some.true)

pub returns-then-not-are_peers-clause-reads : goal.returns-then-not-are_peers-clause-reads
returns-then-not-are_peers-clause-reads c = λ s room.
    bad_peers_is_told (option_copied c.args.names) s c.args.wanted (is_some-copied c.args.names ∙ sym c.is_some.ensures ∙ c.if-is_some.false)
    (ap are_peers (sym c.as_slice.ensures) ∙ sym c.are_peers.ensures ∙ c.if-not-are_peers.true)

pub returns-clause-reads : goal.returns-clause-reads
returns-clause-reads c = λ s room.
    peers_are_read (option_copied c.args.names) s c.args.wanted room (is_some-copied c.args.names ∙ sym c.is_some.ensures ∙ c.if-is_some.false)
    (ap are_peers (sym c.as_slice.ensures) ∙ sym c.are_peers.ensures ∙ c.if-not-are_peers.false)
