-- What is asked: does a subsumption hold at a peer, under the versions that a pin names?
use Rattle.dd_peer.specs.declared.version.Pinned.{Pinned}
use Rattle.dd_peer.specs.declared.version.Query.{Query}

-- a query, and the versions under which it is asked
pub record Question : Type 0 where
  pub pinned : Pinned
  pub query : Query
