-- When a graph is that of a peer under pinned versions, with the propagations of a view.
use Rattle.std.specs.Prelude.{ℕ, ◌≡◌, ◌<◌, ◌≤◌, true, List, All, length}
use Rattle.dd_concept.specs.Counts.{node_count, depth_of}
use Rattle.dd_concept.specs.Sizes.{most_nodes, most_depth}
use Rattle.dd_graph.specs.View.{GraphView, props_at}
use Rattle.dd_peer.specs.declared.version.Pinned.{Pinned}
use Rattle.dd_peer.specs.declared.version.Rule.{Rule}
use Rattle.dd_task.specs.declared.line.Prop.{Prop}
use Rattle.dd_task.specs.Lines.{is_other, is_rising}
use Rattle.dd_task.specs.Rules.{axioms_of, all_onto, into_rules, onto_rules}
use Rattle.dd_task.specs.Targets.{propagations_of}

-- The propagation is from another peer that is declared. Its onto rule is there, and so are its into rules, which stand in order.
pub record IsPropInto (p : Pinned) (peer : ℕ) (t : Prop) : Type 0 where
  pub other : is_other p peer t.from ≡ true
  pub onto : t.onto < length (onto_rules p t.from peer)
  pub into : All (λ k. k < length (into_rules p t.from peer)) t.into_set
  pub rising : is_rising t.into_set ≡ true

-- the target of the rule is within the limits of requests
pub record HasSmallTarget (r : Rule) : Type 0 where
  pub nodes : node_count r.target ≤ most_nodes
  pub depth : depth_of r.target ≤ most_depth

-- The peer is declared. The graph is by the peer's axioms and by the propagations of the view, in the order of the view. These
-- are right, and the targets of the peer's onto rules are within the limits of requests.
pub record IsGraphFor (p : Pinned) (peer : ℕ) (view : List Prop) (v : GraphView) : Type 0 where
  pub declared : peer < length p.peers
  pub axioms : v.closure.axioms ≡ axioms_of p peer
  pub props : props_at v ≡ propagations_of p peer view
  pub each : All (IsPropInto p peer) view
  pub targets : All HasSmallTarget (all_onto p peer)
