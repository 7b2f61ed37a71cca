-- The axioms of a peer, and the bridge rules of an ordered pair of peers, under the versions that are pinned.
use Rattle.std.specs.Prelude.{ℕ, List, [], slice_get}
use Rattle.std.specs.Option.{option_map_or}
use Rattle.dd_concept.specs.declared.concept.Axiom.{Axiom}
use Rattle.dd_peer.specs.declared.version.Pinned.{Pinned}
use Rattle.dd_peer.specs.declared.version.PeerVersion.{PeerVersion}
use Rattle.dd_peer.specs.declared.version.Rule.{Rule}
use Rattle.dd_peer.specs.Rules.{rules_from}

-- the axioms of peer i
abbrev pub axioms_of : Pinned → ℕ → List Axiom
axioms_of p i = option_map_or (λ (v : PeerVersion). v.axioms) (slice_get p.peers i) []

-- the into rules from peer h that peer i keeps, in stored order
abbrev pub into_rules : Pinned → ℕ → ℕ → List Rule
into_rules p h i = option_map_or (λ (v : PeerVersion). rules_from v.into h) (slice_get p.peers i) []

-- the onto rules from peer h that peer i keeps, in stored order
abbrev pub onto_rules : Pinned → ℕ → ℕ → List Rule
onto_rules p h i = option_map_or (λ (v : PeerVersion). rules_from v.onto h) (slice_get p.peers i) []

-- all into rules that peer i keeps, and all onto rules
abbrev pub all_into : Pinned → ℕ → List Rule
all_into p i = option_map_or (λ (v : PeerVersion). v.into) (slice_get p.peers i) []

abbrev pub all_onto : Pinned → ℕ → List Rule
all_onto p i = option_map_or (λ (v : PeerVersion). v.onto) (slice_get p.peers i) []
