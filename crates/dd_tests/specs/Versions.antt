-- The rules and the versions that tests name by numbers.
use Rattle.std.specs.Prelude.{ℕ, List, [], map}
use Rattle.dd_concept.specs.declared.concept.Concept.TheVariants.{Name}
use Rattle.dd_peer.specs.declared.version.PeerVersion.{PeerVersion}
use Rattle.dd_peer.specs.declared.version.Rule.{Rule}

-- the rule from a peer between two names
abbrev pub rule_of : ℕ × ℕ × ℕ → Rule
rule_of s = record { from = s.0; source = Name s.1; target = Name s.2 }

-- the version with these into rules and these onto rules, and no axioms
abbrev pub version_of : (into onto : List (ℕ × ℕ × ℕ)) → PeerVersion
version_of into onto = record { axioms = []; into = map rule_of into; onto = map rule_of onto }
