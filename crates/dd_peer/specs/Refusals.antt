-- When a version is refused, and why.
use Rattle.std.specs.Prelude.{All, ◌<◌, ◌≤◌, ◌≢◌, ℕ, zero, suc, ◌==◌, nat_le, nat_lt, if◌then◌else◌, length, position, Option, None, Some, Result, Ok, Err}
use Rattle.std.specs.Option.{option_map, option_or}
use Rattle.dd_peer.specs.declared.check.PeerErr.{PeerErr}
use Rattle.dd_peer.specs.declared.check.PeerErr.TheVariants.{SamePeer, UnknownPeer, TooManyAxioms, TooManyRules}
use Rattle.dd_peer.specs.declared.version.PeerVersion.{PeerVersion}
use Rattle.dd_peer.specs.Rules.{rules_of, rules_from}

-- the most axioms of a version, and the most into rules, and the most onto rules, that it has from one peer
abbrev pub most_axioms : ℕ
most_axioms = 2000

abbrev pub most_rules : ℕ
most_rules = 64

-- how many rules of a kind come from one peer, where these are too many: into rules before onto rules
abbrev pub crowd_of : PeerVersion → ℕ → Option ℕ
crowd_of v from =
    if nat_lt most_rules (length (rules_from v.into from)) then Some (length (rules_from v.into from))
    else (if nat_lt most_rules (length (rules_from v.onto from)) then Some (length (rules_from v.onto from)) else None)

-- the least number below n with too many rules, and how many
abbrev pub first_crowd : PeerVersion → ℕ → Option (ℕ × ℕ)
first_crowd v zero = None
first_crowd v (suc n) = option_or (first_crowd v n) (option_map (λ count. (n, count)) (crowd_of v n))

-- the first cause, in this order, to refuse a version of the peer own where there are so many peers
abbrev pub refusal_of : PeerVersion → ℕ → ℕ → Option PeerErr
refusal_of v peers own =
    option_or (option_map (λ k. SamePeer k) (position (λ r. r.from == own) (rules_of v)))
    (option_or (option_map (λ k. UnknownPeer k) (position (λ r. nat_le peers r.from) (rules_of v)))
    (option_or (if nat_lt most_axioms (length v.axioms) then Some (TooManyAxioms (length v.axioms)) else None)
    (option_map (λ p. TooManyRules p.0 p.1) (first_crowd v peers))))

-- what a test answers, by the cause to refuse
abbrev pub refused_by : Option PeerErr → Result (Unit {0}) PeerErr
refused_by None = Ok tt
refused_by (Some e) = Err e

-- what holds of a version that is not refused
pub record IsAccepted (v : PeerVersion) (peers own : ℕ) : Type 0 where
  pub others : All (λ r. r.from ≢ own) (rules_of v)
  pub declared : All (λ r. r.from < peers) (rules_of v)
  pub axioms : length v.axioms ≤ most_axioms
  pub into : (from : ℕ) → length (rules_from v.into from) ≤ most_rules
  pub onto : (from : ℕ) → length (rules_from v.onto from) ≤ most_rules
