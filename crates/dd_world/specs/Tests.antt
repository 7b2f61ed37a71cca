-- What makes a world a countermodel, as tests that compute.
use Rattle.std.specs.Prelude.{ℕ, zero, suc, ◌==◌, Bool, true, not, ◌&&◌, ◌||◌, nat_lt, length}
use Rattle.std.specs.List.{list_any, list_all}
use Rattle.dd_concept.specs.declared.concept.Axiom.{Axiom}
use Rattle.dd_concept.specs.declared.concept.Concept.{Concept}
use Rattle.dd_interp.specs.declared.interp.Interp.{Interp}
use Rattle.dd_peer.specs.declared.version.Pinned.{Pinned}
use Rattle.dd_peer.specs.declared.version.Rule.{Rule}
use Rattle.dd_world.specs.declared.world.World.{World}
use Rattle.dd_world.specs.Elements.{size_at, holds_at}

-- does each number below n pass
abbrev pub all_below : ℕ → (ℕ → Bool) → Bool
all_below zero p = true
all_below (suc n) p = p n && all_below n p

-- is each element that the lists name below the size
abbrev pub has_shape : Interp → Bool
has_shape i = list_all (λ p. nat_lt p.1 i.size) i.names
    && list_all (λ t. nat_lt t.1 i.size && nat_lt t.2 i.size) i.roles

-- does the link lead from an element to an element of another peer
abbrev pub is_link : World → ℕ × ℕ × ℕ × ℕ → Bool
is_link w link = not (link.0 == link.1) && (nat_lt link.2 (size_at w link.0) && nat_lt link.3 (size_at w link.1))

-- is there one shaped interpretation per peer, and is each link one
abbrev pub is_world : Pinned → World → Bool
is_world p w = (length w.locals == length p.peers) && (list_all has_shape w.locals && list_all (is_link w) w.links)

-- is the element x of peer j outside the left concept or in the right one
abbrev pub passes : World → ℕ → Concept → Concept → ℕ → Bool
passes w j left right x = not (holds_at w j x left) || holds_at w j x right

-- is each element of the left concept at peer j one of the right concept
abbrev pub is_under : World → ℕ → Concept → Concept → Bool
is_under w j left right = all_below (size_at w j) (passes w j left right)

-- does the interpretation of peer j satisfy the axiom
abbrev pub satisfies_axiom : World → ℕ → Axiom → Bool
satisfies_axiom w j a = is_under w j a.left a.right

-- does the link lead from the rule's peer to peer j
abbrev pub joins : ℕ → Rule → ℕ × ℕ × ℕ × ℕ → Bool
joins j rule link = (link.0 == rule.from) && (link.1 == j)

-- is the link no link of the rule, or does it not start in the source, or does it end in the target
abbrev pub keeps_into : World → ℕ → Rule → ℕ × ℕ × ℕ × ℕ → Bool
keeps_into w j rule link = not (joins j rule link && holds_at w rule.from link.2 rule.source) || holds_at w j link.3 rule.target

-- does the world satisfy the into rule that peer j keeps
abbrev pub satisfies_into : World → ℕ → Rule → Bool
satisfies_into w j rule = list_all (keeps_into w j rule) w.links

-- does the link lead from an element of the source to the element b of peer j
abbrev pub leads_to : World → ℕ → Rule → ℕ → ℕ × ℕ × ℕ × ℕ → Bool
leads_to w j rule b link = (joins j rule link && (link.3 == b)) && holds_at w rule.from link.2 rule.source

-- does some link lead from an element of the source to the element b of peer j
abbrev pub is_reached : World → ℕ → Rule → ℕ → Bool
is_reached w j rule b = list_any (leads_to w j rule b) w.links

-- is the element b of peer j outside the target, or does such a link lead to it
abbrev pub keeps_onto : World → ℕ → Rule → ℕ → Bool
keeps_onto w j rule b = not (holds_at w j b rule.target) || is_reached w j rule b

-- does the world satisfy the onto rule that peer j keeps
abbrev pub satisfies_onto : World → ℕ → Rule → Bool
satisfies_onto w j rule = all_below (size_at w j) (keeps_onto w j rule)
