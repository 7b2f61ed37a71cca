-- For private clauses alone: a world seen at the elements that it mentions, and at one for those that it does not.
use Rattle.std.specs.Prelude.{◌≡◌, ℕ, ◌<◌, ◌==◌, List, [], length, slice_index_or, All}
use Rattle.std.specs.List.{position_or_len}
use Rattle.dd_concept.specs.declared.concept.Concept.{Concept}
use Rattle.dd_interp.specs.declared.interp.Interp.{Interp}
use Rattle.dd_interp.specs.Seen.{IsSeenAt}
use Rattle.dd_peer.specs.declared.version.Rule.{Rule}
use Rattle.dd_world.specs.declared.sketch.Sketch.{Sketch}
use Rattle.dd_world.specs.declared.world.World.{World}
use Rattle.dd_world.specs.Elements.{size_at, holds_at}
use Rattle.dd_world.specs.Mentions.{AreSeen, mentions_of}
use Rattle.dd_world.specs.Tests.{is_reached, satisfies_into}
use Rattle.dd_world.specs.World.{IsLink}

-- the sketch as a world
abbrev pub world_of : Sketch → World
world_of s = record { locals = s.charts; links = s.links }

-- the place of x in the list
abbrev pub place : List ℕ → ℕ → ℕ
place es x = position_or_len (λ y. y == x) es

-- the link between the places of its ends, each in the list of its peer
abbrev pub seen_link : List (List ℕ) → ℕ × ℕ × ℕ × ℕ → ℕ × ℕ × ℕ × ℕ
seen_link elements l = (l.0, l.1, place (slice_index_or elements l.0 []) l.2, place (slice_index_or elements l.1 []) l.3)

-- of each of the first n peers the elements that are seen
pub record AreAllSeen (w : World) (elements : List (List ℕ)) (n : ℕ) : Type 0 where
  pub count : length elements ≡ n
  pub each : (j : ℕ) (d : Interp) → j < n → AreSeen (slice_index_or w.locals j d).size (mentions_of j (slice_index_or w.locals j d) w.links) (slice_index_or elements j [])

-- the first n interpretations at these elements
pub record AreCharts (w : World) (elements : List (List ℕ)) (charts : List Interp) (n : ℕ) : Type 0 where
  pub count : length charts ≡ n
  pub each : (j : ℕ) (d e : Interp) → j < n → IsSeenAt (slice_index_or w.locals j d) (slice_index_or elements j []) (slice_index_or charts j e)

-- the element x of peer j in one world has what the element y has in the other, and links lead to both alike
pub record AreAlike (w v : World) (j x y : ℕ) : Type 0 where
  pub holds : (c : Concept) → holds_at w j x c ≡ holds_at v j y c
  pub ends : (r : Rule) → is_reached w j r x ≡ is_reached v j r y

-- each element of one world is like one of the other, and the links meet the same into rules
pub record Sees (w v : World) : Type 0 where
  pub up : (j x : ℕ) → x < size_at w j → (y : ℕ) × (y < size_at v j) × AreAlike w v j x y
  pub down : (j y : ℕ) → y < size_at v j → (x : ℕ) × (x < size_at w j) × AreAlike w v j x y
  pub into : (j : ℕ) (r : Rule) → satisfies_into v j r ≡ satisfies_into w j r
  pub links : All (IsLink v) v.links
