-- The elements of a world's peers, and what they have.
use Rattle.std.specs.Prelude.{ℕ, ◌<◌, Bool, false, IsTrue, slice_get}
use Rattle.std.specs.Option.{option_map_or}
use Rattle.dd_concept.specs.declared.concept.Concept.{Concept}
use Rattle.dd_interp.specs.declared.interp.Interp.{Interp}
use Rattle.dd_interp.specs.Meaning.{meaning}
use Rattle.dd_world.specs.declared.world.World.{World}

-- the number of elements of peer i: a peer without an interpretation has none
abbrev pub size_at : World → ℕ → ℕ
size_at w i = option_map_or (λ (local : Interp). local.size) (slice_get w.locals i) 0

-- is x at peer i one of the concept, as a test
abbrev pub holds_at : World → ℕ → ℕ → Concept → Bool
holds_at w i x c = option_map_or (λ local. meaning local c x) (slice_get w.locals i) false

-- x is an element of peer i
abbrev pub IsElement : World → ℕ → ℕ → Type 0
IsElement w i x = x < size_at w i

-- x at peer i is one of the concept
abbrev pub HoldsAt : World → ℕ → ℕ → Concept → Type 0
HoldsAt w i x c = IsTrue (holds_at w i x c)
