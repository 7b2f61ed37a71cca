-- For private clauses alone: the elements of a peer that its lists name.
use Rattle.std.specs.Prelude.{ℕ, ◌&&◌, Bool, List, [], slice_get}
use Rattle.std.specs.List.{list_all}
use Rattle.std.specs.Option.{option_map_or}
use Rattle.dd_interp.specs.declared.interp.Interp.{Interp}
use Rattle.dd_world.specs.declared.world.World.{World}

-- the names of the elements of peer i
abbrev pub names_at : World → ℕ → List (ℕ × ℕ)
names_at w i = option_map_or (λ (local : Interp). local.names) (slice_get w.locals i) []

-- their roles
abbrev pub roles_at : World → ℕ → List (ℕ × ℕ × ℕ)
roles_at w i = option_map_or (λ (local : Interp). local.roles) (slice_get w.locals i) []

-- does each element of peer i pass that is in a name or at the start of a role
abbrev pub all_named : World → ℕ → (ℕ → Bool) → Bool
all_named w i p = list_all (λ a. p a.1) (names_at w i) && list_all (λ t. p t.1) (roles_at w i)
