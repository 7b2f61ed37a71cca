use Rattle.std.proofs.Common.{◌≡◌, ◌++◌, [], ◌∷◌, take}
use Rattle.std.specs.List.{flat_map}
use Rattle.dd_world.proofs.mention.add_roles.Given as goal

abbrev pub invariant-loop-t : goal.invariant-loop-t
invariant-loop-t l = l.elements.items ≡ l.initial.elements.items ++ flat_map (λ t. t.1 ∷ t.2 ∷ []) (take l.t-index l.roles)
