use Rattle.std.proofs.Common.{◌≡◌, ◌++◌, [], ◌∷◌, take}
use Rattle.std.specs.List.{flat_map}
use Rattle.dd_world.proofs.mention.add_names.Given as goal

abbrev pub invariant-loop-p : goal.invariant-loop-p
invariant-loop-p l = l.elements.items ≡ l.initial.elements.items ++ flat_map (λ p. p.1 ∷ []) (take l.p-index l.names)
