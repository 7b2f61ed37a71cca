use Rattle.std.proofs.Common.{◌≡◌, ℕ, Bool, true, All, map, take}
use Rattle.dd_interp.specs.Places.{is_listed}
use Rattle.dd_interp.specs.SeenLists.{HasValues}
use Rattle.dd_interp.proofs.valued.values.Given as goal

abbrev pub invariant-loop-x : goal.invariant-loop-x
invariant-loop-x l = (test : ℕ → Bool) → HasValues test l.places l.row.words → All (λ x. is_listed l.places x ≡ true) l.elements → l.values.items ≡ map test (take l.x-index l.elements)
