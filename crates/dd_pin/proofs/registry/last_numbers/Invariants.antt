use Rattle.std.proofs.Common.{◌≡◌, ◌-◌, length, take}
use Rattle.std.specs.Prelude.{map}
use Rattle.dd_pin.proofs.registry.last_numbers.Given as goal

abbrev pub invariant-loop-row : goal.invariant-loop-row
invariant-loop-row l = l.numbers ≡ map (λ row. length row - 1) (take l.row-index l.versions)
