use Rattle.std.proofs.Common.{◌≡◌, map, take}
use Rattle.serde_json.specs.View.{view}
use Rattle.dd_cert.specs.Printed.{whole_number}
use Rattle.dd_cert.proofs.parts.numbers.Given as goal

abbrev pub invariant-loop-n : goal.invariant-loop-n
invariant-loop-n l = map view l.values.items ≡ map whole_number (take l.n-index l.list)
