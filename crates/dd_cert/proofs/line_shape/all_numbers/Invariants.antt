use Rattle.std.proofs.Common.{◌≡◌, ◌++◌, drop, Some}
use Rattle.serde_json.specs.View.{items_view}
use Rattle.dd_json.specs.Members.{◌>>=◌, number_of}
use Rattle.dd_cert.specs.Forms.{each_of}
use Rattle.dd_cert.proofs.line_shape.all_numbers.Given as goal

abbrev pub invariant-loop-value : goal.invariant-loop-value
invariant-loop-value l = (each_of number_of (items_view (drop l.value-index l.list)) >>= λ xs. Some (l.found ++ xs)) ≡ each_of number_of (items_view l.list)
