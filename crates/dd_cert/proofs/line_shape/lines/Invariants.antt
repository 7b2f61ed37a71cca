use Rattle.std.proofs.Common.{◌≡◌, ◌++◌, drop, Some}
use Rattle.serde_json.specs.View.{items_view}
use Rattle.dd_json.specs.Members.{◌>>=◌}
use Rattle.dd_cert.specs.Forms.{each_of}
use Rattle.dd_cert.specs.LineForms.{line_of}
use Rattle.dd_cert.proofs.line_shape.lines.Given as goal

abbrev pub invariant-loop-value : goal.invariant-loop-value
invariant-loop-value l = (each_of line_of (items_view (drop l.value-index l.list)) >>= λ xs. Some (l.found ++ xs)) ≡ each_of line_of (items_view l.list)
