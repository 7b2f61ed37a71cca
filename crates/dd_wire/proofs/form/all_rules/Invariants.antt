use Rattle.std.proofs.Common.{◌≡◌, ◌++◌, drop, Some}
use Rattle.serde_json.specs.View.{items_view}
use Rattle.dd_json.specs.Members.{◌>>=◌}
use Rattle.dd_wire.specs.Forms.{rules_of}
use Rattle.dd_wire.proofs.form.all_rules.Given as goal

abbrev pub invariant-loop-value : goal.invariant-loop-value
invariant-loop-value l = (rules_of (items_view (drop l.value-index l.list)) >>= λ rs. Some (l.found ++ rs)) ≡ rules_of (items_view l.list)
