use Rattle.std.proofs.Common.{◌≡◌, ◌++◌, drop, Some}
use Rattle.serde_json.specs.View.{items_view}
use Rattle.dd_json.specs.Members.{◌>>=◌, indexes_of}
use Rattle.dd_json.proofs.members.all_indexes.Given as goal

abbrev pub invariant-loop-value : goal.invariant-loop-value
invariant-loop-value l = (indexes_of (items_view (drop l.value-index l.list)) >>= λ ns. Some (l.found ++ ns)) ≡ indexes_of (items_view l.list)
