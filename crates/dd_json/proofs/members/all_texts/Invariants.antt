use Rattle.std.proofs.Common.{◌≡◌, ◌++◌, drop, Some}
use Rattle.serde_json.specs.View.{items_view}
use Rattle.dd_json.specs.Members.{◌>>=◌, texts_of}
use Rattle.dd_json.proofs.members.all_texts.Given as goal

abbrev pub invariant-loop-value : goal.invariant-loop-value
invariant-loop-value l = (texts_of (items_view (drop l.value-index l.list)) >>= λ ts. Some (l.found ++ ts)) ≡ texts_of (items_view l.list)
