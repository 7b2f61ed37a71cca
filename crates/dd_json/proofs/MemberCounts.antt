-- An object has as many members as its map has entries.
use Rattle.std.proofs.Common.{◌≡◌, ◌+◌, List, [], ◌∷◌, length, ap, refl, ◌∙◌, add-one}
use Rattle.std.specs.declared.alloc.Global.{Global}
use Rattle.std.specs.Prelude.{String}
use Rattle.serde_json.specs.View.{members_view}
use Rattle.serde_json.specs.declared.value.Value.{Value}
use Rattle.dd_json.specs.Members.{member_count}

pub count_of_members : (entries : List (String Global × Value)) → member_count (members_view entries) ≡ length entries
count_of_members [] = refl
count_of_members (e ∷ es) = ap (λ n. n + 1) (count_of_members es) ∙ add-one (length es)
