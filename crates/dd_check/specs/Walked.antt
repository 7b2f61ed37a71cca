-- What a walk over rules finds that counts their positions.
use Rattle.std.specs.Prelude.{ℕ, ◌+◌, ◌&&◌, ◌||◌, Bool, false, List, [], ◌∷◌}
use Rattle.dd_concept.specs.declared.concept.Concept.{Concept}
use Rattle.dd_concept.specs.Normal.{nnf_not_of}
use Rattle.dd_concept.specs.Same.{is_same}
use Rattle.dd_peer.specs.declared.version.Rule.{Rule}
use Rattle.dd_task.specs.Keys.{is_among}

-- is the concept the complement of the rule's source, in normal form
abbrev pub is_no_source_of : Concept → Rule → Bool
is_no_source_of c r = is_same (nnf_not_of r.source) c

-- is it that of one of these rules whose position is in the set, where the first has this position
abbrev pub any_no_source_from : List ℕ → Concept → ℕ → List Rule → Bool
any_no_source_from set c j [] = false
any_no_source_from set c j (r ∷ rs) = (is_no_source_of c r && is_among set j) || any_no_source_from set c (j + 1) rs
