-- The closure of a peer: the subconcepts of its axioms' sides and of some further concepts, each once.
use Rattle.std.specs.Prelude.{◌&&◌, ◌++◌, Bool, true, not, List, [], ◌∷◌, filter, flat_map}
use Rattle.dd_concept.specs.declared.concept.Axiom.{Axiom}
use Rattle.dd_concept.specs.declared.concept.Concept.{Concept}
use Rattle.dd_concept.specs.Normal.{nnf_of, nnf_not_of}
use Rattle.dd_concept.specs.Parts.{parts_in_order}
use Rattle.dd_concept.specs.Same.{is_same, has}

-- each concept once, at its first place
abbrev pub each_once : List Concept → List Concept
each_once [] = []
each_once (c ∷ cs) = c ∷ filter (λ d. not (is_same c d)) (each_once cs)

-- is no concept in the list twice
abbrev pub are_distinct : List Concept → Bool
are_distinct [] = true
are_distinct (c ∷ cs) = not (has cs c) && are_distinct cs

-- what an axiom adds to a label: the complement of its left side, or its right side
abbrev pub sides_of : Axiom → List Concept
sides_of a = nnf_not_of a.left ∷ nnf_of a.right ∷ []

-- the concepts whose subconcepts are in the closure
abbrev pub sources_of : List Axiom → List Concept → List Concept
sources_of axioms extra = flat_map sides_of axioms ++ extra

-- the closure, in the order of first occurrence
abbrev pub closure_of : List Axiom → List Concept → List Concept
closure_of axioms extra = each_once (flat_map parts_in_order (sources_of axioms extra))
