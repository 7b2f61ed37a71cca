-- Labels that are kept as tests of numbers: which concepts of a list a label has.
use Rattle.std.specs.Prelude.{ℕ, suc, Bool, if◌then◌else◌, List, [], ◌∷◌}
use Rattle.dd_concept.specs.declared.concept.Concept.{Concept}

-- the concepts at the numbers that pass
abbrev pub concepts_at : List Concept → (ℕ → Bool) → List Concept
concepts_at [] p = []
concepts_at (c ∷ cs) p = if p 0 then c ∷ concepts_at cs (λ n. p (suc n)) else concepts_at cs (λ n. p (suc n))
