-- The labels of a spent run, which are kept as sets of numbers of its concepts.
use Rattle.std.specs.Prelude.{List}
use Rattle.dd_concept.specs.declared.concept.Concept.{Concept}
use Rattle.dd_concept.specs.AtNumbers.{concepts_at}
use Rattle.dd_set.specs.Words.{Label, has}

-- the concepts of a label
abbrev pub label_of : List Concept → Label → List Concept
label_of concepts label = concepts_at concepts (has label.words)
