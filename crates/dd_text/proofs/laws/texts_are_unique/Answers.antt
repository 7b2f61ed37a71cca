use Rattle.dd_text.proofs.Unique.{Spells-unique, SpellsAxiom-unique}
use Rattle.dd_text.proofs.laws.texts_are_unique.Goals as goal

pub returns-clause-concepts : goal.returns-clause-concepts
returns-clause-concepts c text t u = Spells-unique text t u

pub returns-clause-axioms : goal.returns-clause-axioms
returns-clause-axioms c text l r l' r' = SpellsAxiom-unique text l r l' r'
