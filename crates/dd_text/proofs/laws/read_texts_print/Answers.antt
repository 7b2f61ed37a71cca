use Rattle.dd_text.proofs.Inverse.{read-axiom-prints, read-prints}
use Rattle.dd_text.proofs.laws.read_texts_print.Goals as goal

pub returns-clause-concepts : goal.returns-clause-concepts
returns-clause-concepts c old new limits text d h = read-prints old new limits text d h

pub returns-clause-axioms : goal.returns-clause-axioms
returns-clause-axioms c old new limits text a h = read-axiom-prints old new limits text a h
