use Rattle.dd_text.proofs.Inverse.{printed-axiom-reads, printed-reads}
use Rattle.dd_text.proofs.laws.printed_texts_read.Goals as goal

pub returns-clause-concepts : goal.returns-clause-concepts
returns-clause-concepts c s limits d new result = printed-reads s limits d new result

pub returns-clause-axioms : goal.returns-clause-axioms
returns-clause-axioms c s limits a new result = printed-axiom-reads s limits a new result
