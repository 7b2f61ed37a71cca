use Rattle.std.proofs.Common.{rules}
use Rattle.dd_text.proofs.grammar.is_concept_word.Goals as goal

pub returns-then-is_word-2 : goal.returns-then-is_word-2
returns-then-is_word-2 c = search rules

pub returns-else-is_word-2 : goal.returns-else-is_word-2
returns-else-is_word-2 c = search rules
