use Rattle.std.proofs.Common.{rules}
use Rattle.dd_lines.proofs.reader.LineReader.line.Goals as goal

pub returns-then-size-self : goal.returns-then-size-self
returns-then-size-self c = search rules
