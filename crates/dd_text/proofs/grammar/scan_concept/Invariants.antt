use Rattle.std.proofs.Common.{◌≡◌, drop}
use Rattle.dd_text.specs.Automaton.{reach, start}
use Rattle.dd_text.proofs.grammar.scan_concept.Given as goal

abbrev pub invariant-loop-read : goal.invariant-loop-read
invariant-loop-read l = reach start l.text ≡ reach l.scan (drop l.read l.text)
