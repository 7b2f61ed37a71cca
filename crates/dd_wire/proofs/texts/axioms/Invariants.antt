-- Whatever may be read of the rest completes what was read.
use Rattle.std.proofs.Common.{List, ℕ}
use Rattle.dd_concept.specs.declared.concept.Axiom.{Axiom}
use Rattle.dd_wire.specs.Progress.{progress, ReadsAxioms}
use Rattle.dd_wire.proofs.Joining.{Reaches}
use Rattle.dd_wire.proofs.texts.axioms.Given as goal

abbrev pub invariant-loop-text : goal.invariant-loop-text
invariant-loop-text l = Reaches (List ℕ) Axiom ReadsAxioms (progress l.initial.tally l.initial.symbols) l.texts (progress l.tally l.symbols) l.text-index l.found
