use Rattle.std.proofs.Common.{sym}
use Rattle.dd_wire.proofs.Readers.{axiom_is_noted, axiom_is_read, axiom_not_read, axiom_stops}
use Rattle.dd_wire.specs.Progress.{progress}
use Rattle.dd_concept.specs.declared.concept.Concept.TheVariants.{Top}
use Rattle.dd_wire.proofs.texts.axiom.Goals as goal

pub returns-then-tally : goal.returns-then-tally
returns-then-tally c = axiom_not_read (progress c.args.tally.now c.args.symbols.now) c.args.text.now

pub returns-in-Ok : goal.returns-in-Ok
returns-in-Ok c = axiom_is_read c.args.symbols.now c.read_axiom.new.symbols c.args.tally.now c.args.text.now c.in-Ok.a c.in-Ok.ensures.reads

pub returns-in-Ok-noted : goal.returns-in-Ok-noted
returns-in-Ok-noted c = axiom_is_noted c.args.symbols.now c.read_axiom.new.symbols c.args.tally.now c.in-Ok-noted.next c.args.text.now c.in-Err.e (record { left = Top; right = Top }) c.in-Err.ensures.reads (sym c.in-Ok-noted.ensures)

pub returns-in-Err-noted : goal.returns-in-Err-noted
returns-in-Err-noted c = axiom_stops c.args.symbols.now c.read_axiom.new.symbols c.args.tally.now c.args.text.now c.in-Err.e c.in-Err-noted.e c.in-Err.ensures.reads (sym c.in-Err-noted.ensures)
