use Rattle.std.proofs.Common.{arith, get_or}
use Rattle.dd_text.specs.Automaton.{step}
use Rattle.dd_text.proofs.Steps.{stops, reach-stops, scans_from}
use Rattle.dd_text.proofs.grammar.scan_concept.Goals as goal

pub returns-then-not-branch : goal.returns-then-not-branch
returns-then-not-branch c =
    let old = c.loop-read.scan in
    let text = c.args.text.now in
    let n = c.loop-read.read in
    let stopped = stops (step old (get_or text n 0)) old c.step.new.self c.in_ok-step.field-0 c.if-not-branch.true c.in_ok-step.ensures in
    scans_from c.scanned.result old c.step.new.self text n (omega arith) (reach-stops old text n (omega arith) c.loop-read.invariant stopped.stuck) stopped.same
    c.scanned.ensures.read c.scanned.ensures.whole c.scanned.ensures.signs c.scanned.ensures.depth
