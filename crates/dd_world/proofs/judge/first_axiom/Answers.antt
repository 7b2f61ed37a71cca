use Rattle.std.proofs.Common.{◌∙◌, sym, arith}
use Rattle.dd_world.specs.Sketches.{world_of}
use Rattle.dd_world.specs.Tests.{satisfies_axiom}
use Rattle.dd_world.proofs.Judging.{passed_none, passed_more, failing_at, failing_nowhere}
use Rattle.dd_world.proofs.judge.first_axiom.Goals as goal

pub loop-k-init : goal.loop-k-init
loop-k-init c = passed_none (satisfies_axiom (world_of c.args.s.now) c.args.peer) c.args.axioms.now

pub returns-then-not-branch : goal.returns-then-not-branch
returns-then-not-branch c = failing_at (satisfies_axiom (world_of c.args.s.now) c.args.peer) c.args.axioms.now c.loop-k.k c.index-axioms-k.result c.loop-k.invariant c.index-axioms-k.is
    (omega (arith, c.loop-k-test.true)) (sym c.in_ok-is_included.ensures ∙ c.if-not-branch.true)

pub loop-k-preserved : goal.loop-k-preserved
loop-k-preserved c = passed_more (satisfies_axiom (world_of c.args.s.now) c.args.peer) c.args.axioms.now c.loop-k.k c.index-axioms-k.result c.loop-k.invariant c.index-axioms-k.is
    (omega (arith, c.loop-k-test.true)) (sym c.in_ok-is_included.ensures ∙ c.if-not-branch.false)

pub returns : goal.returns
returns c = failing_nowhere (satisfies_axiom (world_of c.args.s.now) c.args.peer) c.args.axioms.now c.loop-k.k c.loop-k.invariant (omega (arith, c.loop-k-test.false))
