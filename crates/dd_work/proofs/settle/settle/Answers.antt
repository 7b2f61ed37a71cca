use Rattle.dd_work.proofs.Extending.{extend-both, extend-self, still-fit}
use Rattle.dd_work.proofs.settle.settle.Goals as goal

pub loop-init : goal.loop-init
loop-init c = (extend-self c.args.board.now, c.requires.free)

pub turn-requires-clause-fit : goal.turn-requires-clause-fit
turn-requires-clause-fit c = still-fit c.args.board.now c.loop.board c.loop.invariant.0 c.requires.fit

pub returns-in_err-turn-clause-extends : goal.returns-in_err-turn-clause-extends
returns-in_err-turn-clause-extends c = extend-both c.args.board.now c.loop.board c.turn.new.board c.loop.invariant.0 c.turn.ensures.extends

pub returns-then-not-branch-clause-extends : goal.returns-then-not-branch-clause-extends
returns-then-not-branch-clause-extends c = extend-both c.args.board.now c.loop.board c.turn.new.board c.loop.invariant.0 c.turn.ensures.extends

pub loop-preserved : goal.loop-preserved
loop-preserved c = (extend-both c.args.board.now c.loop.board c.turn.new.board c.loop.invariant.0 c.turn.ensures.extends, c.turn.ensures.free)
