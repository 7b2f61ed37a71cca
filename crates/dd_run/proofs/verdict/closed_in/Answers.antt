use Rattle.std.proofs.Common.{ap, subst, sym}
use Rattle.dd_graph.specs.View.{concepts_in, is_some_rank, view_of}
use Rattle.dd_task.specs.Verdicts.{IsRightClosedBy}
use Rattle.dd_run.proofs.Closed.{close-fits, right-closed}
use Rattle.dd_run.proofs.verdict.closed_in.Goals as goal

pub lines_of-requires-clause-rank : goal.lines_of-requires-clause-rank
lines_of-requires-clause-rank c = ap is_some_rank c.requires.closed

pub lines_of-requires-clause-fits : goal.lines_of-requires-clause-fits
lines_of-requires-clause-fits c = close-fits c.args.job.now c.args.goal.now c.args.view.now (view_of c.args.g.now) c.args._label.now.words c.requires.run c.requires.view

pub returns : goal.returns
returns c =
    let v = view_of c.args.g.now in
    right-closed c.args.job.now c.args.goal.now c.args.view.now v c.args._label.now.words c.requires.run c.from_vec.result
    (subst (IsRightClosedBy c.args.job.now.pinned c.args.goal.now.peer c.args.view.now v.closure.concepts (concepts_in v c.args._label.now.words)) (sym c.from_vec.ensures)
    (c.in_ok-lines.ensures c.args._label.now.words c.requires.at))
