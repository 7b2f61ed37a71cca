use Rattle.dd_graph.specs.View.{view_of}
use Rattle.dd_run.proofs.SpentRuns.{right-spent}
use Rattle.dd_run.proofs.verdict.spent_in.Goals as goal

pub returns : goal.returns
returns c =
    let kept = c.in_ok-spent_of.ensures in
    right-spent c.args._job.now c.args.goal.now c.args.view.now (view_of c.args.g.now) c.args._label.now.words c.requires.run c.known.ensures.graph c.known.ensures.distinct
    c.args.next c.requires.width c.width.ensures.packed c.requires.put c.requires.reached c.requires.absent c.in_ok-spent_of.field-0 kept.concepts kept.labels kept.next
    kept.peer kept.goals kept.props
