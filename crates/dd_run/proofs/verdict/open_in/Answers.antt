use Rattle.dd_graph.specs.View.{view_of}
use Rattle.dd_run.proofs.Opened.{right-open}
use Rattle.dd_run.proofs.verdict.open_in.Goals as goal

pub returns : goal.returns
returns c = right-open c.args._job.now c.args._goal.now c.args._view.now (view_of c.args.g.now) c.args._label.now.words c.requires.run c.args.id c.requires.at
    c.in_ok-model.model c.in_ok-model.x c.in_ok-model._positions c.in_ok-model.ensures
