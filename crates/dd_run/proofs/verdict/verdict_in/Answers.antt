use Rattle.dd_graph.specs.View.{view_of}
use Rattle.dd_run.proofs.Runs.{run-after}
use Rattle.dd_run.proofs.verdict.verdict_in.Goals as goal

pub closed_in-requires-clause-run : goal.closed_in-requires-clause-run
closed_in-requires-clause-run c = run-after c.args.job.now c.args.goal.now c.args.view.now (view_of c.args.g.now) (view_of c.decide.new.self) c.args.label.now.words
    c.requires.empty c.requires.graph c.requires.inside c.requires.numbers c.known.ensures.distinct c.decide.ensures.kept c.decide.ensures.few c.decide.ensures.reached

pub open_in-requires-clause-run : goal.open_in-requires-clause-run
open_in-requires-clause-run c = run-after c.args.job.now c.args.goal.now c.args.view.now (view_of c.args.g.now) (view_of c.decide.new.self) c.args.label.now.words
    c.requires.empty c.requires.graph c.requires.inside c.requires.numbers c.known.ensures.distinct c.decide.ensures.kept c.decide.ensures.few c.decide.ensures.reached

pub spent_in-requires-clause-run : goal.spent_in-requires-clause-run
spent_in-requires-clause-run c = run-after c.args.job.now c.args.goal.now c.args.view.now (view_of c.args.g.now) (view_of c.decide.new.self) c.args.label.now.words
    c.requires.empty c.requires.graph c.requires.inside c.requires.numbers c.known.ensures.distinct c.decide.ensures.kept c.decide.ensures.few c.decide.ensures.reached
