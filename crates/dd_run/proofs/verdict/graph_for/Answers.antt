use Rattle.std.proofs.Common.{All, sym, subst}
use Rattle.dd_interp.proofs.Results.{if_ok}
use Rattle.dd_rules.specs.Compiled.{IsProp}
use Rattle.dd_graph.specs.View.{view_of}
use Rattle.dd_run.proofs.Propagations.{numbers-fit}
use Rattle.dd_run.proofs.Runs.{graph-for, have-targets}
use Rattle.dd_run.proofs.verdict.graph_for.Goals as goal

pub props_for-requires : goal.props_for-requires
props_for-requires c = have-targets c.args.job.now c.args.peer c.args.view.now c.args.compiled c.requires.concepts

pub new-requires : goal.new-requires
new-requires c = subst (All (IsProp c.args.compiled.concepts)) (sym c.in_ok-props.ensures)
    (numbers-fit c.args.compiled.concepts c.args.job.now.pinned c.args.peer (have-targets c.args.job.now c.args.peer c.args.view.now c.args.compiled c.requires.concepts) c.args.view.now)

pub returns-clause-graph : goal.returns-clause-graph
returns-clause-graph c = if_ok c.new.result
    (λ g is. graph-for c.args.job.now c.args.peer c.args.view.now c.args.compiled c.requires.concepts (view_of g) c.in_ok-props.props is c.requires.axioms c.in_ok-props.ensures) c.new.ensures
