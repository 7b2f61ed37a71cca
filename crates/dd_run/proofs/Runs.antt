-- The graph of a run, before it and after.
use Rattle.std.proofs.Common.{◌≡◌, ◌∙◌, ◌≤◌, ◌+◌, ℕ, true, List, [], length, map, ap, sym, subst, arith}
use Rattle.std.specs.List.{flat_map}
use Rattle.dd_concept.specs.declared.concept.Concept.{Concept}
use Rattle.dd_concept.specs.Same.{has, is_within}
use Rattle.dd_rules.specs.Closure.{are_distinct}
use Rattle.dd_rules.specs.Compiled.{Closure}
use Rattle.dd_rules.specs.Compiled as compiled
use Rattle.dd_rules.specs.declared.props.Props.{Props}
use Rattle.dd_graph.specs.Decided.{NewAreReached}
use Rattle.dd_graph.specs.View.{GraphView, Keeps, concepts_in, props_at}
use Rattle.dd_task.specs.declared.job.Goal.{Goal}
use Rattle.dd_task.specs.declared.job.Job.{Job}
use Rattle.dd_task.specs.declared.job.Key.TheVariants.{Root}
use Rattle.dd_task.specs.declared.line.Prop.{Prop}
use Rattle.dd_task.specs.Goals.{goal_for}
use Rattle.dd_task.specs.Rules.{axioms_of}
use Rattle.dd_run.specs.Fit.{closure_for, HasFewConcepts, IsFitGoal}
use Rattle.dd_run.specs.Numbers.{HaveTargets, prop_numbers, AreNumbersOf, IsGraphFor, IsRunFor}
use Rattle.dd_run.proofs.Goals.{root-within}
use Rattle.dd_run.proofs.Numbering.{numbers-same}
use Rattle.dd_run.proofs.Propagations.{numbers-are}
use Rattle.dd_run.proofs.Targets.{closure-targets}

module _ (job : Job) (peer : ℕ) (view : List Prop) (closure : Closure) (concepts : closure.concepts ≡ closure_for job peer) where
  pub have-targets : HaveTargets job.pinned peer closure.concepts
  have-targets = subst (HaveTargets job.pinned peer) (sym concepts) (closure-targets job peer)

  -- a new graph of the closure and of the view's numbers
  pub graph-for : (v : GraphView) (props : Props) → v ≡ record { closure = closure; props = props; labels = []; entries = []; closed = 0 }
      → closure.axioms ≡ axioms_of job.pinned peer → props.list ≡ flat_map (prop_numbers closure.concepts job.pinned peer) view → IsGraphFor job peer view v
  graph-for v props is axioms numbers = record {
    concepts = ap (λ (w : GraphView). w.closure.concepts) is ∙ concepts;
    axioms = ap (λ (w : GraphView). w.closure.axioms) is ∙ axioms;
    props = ap props_at is ∙ ap (map (compiled.propagation_of closure.concepts)) numbers ∙ numbers-are closure.concepts job.pinned peer have-targets view;
  }

-- what holds of the graph after a decision
pub run-after : (job : Job) (goal : Goal) (view : List Prop) (old new : GraphView) (ws : List ℕ) → old.labels ≡ [] → IsGraphFor job goal.peer view old
    → is_within goal.label old.closure.concepts ≡ true → AreNumbersOf old.closure.concepts goal.label ws → are_distinct old.closure.concepts ≡ true
    → Keeps old new → length new.labels ≤ length old.labels + job.budget.expansions → NewAreReached old new ws → IsRunFor job goal view new ws
run-after job goal view old new ws empty graph inside numbers distinct kept few reached = record {
  graph = record {
    concepts = ap (λ (c : Closure). c.concepts) kept.closure ∙ graph.concepts;
    axioms = ap (λ (c : Closure). c.axioms) kept.closure ∙ graph.axioms;
    props = same-props ∙ graph.props;
  };
  label = λ c. ap (λ (k : Closure). has (concepts_by k) c) kept.closure ∙ numbers-same old.closure.concepts distinct goal.label ws inside numbers c;
  reached = λ k l e. reached k l (omega (arith, none)) e;
  few = omega (arith, few, none);
}
  where
    concepts_by : Closure → List Concept
    concepts_by k = concepts_in (record { closure = k; props = new.props; labels = []; entries = []; closed = 0 }) ws

    none : length old.labels ≡ 0
    none = ap length empty

    same-props : props_at new ≡ props_at old
    same-props = ap (λ (c : Closure). compiled.props_of c.concepts new.props) kept.closure ∙ ap (compiled.props_of old.closure.concepts) kept.props

-- the root's goal may be asked where the closure of the query's peer has few enough concepts
pub root-fit : (job : Job) (goal : Goal) → HasFewConcepts job job.query.peer → goal ≡ goal_for job Root → IsFitGoal job goal
root-fit job goal few is = subst (IsFitGoal job) (sym is) (record { few = few; inside = root-within job })
