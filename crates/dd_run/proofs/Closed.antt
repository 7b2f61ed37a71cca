-- The lines of a closed goal are right.
use Rattle.std.proofs.Common.{◌≡◌, true, ℕ, List, All, subst}
use Rattle.dd_concept.specs.declared.concept.Concept.{Concept}
use Rattle.dd_concept.specs.Same.{is_within}
use Rattle.dd_concept.proofs.Sets.{within-same, within-trans}
use Rattle.dd_close.specs.Fits as close
use Rattle.dd_graph.specs.View.{GraphView, concepts_in}
use Rattle.dd_task.specs.declared.job.Goal.{Goal}
use Rattle.dd_task.specs.declared.job.Job.{Job}
use Rattle.dd_task.specs.declared.line.Line.{Line}
use Rattle.dd_task.specs.declared.line.Prop.{Prop}
use Rattle.dd_task.specs.Verdicts.{IsRightClosed, IsRightClosedBy}
use Rattle.dd_run.specs.Fit.{IsFitView, closure_for}
use Rattle.dd_run.specs.Numbers.{IsRunFor}
use Rattle.dd_run.proofs.LeastClosures.{closure-for-is}

module _ (job : Job) (goal : Goal) (view : List Prop) (v : GraphView) (ws : List ℕ) (run : IsRunFor job goal view v ws) where
  pub close-fits : IsFitView job.pinned goal.peer view → close.IsGraphFor job.pinned goal.peer view v
  close-fits fit = record { declared = fit.declared; axioms = run.graph.axioms; props = run.graph.props; each = fit.each; targets = fit.targets }

  pub right-closed : (lines : List Line) → IsRightClosedBy job.pinned goal.peer view v.closure.concepts (concepts_in v ws) lines → IsRightClosed job goal view lines
  right-closed lines by = record {
    closure = closure_for job goal.peer;
    is_closure = closure-for-is job goal.peer;
    by = record {
      right = by.right;
      own = by.own;
      inside = subst (λ (cs : List Concept). All (λ (line : Line). is_within line.label cs ≡ true) lines) run.graph.concepts by.inside;
      cuts = by.cuts;
      bridges = by.bridges;
      last = record {
        line = by.last.line;
        is_last = by.last.is_last;
        at_peer = by.last.at_peer;
        within = within-trans by.last.line.label (concepts_in v ws) goal.label by.last.within (within-same (concepts_in v ws) goal.label run.label);
      };
    };
  }
