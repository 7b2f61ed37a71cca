-- What is reached from a goal is reached from each label with the same concepts.
use Rattle.std.proofs.Common.{◌≡◌, ◌∙◌, ℕ, zero, suc, ◌==◌, true, List, [], ◌∷◌, ◌++◌, Contains, refl, ap, sym, subst, arith}
use Rattle.std.specs.List.{flat_map}
use Rattle.std.proofs.Math.Logic.{∥∥₁_map}
use Rattle.std.proofs.lemmas.Bool.{or_right, eq-eqb, cond-true}
use Rattle.dd_concept.specs.declared.concept.Axiom.{Axiom}
use Rattle.dd_concept.specs.declared.concept.Concept.{Concept}
use Rattle.dd_concept.specs.Propagation.{Propagation}
use Rattle.dd_concept.specs.Reached.{Reached, IsReached, goal, saturated, step, successor}
use Rattle.dd_concept.specs.Same.{has, is_within, SameSet}
use Rattle.dd_concept.proofs.Sets.{has-append, within-from}
use Rattle.dd_rules.proofs.Closing.{closure-extra}
use Rattle.dd_task.specs.declared.job.Job.{Job}
use Rattle.dd_task.specs.Closure.{kept_targets, asked_by, asked_first, extra_for}
use Rattle.dd_task.specs.Goals.{root_label}
use Rattle.dd_task.specs.Rules.{axioms_of}
use Rattle.dd_graph.specs.View.{GraphView, concepts_in, props_at}
use Rattle.dd_task.specs.declared.job.Goal.{Goal}
use Rattle.dd_task.specs.declared.line.Prop.{Prop}
use Rattle.dd_task.specs.Targets.{propagations_of}
use Rattle.dd_run.specs.Fit.{closure_for}
use Rattle.dd_run.specs.Numbers.{IsRunFor}

-- the one item of a list
only-one : {A : Type 0} (x y : A) → Contains (x ∷ []) y → x ≡ y
only-one x y (zero, lt, e) = e
only-one x y (suc k, lt, e) = absurd (omega (arith, lt))

module _ (axioms : List Axiom) (props : List Propagation) (a b : List Concept) (same : SameSet a b) where
  from-same : (label : List Concept) → Reached axioms props (a ∷ []) label → Reached axioms props (b ∷ []) label
  from-same _ (goal from to m e) =
      goal b to (zero, omega arith, refl) (λ c. sym (same c) ∙ ap (λ l. has l c) (only-one a from m) ∙ e c)
  from-same _ (saturated from to r s) = saturated from to (from-same from r) s
  from-same _ (step from to choice c r clear calls m w) = step from to choice c (from-same from r) clear calls m w
  from-same _ (successor from to r c h clear m s) = successor from to r c (from-same from h) clear m s

  pub reached-same : (label : List Concept) → IsReached axioms props (a ∷ []) label → IsReached axioms props (b ∷ []) label
  reached-same label h = ∥∥₁_map h (from-same label)

-- what is reached in the graph of a run is reached from its goal over its view
pub reached-run : (job : Job) (wanted : Goal) (view : List Prop) (v : GraphView) (ws : List ℕ) → IsRunFor job wanted view v ws → (label : List Concept)
    → IsReached v.closure.axioms (props_at v) (concepts_in v ws ∷ []) label
    → IsReached (axioms_of job.pinned wanted.peer) (propagations_of job.pinned wanted.peer view) (wanted.label ∷ []) label
reached-run job wanted view v ws run label h =
    reached-same (axioms_of job.pinned wanted.peer) (propagations_of job.pinned wanted.peer view) (concepts_in v ws) wanted.label run.label label
    (subst (λ ps. IsReached (axioms_of job.pinned wanted.peer) ps (concepts_in v ws ∷ []) label) run.graph.props
    (subst (λ as'. IsReached as' (props_at v) (concepts_in v ws ∷ []) label) run.graph.axioms h))

-- the root's goal is within the closure of the query's peer
pub root-within : (job : Job) → is_within (root_label job.query) (closure_for job job.query.peer) ≡ true
root-within job = within-from (root_label job.query) (closure_for job job.query.peer) each
  where
    each : (c : Concept) → has (root_label job.query) c ≡ true → has (closure_for job job.query.peer) c ≡ true
    each c h =
        let first : asked_first job.query job.query.peer ≡ root_label job.query =
        cond-true (job.query.peer == job.query.peer) (root_label job.query) [] (eq-eqb job.query.peer job.query.peer refl) in
        let rest = flat_map (asked_by job.pinned job.query.peer) job.relevant in
        closure-extra (axioms_of job.pinned job.query.peer) (extra_for job job.query.peer) c
        (has-append (kept_targets job.pinned job.query.peer) (rest ++ asked_first job.query job.query.peer) c
        ∙ or_right (has (kept_targets job.pinned job.query.peer) c) (has (rest ++ asked_first job.query job.query.peer) c)
        (has-append rest (asked_first job.query job.query.peer) c
        ∙ or_right (has rest c) (has (asked_first job.query job.query.peer) c) (ap (λ l. has l c) first ∙ h)))
