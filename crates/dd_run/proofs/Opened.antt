-- The model of an open goal is right.
use Rattle.std.proofs.Common.{◌≡◌, ◌∙◌, ◌==◌, ◌<◌, ◌≤◌, ℕ, true, false, List, [], ◌∷◌, length, get_or, ap, subst, arith, slice_get, Some}
use Rattle.std.proofs.lemmas.Bool.{ne_eqb}
use Rattle.std.proofs.lemmas.List.{length-map}
use Rattle.std.proofs.lemmas.Map.Keys.{IsDistinct-from_apart}
use Rattle.std.proofs.lemmas.Option.{slice_get-get_or}
use Rattle.dd_interp.specs.declared.interp.Interp.{Interp}
use Rattle.dd_interp.specs.Lean.{IsLeanBy}
use Rattle.dd_interp.specs.Propagations.{SatisfiesPropagations}
use Rattle.dd_interp.specs.Satisfies.{SatisfiesAxioms}
use Rattle.dd_set.specs.Marked.{is_among}
use Rattle.dd_set.proofs.Arrivals.{once-few, place_among}
use Rattle.dd_graph.specs.View.{GraphView, IsAt, concepts_in}
use Rattle.dd_open.specs.Models.{IsModelAt, labels_of, words_at}
use Rattle.dd_task.specs.declared.job.Goal.{Goal}
use Rattle.dd_task.specs.declared.job.Job.{Job}
use Rattle.dd_task.specs.declared.line.Prop.{Prop}
use Rattle.dd_task.specs.Rules.{axioms_of}
use Rattle.dd_task.specs.Targets.{propagations_of}
use Rattle.dd_task.specs.Verdicts.{IsRightOpen}
use Rattle.dd_task.proofs.Satisfied.{satisfied-props}
use Rattle.dd_run.specs.Numbers.{IsRunFor}
use Rattle.dd_run.proofs.Goals.{reached-run}

-- different positions below a bound are no more than that
few-positions : (ns : List ℕ) (bound : ℕ) → ((k n : ℕ) → slice_get ns k ≡ Some n → n < bound)
    → ((j k n : ℕ) → slice_get ns j ≡ Some n → slice_get ns k ≡ Some n → j ≡ k) → length ns ≤ bound
few-positions ns bound below once = once-few bound ns (IsDistinct-from_apart (λ a b. a == b) ns apart) low
  where
    apart : (i j d : ℕ) → i < j → j < length ns → (get_or ns i d == get_or ns j d) ≡ false
    apart i j d lt within = ne_eqb (get_or ns i d) (get_or ns j d)
        (λ e. let one = once i j (get_or ns j d) (slice_get-get_or ns i d (omega (arith, lt, within)) ∙ ap Some e) (slice_get-get_or ns j d within) in
        absurd (omega (arith, one, lt)))

    low : (n : ℕ) → is_among n ns ≡ true → n < bound
    low n h = let at = place_among n ns h in below at.0 n (slice_get-get_or ns at.0 0 at.1 ∙ ap Some at.2)

module _ (job : Job) (goal : Goal) (view : List Prop) (v : GraphView) (ws : List ℕ) (run : IsRunFor job goal view v ws) (id : ℕ) (at : IsAt v id ws)
    (m : Interp) (x : ℕ) (elements : List ℕ) (model : IsModelAt v id m x elements) where
  lean-by : IsLeanBy (axioms_of job.pinned goal.peer) (propagations_of job.pinned goal.peer view) (goal.label ∷ []) m (labels_of v elements)
  lean-by =
      let lean = model.lean ws at in
      record {
        one_each = lean.one_each;
        distinct = lean.distinct;
        reached = λ y l e. reached-run job goal view v ws run l (lean.reached y l e);
        names = lean.names;
        roles = lean.roles;
      }

  few : m.size ≤ job.budget.expansions
  few = omega (
    arith,
    (model.lean ws at).one_each,
    length-map elements (λ q. concepts_in v (words_at v q)),
    few-positions elements (length v.labels) model.within model.distinct,
    run.few,
  )

  pub right-open : IsRightOpen job goal view m x
  right-open = record {
    shaped = model.model.shaped;
    axioms = subst (SatisfiesAxioms m) run.graph.axioms model.model.axioms;
    props = satisfied-props job.pinned goal.peer m view (subst (SatisfiesPropagations m) run.graph.props model.model.propagations);
    element = model.element;
    label = λ c h. model.label ws at c (run.label c ∙ h);
    few = few;
    lean = ∣ (labels_of v elements, lean-by) ∣₁;
  }
