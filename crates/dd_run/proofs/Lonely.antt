-- A verdict on the root's goal answers the query of a peer that is alone.
use Rattle.std.proofs.Common.{◌≡◌, ◌∙◌, ◌<◌, ℕ, zero, suc, true, List, [], ◌∷◌, length, All, ap, sym, subst, slice_get, Some}
use Rattle.std.specs.Option.{option_map_or}
use Rattle.std.proofs.lemmas.Bool.{false≢true, not-true}
use Rattle.std.proofs.lemmas.List.Elements.{All-nil, All-cons}
use Rattle.std.proofs.lemmas.Option.{same_Some}
use Rattle.dd_concept.specs.declared.concept.Axiom.{Axiom}
use Rattle.dd_concept.specs.Normal.{nnf_of, nnf_not_of}
use Rattle.dd_concept.proofs.Sets.{has-head, has-tail}
use Rattle.dd_interp.specs.declared.interp.Interp.{Interp}
use Rattle.dd_interp.specs.Meaning.{meaning}
use Rattle.dd_interp.specs.Satisfies.{IsShaped, SatisfiesAxiom, SatisfiesAxioms}
use Rattle.dd_interp.proofs.NormalForms.{meaning-nnf_of, meaning-nnf_not_of}
use Rattle.dd_peer.specs.declared.version.PeerVersion.{PeerVersion}
use Rattle.dd_peer.specs.declared.version.Rule.{Rule}
use Rattle.dd_task.specs.declared.job.Job.{Job}
use Rattle.dd_task.specs.declared.job.Key.TheVariants.{Root}
use Rattle.dd_task.specs.Goals.{goal_for, root_label}
use Rattle.dd_task.specs.Rules.{all_onto, axioms_of}
use Rattle.dd_task.specs.Verdicts.{IsRightClosed, IsRightOpen}
use Rattle.dd_task.proofs.Places.{All-at, All-from}
use Rattle.dd_world.specs.declared.world.World.{World}
use Rattle.dd_world.specs.Elements.{HoldsAt}
use Rattle.dd_world.specs.World.{IsLink, SatisfiesAt, SatisfiesInto, SatisfiesOnto, SatisfiesVersion, IsWorld, IsCounterexample, IsCounter}
use Rattle.dd_world.proofs.Decided.{size_is, holds_is}
use Rattle.dd_close.specs.Fits.{HasSmallTarget, IsPropInto}
use Rattle.dd_task.specs.declared.line.Line.{Line}
use Rattle.dd_concept.proofs.Sets.{within-has}
use Rattle.dd_concept.specs.Same.{is_within}
use Rattle.std.proofs.lemmas.Option.{slice_get-get_or}
use Rattle.std.proofs.Common.{get_or, refl, arith, Contains}
use Rattle.dd_run.specs.Answers.{IsRightNo, IsRightYes}
use Rattle.dd_run.specs.Fit.{IsAlone, IsFitView, closure_for}
use Rattle.dd_run.specs.Given.{AllComeFromGiven, IsWrittenInGiven}
use Rattle.dd_run.proofs.Givens.{closure-comes, name-given, role-given}
use Rattle.dd_run.proofs.Goals.{root-within}
use Rattle.dd_run.proofs.LeastClosures.{closure-for-is}

-- what an into rule asks of a link
abbrev KeepsInto : World → ℕ → Rule → ℕ × ℕ × ℕ × ℕ → Type 0
KeepsInto w j rule link = link.0 ≡ rule.from → link.1 ≡ j → HoldsAt w rule.from link.2 rule.source → HoldsAt w j link.3 rule.target

module _ (job : Job) (alone : IsAlone job) where
  asked-version : slice_get job.pinned.peers job.query.peer ≡ Some alone.version
  asked-version = ap (slice_get job.pinned.peers) alone.asked ∙ ap (λ vs. slice_get vs 0) alone.only

  axioms-are : axioms_of job.pinned job.query.peer ≡ alone.version.axioms
  axioms-are = ap (λ o. option_map_or (λ (v : PeerVersion). v.axioms) o []) asked-version

  -- without propagations the view is fit
  pub alone-fits : IsFitView job.pinned job.query.peer []
  alone-fits = record {
    declared = omega (arith, alone.asked, ap length alone.only);
    each = All-nil (IsPropInto job.pinned job.query.peer);
    targets = subst (All HasSmallTarget) (sym no-onto) (All-nil HasSmallTarget);
  }
    where
      no-onto : all_onto job.pinned job.query.peer ≡ []
      no-onto = ap (λ o. option_map_or (λ (v : PeerVersion). v.onto) o []) asked-version ∙ alone.no_onto

  -- ---- yes

  is-relevant : Contains job.relevant job.query.peer
  is-relevant = subst (λ i. Contains job.relevant i) (sym alone.asked) (subst (λ l. Contains l 0) (sym alone.relevant) (zero, omega arith, refl))

  -- the lines are in the concepts of the closure, which come from what is given
  comes-line : (lines : List Line) → IsRightClosed job (goal_for job Root) [] lines → All (λ (line : Line). AllComeFromGiven job line.label) lines
  comes-line lines closed = All-from Line (λ line. AllComeFromGiven job line.label) lines (λ k line e c h.
      let inside = within-has line.label closed.closure c (All-at Line (λ l. is_within l.label closed.closure ≡ true) lines k line closed.by.inside e) h in
      closure-comes job job.query.peer is-relevant c
      (within-has closed.closure (closure_for job job.query.peer) c (closed.is_closure.least (closure_for job job.query.peer) (closure-for-is job job.query.peer).is_closed) inside))

  pub derives : (lines : List Line) → IsRightClosed job (goal_for job Root) [] lines → IsRightYes job lines
  derives lines closed = record { derives = record { right = closed.by.right; last = closed.by.last }; closed = closed; given = comes-line lines closed }

  -- ---- no

  module _ (m : Interp) (x : ℕ) (right : IsRightOpen job (goal_for job Root) [] m x) (w : World) (locals : w.locals ≡ m ∷ []) (links : w.links ≡ []) where
    local-at : slice_get w.locals job.query.peer ≡ Some m
    local-at = ap (slice_get w.locals) alone.asked ∙ ap (λ ls. slice_get ls 0) locals

    is_world : IsWorld job.pinned w
    is_world = record {
      one_each = ap length locals ∙ sym (ap length alone.only);
      shaped = subst (All IsShaped) (sym locals) (All-cons IsShaped m [] right.shaped (All-nil IsShaped));
      links = subst (All (IsLink w)) (sym links) (All-nil (IsLink w));
    }

    world-axiom : (a : Axiom) → SatisfiesAxiom m a → SatisfiesAt w job.query.peer a
    world-axiom a given y lt left =
        holds_is w job.query.peer m local-at y a.right
        ∙ given y (subst (λ n. y < n) (size_is w job.query.peer m local-at) lt) (sym (holds_is w job.query.peer m local-at y a.left) ∙ left)

    world-axioms : All (SatisfiesAt w job.query.peer) alone.version.axioms
    world-axioms = All-from Axiom (SatisfiesAt w job.query.peer) alone.version.axioms (λ k a e.
        world-axiom a (All-at Axiom (SatisfiesAxiom m) alone.version.axioms k a (subst (SatisfiesAxioms m) axioms-are right.axioms) e))

    -- without links there is nothing that an into rule asks
    world-into : (j : ℕ) (rules : List Rule) → All (SatisfiesInto w j) rules
    world-into j rules = All-from Rule (SatisfiesInto w j) rules (λ k r e. subst (All (KeepsInto w j r)) (sym links) (All-nil (KeepsInto w j r)))

    world-version : SatisfiesVersion w job.query.peer alone.version
    world-version = record {
      axioms = world-axioms;
      into = world-into job.query.peer alone.version.into;
      onto = subst (All (SatisfiesOnto w job.query.peer)) (sym alone.no_onto) (All-nil (SatisfiesOnto w job.query.peer));
    }

    only-version : (j : ℕ) (v : PeerVersion) → slice_get (alone.version ∷ []) j ≡ Some v → SatisfiesVersion w j v
    only-version zero v e = subst (SatisfiesVersion w 0) (same_Some alone.version v e) (subst (λ i. SatisfiesVersion w i alone.version) alone.asked world-version)
    only-version (suc j) v e = cc

    counterexample : IsCounterexample w job.query x
    counterexample = record {
      within = subst (λ n. x < n) (sym (size_is w job.query.peer m local-at)) right.element;
      has_left = holds_is w job.query.peer m local-at x job.query.left ∙ sym (meaning-nnf_of m job.query.left x)
          ∙ right.label (nnf_of job.query.left) (has-head (nnf_of job.query.left) (nnf_not_of job.query.right ∷ []));
      lacks_right = λ h. false≢true (
          sym (not-true (meaning m job.query.right x) (sym (meaning-nnf_not_of m job.query.right x)
          ∙ right.label (nnf_not_of job.query.right) (has-tail (nnf_not_of job.query.right) (nnf_of job.query.left) (nnf_not_of job.query.right ∷ []) (has-head (nnf_not_of job.query.right) []))))
          ∙ sym (holds_is w job.query.peer m local-at x job.query.right) ∙ h);
    }

    counters : IsCounter job.pinned job.query w
    counters = record {
      world = is_world;
      satisfies = λ j v e. only-version j v (sym (ap (λ vs. slice_get vs j) alone.only) ∙ e);
      element = (x, counterexample);
    }

    given : IsWrittenInGiven job m
    given = record {
      names = λ k d lt. name-given job job.query.peer is-relevant m (root_label job.query) (root-within job) right.lean right.shaped (get_or m.names k d) k (slice_get-get_or m.names k d lt);
      roles = λ k d lt. role-given job job.query.peer is-relevant m (root_label job.query) (root-within job) right.lean (get_or m.roles k d) k (slice_get-get_or m.roles k d lt);
    }

    pub refutes : IsRightNo job w
    refutes = record {
      counter = counters;
      given = subst (All (IsWrittenInGiven job)) (sym locals) (All-cons (IsWrittenInGiven job) m [] given (All-nil (IsWrittenInGiven job)));
    }
