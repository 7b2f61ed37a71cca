-- All that is written in a derivation comes from what the job gives.
use Rattle.std.proofs.Common.{◌≡◌, ◌∙◌, ◌≤◌, ◌+◌, ◌&&◌, ℕ, true, List, [], ◌∷◌, ◌++◌, length, map, take, Some, ap, refl, subst, sym, arith}
use Rattle.std.specs.List.{All, slice_get, flat_map}
use Rattle.std.proofs.lemmas.Bool.{and_parts, or_left, false≢true}
use Rattle.dd_concept.specs.declared.concept.Concept.{Concept}
use Rattle.dd_concept.specs.declared.concept.Concept.TheVariants.{Name, Not}
use Rattle.dd_concept.specs.Same.{has, is_same}
use Rattle.dd_concept.proofs.SameIs.{is_same-is}
use Rattle.dd_concept.proofs.Sets.{has-append, has-get_item, within-has}
use Rattle.dd_peer.specs.declared.version.PeerVersion.{PeerVersion}
use Rattle.dd_peer.specs.declared.version.Rule.{Rule}
use Rattle.dd_peer.specs.Relevant.{is_in}
use Rattle.dd_task.specs.declared.job.Job.{Job}
use Rattle.dd_task.specs.declared.line.Line.{Line}
use Rattle.dd_task.specs.declared.line.Why.{Why}
use Rattle.dd_task.specs.declared.line.Why.TheVariants as why
use Rattle.dd_task.specs.Claims.{Claim, claim_of}
use Rattle.dd_task.specs.Lines.{gives_reason, is_right, AreRight}
use Rattle.dd_task.specs.Rules.{all_into, all_onto, axioms_of}
use Rattle.dd_task.specs.Verdicts.{cuts_target}
use Rattle.dd_task.proofs.Places.{All-at, All-from, among-at, at-append, at-behind, at-flat_map}
use Rattle.dd_board.specs.Legal.{empty_start}
use Rattle.dd_board.specs.View.{SessionView}
use Rattle.dd_trace.specs.Evidence.{IsInClosure, IsOwn, ShowsYes}
use Rattle.dd_run.specs.Fit.{closure_for}
use Rattle.dd_run.specs.Given.{AllComeFromGiven, ComesFromGiven, given_by, given_of, sides_by, sides_in}
use Rattle.dd_run.proofs.Givens.{closure-comes}
use Rattle.dd_run.proofs.LeastClosures.{closure-for-is}
use Rattle.dd_outcome.specs.Answers.{IsYes, written_by}
use Rattle.dd_outcome.proofs.Lists.{in-contains, one-of, only-one, there-is}

module _ (job : Job) (i : ℕ) (relevant : is_in job.relevant i ≡ true) where
  -- what is in the closure of a relevant peer comes from what is given
  pub inside-comes : (label : List Concept) → IsInClosure job i label → AllComeFromGiven job label
  inside-comes label inside c h =
      closure-comes job i (in-contains job.relevant i relevant) c
      (within-has label (closure_for job i) c (inside (closure_for job i) (closure-for-is job i).is_closed) h)

  -- the target of an onto rule that a relevant peer keeps is given
  target-given : (k : ℕ) (r : Rule) → slice_get (all_onto job.pinned i) k ≡ Some r → has (given_of job) r.target ≡ true
  target-given k r e =
      let sides = flat_map sides_in (axioms_of job.pinned i) in
      let rules = all_into job.pinned i ++ all_onto job.pinned i in
      let at_rule = at-behind Rule (all_into job.pinned i) (all_onto job.pinned i) k ∙ e in
      let at_side = at-flat_map Rule Concept sides_by rules (length (all_into job.pinned i) + k) 1 r r.target at_rule refl in
      let place = among-at job.relevant i relevant in
      let at_given = at-flat_map ℕ Concept (given_by job.pinned) job.relevant place.0 (length sides + at_side.0) i r.target place.1
      (at-behind Concept sides (flat_map sides_by rules) at_side.0 ∙ at_side.1) in
      has-get_item (given_of job) at_given.0 r.target
      (at-append Concept (flat_map (given_by job.pinned) job.relevant) (job.query.left ∷ job.query.right ∷ []) at_given.0 r.target at_given.1)

  target-comes : (k : ℕ) (r : Rule) → slice_get (all_onto job.pinned i) k ≡ Some r → ComesFromGiven job r.target
  target-comes k r e = record {
    source = r.target;
    given = target-given k r e;
    names = λ a h. h;
    roles = λ a h. h;
    small = λ nodes depth. (omega (arith, nodes), omega (arith, depth));
  }

  -- what a reason writes down
  module _ (before : List Claim) (peer : ℕ) (v : PeerVersion) (label : List Concept) (labels : AllComeFromGiven job label) where
    reason-comes : (w : Why) → gives_reason job.pinned before peer v label w ≡ true → cuts_target (all_onto job.pinned i) w ≡ true → AllComeFromGiven job (written_by w)
    reason-comes why.Bottom e f c h = absurd (false≢true h)
    reason-comes (why.Clash a) e f c h =
        let both = and_parts (has label (Name a)) (has label (Not (Name a))) e in
        subst (ComesFromGiven job) (only-one (Name a) c h) (labels (Name a) both.0)
    reason-comes (why.And n cite) e f c h = absurd (false≢true h)
    reason-comes (why.Or n first second) e f c h = absurd (false≢true h)
    reason-comes (why.Axiom n first second) e f c h = absurd (false≢true h)
    reason-comes (why.Cut on first second) e f c h =
        let found = one-of Rule (λ r. is_same r.target on) (all_onto job.pinned i) f in
        subst (ComesFromGiven job) (is_same-is found.1.target on found.3 ∙ only-one on c h) (target-comes found.0 found.1 found.2)
    reason-comes (why.Successor n cite) e f c h = absurd (false≢true h)
    reason-comes (why.Bridge g o set cite each) e f c h = absurd (false≢true h)

  written-comes : (before : List Claim) (line : Line) → is_right job.pinned before line ≡ true → AllComeFromGiven job line.label
      → cuts_target (all_onto job.pinned i) line.why ≡ true → AllComeFromGiven job (written_by line.why)
  written-comes before line right labels cuts =
      let version = there-is PeerVersion (slice_get job.pinned.peers line.peer) (λ v. gives_reason job.pinned before line.peer v line.label line.why) right in
      reason-comes before line.peer version.0 line.label labels line.why version.2 cuts

-- the derivation that a session shows which began with nothing
pub yes : (v : SessionView) (lines : List Line) → v.start ≡ empty_start v.job.pinned → ShowsYes v lines → IsYes v.job lines
yes v lines nothing shows = record {
  derives = shows.derives;
  relevant = shows.relevant;
  labels = All-from Line (λ line. AllComeFromGiven v.job line.label) lines label-comes;
  reasons = All-from Line (λ line. AllComeFromGiven v.job (written_by line.why)) lines (λ n line e.
      written-comes v.job line.peer (is-relevant n line e) (map claim_of (take n lines)) line (shows.derives.right n line e) (label-comes n line e) (is-own n line e).cuts);
}
  where
    is-relevant : (n : ℕ) (line : Line) → slice_get lines n ≡ Some line → is_in v.job.relevant line.peer ≡ true
    is-relevant n line e = All-at Line (λ l. is_in v.job.relevant l.peer ≡ true) lines n line shows.relevant e

    -- there are no lines that the session began with
    is-own : (n : ℕ) (line : Line) → slice_get lines n ≡ Some line → IsOwn v.job line
    is-own n line e =
        let one = shows.each n line e in
        one.own (subst (λ s. length s.lines ≤ one.place) (sym nothing) (omega arith))

    label-comes : (n : ℕ) (line : Line) → slice_get lines n ≡ Some line → AllComeFromGiven v.job line.label
    label-comes n line e = inside-comes v.job line.peer (is-relevant n line e) line.label (is-own n line e).inside
