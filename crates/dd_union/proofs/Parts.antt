-- What the parts of a quiet session's union have.
use Rattle.std.proofs.Common.{◌≡◌, ◌∙◌, ℕ, ◌<◌, List, true, false, length, ap, refl, subst, sym}
use Rattle.std.specs.Option.{option_map_or}
use Rattle.std.proofs.lemmas.Bool.{false≢true}
use Rattle.std.proofs.lemmas.Option.{same_Some}
use Rattle.dd_interp.specs.declared.interp.Interp.{Interp}
use Rattle.dd_interp.specs.Labels.{HasLabel}
use Rattle.dd_interp.specs.Satisfies.{IsShaped, SatisfiesAxioms}
use Rattle.dd_task.specs.declared.job.Key.{Key}
use Rattle.dd_task.specs.declared.job.Key.TheVariants.{Root}
use Rattle.dd_task.specs.Rules.{axioms_of}
use Rattle.dd_task.specs.Goals.{goal_for, peer_of}
use Rattle.dd_task.specs.Keys.{is_among}
use Rattle.dd_task.specs.Demands.{IsRaised, false_into}
use Rattle.dd_task.proofs.KeyLists.{raised-there}
use Rattle.dd_board.specs.declared.event.Event.TheVariants.{Opened}
use Rattle.dd_board.specs.View.{Task, SessionView}
use Rattle.dd_board.specs.Standing.{IsQuiet, has_proof, is_proved}
use Rattle.dd_board.proofs.Sound.{IsOpened}
use Rattle.dd_board.proofs.Steps.{IsSoundView}
use Rattle.dd_board.proofs.Soundness.{peer_declared}
use Rattle.dd_board.proofs.Quiet.{IsOpenTask, root_is_open}
use Rattle.dd_union.proofs.Raised.{next_is_open}
use Rattle.dd_union.specs.Union.{IsPart}

same_model : (t u n k : ℕ) (m l : Interp) (x y : ℕ) → Opened t n m x ≡ Opened u k l y → (m ≡ l) × (x ≡ y)
same_model t u n k m l x y e = (cc, cc)

module _ (v : SessionView) (s : IsSoundView v) (quiet : IsQuiet v) where
  -- the element x of the model m of peer i has the label of the key, and what the model raises has parts of its own
  pub record Serves (key : Key) (raised : List ℕ) (i : ℕ) (m : Interp) (x : ℕ) : Type 0 where
    pub declared : i < length v.job.pinned.peers
    pub shaped : IsShaped m
    pub axioms : SatisfiesAxioms m (axioms_of v.job.pinned i)
    pub element : x < m.size
    pub label : HasLabel m x (goal_for v.job key).label
    pub raises : (y h o : ℕ) (asked : Key) → y < m.size → IsRaised v.job.pinned i m y h o asked
        → (u : ℕ) × (n : Interp) × (z : ℕ) × (other : IsPart v u h n z) × (other.task.key ≡ asked) × (is_among raised u ≡ true)

  -- an open wanted task is a part
  part_of : (h u : ℕ) (other : Task) (o : IsOpenTask v u other) → peer_of v.job other.key ≡ h
      → (n : Interp) × (z : ℕ) × (part : IsPart v u h n z) × (part.task.key ≡ other.key)
  part_of h u other o at =
      let opening = (s.each u other o.at).opened o.event o.asks o.seen o.is_open in (
        opening.model,
        opening.element,
        record {
          wanted = o.wanted;
          task = other;
          at = o.at;
          peer = at;
          event = o.event;
          raised = o.asks;
          seen = o.seen;
          is_open = o.is_open;
          posted = opening.t;
          number = opening.number;
          opened = opening.journalled;
        },
        refl,
      )

  serves_open : (t : ℕ) (task : Task) (o : IsOpenTask v t task) (opening : IsOpened v.job v.tasks v.props v.journal task.key o.event o.asks o.seen)
      → Serves task.key o.asks (peer_of v.job task.key) opening.model opening.element
  serves_open t task o opening = record {
    declared = peer_declared v.job task.key (s.each t task o.at).declared;
    shaped = opening.right.shaped;
    axioms = opening.right.axioms;
    element = opening.right.element;
    label = opening.right.label;
    raises = λ y h n asked lt r.
        let there = raised-there v.job.pinned (peer_of v.job task.key) opening.model y h n asked lt r in
        let next = opening.raises there.0 asked there.1 in
        let is_open = next_is_open v s quiet t task o next.0 next.1 next.2 next.3 h n
        (false_into v.job.pinned h (peer_of v.job task.key) opening.model y) (next.4 ∙ r.asked) in
        let part = part_of h next.0 next.1 is_open (ap (peer_of v.job) (next.4 ∙ r.asked)) in
        (next.0, part.0, part.1, part.2, part.3 ∙ next.4, next.2);
  }

  pub serves : (t i : ℕ) (m : Interp) (x : ℕ) (part : IsPart v t i m x) → Serves part.task.key part.raised i m x
  serves t i m x part =
      let o : IsOpenTask v t part.task = record {
        wanted = part.wanted;
        at = part.at;
        event = part.event;
        asks = part.raised;
        seen = part.seen;
        is_open = part.is_open;
      } in
      let opening : IsOpened v.job v.tasks v.props v.journal part.task.key part.event part.raised part.seen =
      (s.each t part.task part.at).opened part.event part.raised part.seen part.is_open in
      let same = same_model opening.t part.posted opening.number part.number opening.model m opening.element x
      (same_Some (Opened opening.t opening.number opening.model opening.element) (Opened part.posted part.number m x)
      (sym opening.journalled ∙ part.opened)) in
      subst (λ j. Serves part.task.key part.raised j m x) part.peer
      (subst (λ y. Serves part.task.key part.raised (peer_of v.job part.task.key) m y) same.1
      (subst (λ n. Serves part.task.key part.raised (peer_of v.job part.task.key) n opening.element) same.0
      (serves_open t part.task o opening)))

  -- the root is a part, unless it is proved
  pub root_part : has_proof v ≡ false → (m : Interp) × (x : ℕ) × (part : IsPart v 0 v.job.query.peer m x) × (part.task.key ≡ Root)
  root_part unproved =
      let open_root = root_is_open v s quiet s.root s.first (λ line e.
      false≢true (sym unproved ∙ ap (λ o. option_map_or (λ (task : Task). is_proved task.state) o false) s.first ∙ ap is_proved e)) in
      let part = part_of v.job.query.peer 0 s.root open_root (ap (peer_of v.job) s.asks_query) in
      (part.0, part.1, part.2, part.3 ∙ s.asks_query)
