-- The union of a quiet session's parts, with links from raised keys, satisfies all axioms and all rules.
use Rattle.std.proofs.Common.{◌≡◌, ◌≢◌, ◌∙◌, ℕ, ◌+◌, ◌<◌, Bool, true, false, not, nat_eq, List, [], length, Option, None, Some, ap, refl, subst, sym, inl, inr, arith}
use Rattle.std.specs.List.{Contains, slice_get}
use Rattle.std.specs.Option.{option_map_or}
use Rattle.std.proofs.lemmas.Bool.{cases_Bool, eqb-true, eq-eqb, false≢true, not-true}
use Rattle.std.proofs.lemmas.Option.{slice_get_cases, slice_get_within, get_or_from_slice_get}
use Rattle.dd_concept.specs.declared.concept.Axiom.{Axiom}
use Rattle.dd_concept.specs.declared.concept.Concept.{Concept}
use Rattle.dd_concept.specs.Normal.{nnf_of, nnf_not_of}
use Rattle.dd_interp.specs.declared.interp.Interp.{Interp}
use Rattle.dd_interp.specs.Labels.{HasLabel}
use Rattle.dd_interp.specs.Meaning.{meaning}
use Rattle.dd_interp.proofs.NormalForms.{meaning-nnf_of, meaning-nnf_not_of}
use Rattle.dd_concept.proofs.Sets.{has-get_item}
use Rattle.dd_interp.specs.Satisfies.{SatisfiesAxiom}
use Rattle.dd_peer.specs.declared.version.PeerVersion.{PeerVersion}
use Rattle.dd_peer.specs.declared.version.Pinned.{Pinned}
use Rattle.dd_peer.specs.declared.version.Rule.{Rule}
use Rattle.dd_peer.specs.Rules.{rules_of, rules_from}
use Rattle.dd_world.specs.declared.world.World.{World}
use Rattle.dd_world.specs.Elements.{size_at, holds_at, HoldsAt}
use Rattle.dd_world.specs.World.{IsLink, IsWorld, SatisfiesAt, SatisfiesInto, SatisfiesOnto, SatisfiesWorld, IsCounter}
use Rattle.dd_world.proofs.Decided.{size_is, holds_is, local_of}
use Rattle.dd_task.specs.declared.job.Key.{Key}
use Rattle.dd_task.specs.declared.job.Key.TheVariants.{Asked}
use Rattle.dd_task.specs.Rules.{axioms_of, into_rules, onto_rules}
use Rattle.dd_task.specs.Goals.{goal_for, asked_label, root_label}
use Rattle.dd_task.specs.Targets.{in_target}
use Rattle.dd_task.specs.Demands.{false_into, IsRaised}
use Rattle.dd_task.proofs.Places.{All-at, All-from, at-behind, at-filter, passes_filter, before_filter, among_positions, among-at}
use Rattle.dd_task.proofs.Labels.{in_source, in_no_source}
use Rattle.dd_peer.specs.Relevant.{ComeFromBelow}
use Rattle.dd_board.specs.Fit.{IsPlaced}
use Rattle.dd_board.specs.View.{SessionView}
use Rattle.dd_board.specs.Standing.{IsQuiet, has_proof}
use Rattle.dd_board.proofs.Steps.{IsSoundView}
use Rattle.dd_union.specs.Union.{IsPart, IsJoint, IsUnionOf}
use Rattle.dd_union.proofs.Parts.{serves, root_part}

within-at : (A : Type 0) (xs : List A) (i : ℕ) → i < length xs → (x : A) × (slice_get xs i ≡ Some x)
within-at A xs i lt = elim ((slice_get_cases xs i).1) [
  | inl h ↦ (h.0, h.2)
  | inr h ↦ absurd (omega (arith, lt, h.0))
]

contains-at : (A : Type 0) (xs : List A) (k : ℕ) (x : A) → slice_get xs k ≡ Some x → Contains xs x
contains-at A xs k x e = (k, slice_get_within xs k x e, get_or_from_slice_get xs k x x e)

-- the rules of a pair, where the version is known
module _ (p : Pinned) (h i : ℕ) (version : PeerVersion) (at : slice_get p.peers i ≡ Some version) where
  into_are : into_rules p h i ≡ rules_from version.into h
  into_are = ap (λ o. option_map_or (λ (w : PeerVersion). rules_from w.into h) o []) at

  onto_are : onto_rules p h i ≡ rules_from version.onto h
  onto_are = ap (λ o. option_map_or (λ (w : PeerVersion). rules_from w.onto h) o []) at

  axioms_are : axioms_of p i ≡ version.axioms
  axioms_are = ap (λ o. option_map_or (λ (w : PeerVersion). w.axioms) o []) at

found_rule : (o : Option Rule) (f : Rule → Bool) → option_map_or f o false ≡ true → (r : Rule) × (o ≡ Some r) × (f r ≡ true)
found_rule None f e = cc
found_rule (Some r) f e = (r, refl, e)

module _ (v : SessionView) (s : IsSoundView v) (quiet : IsQuiet v) (start : ℕ → ℕ) (w : World) (fit : IsPlaced v.job)
    (union : IsUnionOf v start w) where
  abbrev p : Pinned
  p = v.job.pinned

  local_at : (i : ℕ) → i < length p.peers → (local : Interp) × (slice_get w.locals i ≡ Some local)
  local_at i lt = within-at Interp w.locals i (let e = union.one_each in omega (arith, e, lt))

  -- an element of a part keeps in the world what it has
  part_holds : (t i : ℕ) (m : Interp) (x : ℕ) (part : IsPart v t i m x) (y : ℕ) → y < m.size → (c : Concept)
      → holds_at w i (start t + y) c ≡ meaning m c y
  part_holds t i m x part y lt c =
      let local = local_at i (serves v s quiet t i m x part).declared in
      holds_is w i local.0 local.1 (start t + y) c ∙ (union.stands t i m x local.0 part local.1 y lt).1 c

  part_within : (t i : ℕ) (m : Interp) (x : ℕ) (part : IsPart v t i m x) (y : ℕ) → y < m.size → start t + y < size_at w i
  part_within t i m x part y lt =
      let local = local_at i (serves v s quiet t i m x part).declared in
      subst (λ n. start t + y < n) (sym (size_is w i local.0 local.1)) (union.stands t i m x local.0 part local.1 y lt).0

  -- the element that the part of a raised key was opened with has the key's label
  asked_holds : (u h i o : ℕ) (set : List ℕ) (n : Interp) (z : ℕ) (other : IsPart v u h n z) → other.task.key ≡ Asked h i o set
      → HasLabel n z (asked_label p h i o set)
  asked_holds u h i o set n z other k =
      subst (λ key. HasLabel n z (goal_for v.job key).label) k (serves v s quiet u h n z other).label

  -- ---- into rules

  module _ (link : ℕ × ℕ × ℕ × ℕ) (joint : IsJoint v start link) where
    abbrev set : List ℕ
    set = false_into p link.0 link.1 joint.m joint.y

    has_label : HasLabel joint.n joint.z (asked_label p link.0 link.1 joint.onto set)
    has_label = asked_holds joint.u link.0 link.1 joint.onto set joint.n joint.z joint.other (joint.asked ∙ joint.raised.asked)

    from_within : joint.z < joint.n.size
    from_within = (serves v s quiet joint.u link.0 joint.n joint.z joint.other).element

    -- where the source of an into rule holds at the start, its target holds at the end
    joint_into : (k : ℕ) (rule : Rule) → slice_get (into_rules p link.0 link.1) k ≡ Some rule
        → HoldsAt w link.0 link.2 rule.source → HoldsAt w link.1 link.3 rule.target
    joint_into k rule at holds =
        let source : meaning joint.n rule.source joint.z ≡ true =
        sym (part_holds joint.u link.0 joint.n joint.z joint.other joint.z from_within rule.source)
        ∙ ap (λ a. holds_at w link.0 a rule.source) (sym joint.from) ∙ holds in
        let target : holds_at w link.1 link.3 rule.target ≡ meaning joint.m rule.target joint.y =
        ap (λ b. holds_at w link.1 b rule.target) joint.to
        ∙ part_holds joint.t link.1 joint.m joint.x joint.part joint.y joint.element rule.target in
        elim (cases_Bool (meaning joint.m rule.target joint.y)) [
          | inl true_there ↦ target ∙ true_there
          | inr false_there ↦
              let place = among-at set k (among_positions Rule (λ r. not (in_target joint.m joint.y r)) (into_rules p link.0 link.1) k
              ∙ ap (λ o. option_map_or (λ r. not (in_target joint.m joint.y r)) o false) at ∙ ap not false_there) in
              absurd (false≢true (sym (in_no_source p link.0 link.1 joint.onto set joint.n joint.z has_label place.0 k rule place.1 at) ∙ source))
        ]

    -- a joint is a link
    joint_link : IsLink w link
    joint_link =
        let rule = found_rule (slice_get (onto_rules p link.0 link.1) joint.onto) (in_target joint.m joint.y) joint.raised.in_target in
        let version = within-at PeerVersion p.peers link.1 (serves v s quiet joint.t link.1 joint.m joint.x joint.part).declared in
        let there : slice_get (rules_from version.0.onto link.0) joint.onto ≡ Some rule.0 =
        ap (λ rules. slice_get rules joint.onto) (sym (onto_are p link.0 link.1 version.0 version.1)) ∙ rule.1 in
        let from : rule.0.from ≡ link.0 = eqb-true rule.0.from link.0 (passes_filter Rule (λ r. nat_eq r.from link.0) version.0.onto joint.onto rule.0 there) in
        let place = before_filter Rule (λ r. nat_eq r.from link.0) version.0.onto joint.onto rule.0 there in
        let other = All-at Rule (λ r. r.from ≢ link.1) (rules_of version.0) (length version.0.into + place.0) rule.0
        (fit.apart link.1 version.0 version.1) (at-behind Rule version.0.into version.0.onto place.0 ∙ place.1) in
        record {
          others = λ same. other (from ∙ same);
          from = subst (λ a. a < size_at w link.0) (sym joint.from)
              (part_within joint.u link.0 joint.n joint.z joint.other joint.z from_within);
          to = subst (λ b. b < size_at w link.1) (sym joint.to)
              (part_within joint.t link.1 joint.m joint.x joint.part joint.y joint.element);
        }

  joint_at : (k : ℕ) (link : ℕ × ℕ × ℕ × ℕ) → slice_get w.links k ≡ Some link → IsJoint v start link
  joint_at k link at = (union.links link).0 (contains-at (ℕ × ℕ × ℕ × ℕ) w.links k link at)

  module _ (j : ℕ) (version : PeerVersion) (at : slice_get p.peers j ≡ Some version) where
    into_holds : (q : ℕ) (rule : Rule) → slice_get version.into q ≡ Some rule → SatisfiesInto w j rule
    into_holds q rule place = All-from (ℕ × ℕ × ℕ × ℕ)
        (λ link. link.0 ≡ rule.from → link.1 ≡ j → HoldsAt w rule.from link.2 rule.source → HoldsAt w j link.3 rule.target) w.links (λ n link there from to holds.
        let version_at : slice_get p.peers link.1 ≡ Some version = ap (slice_get p.peers) to ∙ at in
        let k = at-filter Rule (λ r. nat_eq r.from link.0) version.into q rule place (eq-eqb rule.from link.0 (sym from)) in
        let rule_at : slice_get (into_rules p link.0 link.1) k.0 ≡ Some rule =
        ap (λ rules. slice_get rules k.0) (into_are p link.0 link.1 version version_at) ∙ k.1 in
        subst (λ i. HoldsAt w i link.3 rule.target) to
        (joint_into link (joint_at n link there) k.0 rule rule_at (subst (λ h. HoldsAt w h link.2 rule.source) (sym from) holds)))

    -- ---- onto rules

    onto_holds : (q : ℕ) (rule : Rule) → slice_get version.onto q ≡ Some rule → SatisfiesOnto w j rule
    onto_holds q rule place b within holds =
        let local = local_of w j b within in
        let c = union.covers j local.0 b local.1 (subst (λ n. b < n) (size_is w j local.0 local.1) within) in
        let t : ℕ = c.0 in
        let m : Interp = c.1 in
        let x : ℕ = c.2 in
        let y : ℕ = c.3 in
        let target : meaning m rule.target y ≡ true =
        sym (part_holds t j m x c.4 y c.5 rule.target) ∙ ap (λ a. holds_at w j a rule.target) (sym c.6) ∙ holds in
        let o = at-filter Rule (λ r. nat_eq r.from rule.from) version.onto q rule place (eq-eqb rule.from rule.from refl) in
        let rule_at : slice_get (onto_rules p rule.from j) o.0 ≡ Some rule =
        ap (λ rules. slice_get rules o.0) (onto_are p rule.from j version at) ∙ o.1 in
        let key : Key = Asked rule.from j o.0 (false_into p rule.from j m y) in
        let known = All-at Rule (λ r. r.from < length p.peers) (rules_of version) (length version.into + q) rule
        (All-at PeerVersion (ComeFromBelow (length p.peers)) p.peers j version fit.declared at) (at-behind Rule version.into version.onto q ∙ place) in
        let raised : IsRaised p j m y rule.from o.0 key = record {
          declared = known;
          in_target = ap (λ r. option_map_or (in_target m y) r false) rule_at ∙ target;
          asked = refl;
        } in
        let next = (serves v s quiet t j m x c.4).raises y rule.from o.0 key c.5 raised in
        let link : ℕ × ℕ × ℕ × ℕ = (rule.from, j, start next.0 + next.2, b) in
        let joint : IsJoint v start link = record {
          t = t;
          m = m;
          x = x;
          part = c.4;
          y = y;
          element = c.5;
          onto = o.0;
          key = key;
          raised = raised;
          u = next.0;
          among = next.5;
          n = next.1;
          z = next.2;
          other = next.3;
          asked = next.4;
          from = refl;
          to = c.6;
        } in
        let there = (union.links link).1 joint in
        let source : holds_at w rule.from (start next.0 + next.2) rule.source ≡ true =
        part_holds next.0 rule.from next.1 next.2 next.3 next.2 (serves v s quiet next.0 rule.from next.1 next.2 next.3).element rule.source
        ∙ in_source p rule.from j o.0 (false_into p rule.from j m y) next.1 next.2
        (asked_holds next.0 rule.from j o.0 (false_into p rule.from j m y) next.1 next.2 next.3 next.4) rule rule_at in
        (there.0, link, there.1, there.2, record { from = refl; to = refl; end = refl; source = source })

    -- ---- axioms

    axiom_holds : (q : ℕ) (a : Axiom) → slice_get version.axioms q ≡ Some a → SatisfiesAt w j a
    axiom_holds q a place b within left =
        let local = local_of w j b within in
        let c = union.covers j local.0 b local.1 (subst (λ n. b < n) (size_is w j local.0 local.1) within) in
        let there : slice_get (axioms_of p j) q ≡ Some a = ap (λ axioms. slice_get axioms q) (axioms_are p 0 j version at) ∙ place in
        let keeps : (d : Concept) → holds_at w j b d ≡ meaning c.1 d c.3 =
        λ d. ap (λ n. holds_at w j n d) c.6 ∙ part_holds c.0 j c.1 c.2 c.4 c.3 c.5 d in
        keeps a.right
        ∙ All-at Axiom (SatisfiesAxiom c.1) (axioms_of p j) q a (serves v s quiet c.0 j c.1 c.2 c.4).axioms there c.3 c.5 (sym (keeps a.left) ∙ left)

  world_satisfies : SatisfiesWorld p w
  world_satisfies j version at = record {
    axioms = All-from Axiom (SatisfiesAt w j) version.axioms (axiom_holds j version at);
    into = All-from Rule (SatisfiesInto w j) version.into (into_holds j version at);
    onto = All-from Rule (SatisfiesOnto w j) version.onto (onto_holds j version at);
  }

  is_world : IsWorld p w
  is_world = record {
    one_each = union.one_each;
    shaped = union.shaped;
    links = All-from (ℕ × ℕ × ℕ × ℕ) (IsLink w) w.links (λ k link at. joint_link link (joint_at k link at));
  }

  pub is_counter : has_proof v ≡ false → IsCounter p v.job.query w
  is_counter unproved =
      let r = root_part v s quiet unproved in
      let m : Interp = r.0 in
      let x : ℕ = r.1 in
      let facts = serves v s quiet 0 v.job.query.peer m x r.2 in
      let label : HasLabel m x (root_label v.job.query) = subst (λ key. HasLabel m x (goal_for v.job key).label) r.3 facts.label in
      let has_left : meaning m v.job.query.left x ≡ true =
      sym (meaning-nnf_of m v.job.query.left x)
      ∙ label (nnf_of v.job.query.left) (has-get_item (root_label v.job.query) 0 (nnf_of v.job.query.left) refl) in
      let lacks_right : meaning m v.job.query.right x ≡ false = not-true (meaning m v.job.query.right x)
      (sym (meaning-nnf_not_of m v.job.query.right x)
      ∙ label (nnf_not_of v.job.query.right) (has-get_item (root_label v.job.query) 1 (nnf_not_of v.job.query.right) refl)) in
      let keeps : (d : Concept) → holds_at w v.job.query.peer (start 0 + x) d ≡ meaning m d x =
      part_holds 0 v.job.query.peer m x r.2 x facts.element in
      record {
        world = is_world;
        satisfies = world_satisfies;
        element = (
          start 0 + x,
          record {
            within = part_within 0 v.job.query.peer m x r.2 x facts.element;
            has_left = keeps v.job.query.left ∙ has_left;
            lacks_right = λ e. false≢true (sym (keeps v.job.query.right ∙ lacks_right) ∙ e);
          },
        );
      }
