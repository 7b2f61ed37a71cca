-- A right line of a peer holds in each model of its axioms and propagations in which the lines before it hold.
use Rattle.std.proofs.Common.{◌≡◌, ◌∙◌, ◌⊎◌, ◌<◌, ◌-◌, ◌&&◌, ◌||◌, ◌==◌, ◌≢◌, ◌++◌, sym, refl, ap, subst, ℕ, zero, suc, Bool, true, nat_le, IsTrue, List, [], ◌∷◌, map, take, All, Contains, length, slice_get, Option, None, Some, inl, inr, arith}
use Rattle.std.specs.List.{list_all, list_any}
use Rattle.std.specs.Option.{option_map_or}
use Rattle.std.specs.Str.{bytes_eq}
use Rattle.std.proofs.lemmas.Bool.{false≢true, and_parts, eqb-true, or_cases}
use Rattle.std.proofs.lemmas.List.{append-nil, append_assoc}
use Rattle.std.proofs.lemmas.Slice.Eq.{bytes_eq-Decides}
use Rattle.std.proofs.lemmas.List.Elements.{All-contains}
use Rattle.std.proofs.lemmas.Option.{same_Some, slice_get_within, get_or_from_slice_get}
use Rattle.dd_concept.specs.declared.concept.Axiom.{Axiom}
use Rattle.dd_concept.specs.declared.concept.Concept.{Concept}
use Rattle.dd_concept.specs.declared.concept.Concept.TheOpen.{Concept-F}
use Rattle.dd_concept.specs.declared.concept.Concept.TheViews.{out-Concept}
use Rattle.dd_concept.specs.declared.concept.Concept.TheVariants.{Name, Not, And, Or, HasSome}
use Rattle.dd_concept.specs.Counts.{node_count, depth_of}
use Rattle.dd_concept.specs.Forms.{and_form, or_form, some_form, and_of, or_of, some_of}
use Rattle.dd_concept.specs.Normal.{nnf_of, nnf_not_of}
use Rattle.dd_concept.specs.Same.{has, is_within}
use Rattle.dd_concept.specs.Successor.{is_passed}
use Rattle.dd_concept.proofs.SameIs.{of_form, of_form-out}
use Rattle.dd_concept.proofs.Sets.{has-get_item}
use Rattle.dd_interp.specs.declared.interp.Interp.{Interp}
use Rattle.dd_interp.specs.Labels.{HasLabel}
use Rattle.dd_interp.specs.Meaning.{meaning, Holds}
use Rattle.dd_interp.specs.Satisfies.{IsShaped, SatisfiesAxiom, SatisfiesAxioms}
use Rattle.dd_interp.proofs.Claims.{bottom-claim, clash-claim, and-claim, or-claim, axiom-claim, cut-claim, successor-claim, label-within, with-within}
use Rattle.dd_interp.proofs.NormalForms.{meaning-nnf_of}
use Rattle.dd_peer.specs.Rules.{rules_from}
use Rattle.dd_peer.specs.declared.version.PeerVersion.{PeerVersion}
use Rattle.dd_peer.specs.declared.version.Pinned.{Pinned}
use Rattle.dd_peer.specs.declared.version.Rule.{Rule}
use Rattle.dd_task.specs.Claims.{Claim, claim_of}
use Rattle.dd_task.specs.declared.line.Line.{Line}
use Rattle.dd_task.specs.declared.line.Prop.{Prop}
use Rattle.dd_task.specs.declared.line.Why.{Why}
use Rattle.dd_task.specs.declared.line.Why.TheVariants as why
use Rattle.dd_task.specs.Goals.{claim_of_prop, claims_of_view}
use Rattle.dd_task.specs.Lines.{is_there, cites, cites_within, cites_targets, is_other, is_rising, rules_at, more_rules, sources_label, gives_reason, is_right, AreRightAfter}
use Rattle.dd_task.specs.Rules.{axioms_of, into_rules, onto_rules}
use Rattle.dd_task.specs.Targets.{SatisfiesProp, in_into, in_onto, in_target}
use Rattle.dd_task.specs.Verdicts.{IsRightClosedBy, cites_view}
use Rattle.dd_close.specs.NotBoth.{NotBoth}

there : {A : Type 0} (o : Option A) (t : A → Bool) → is_there o t ≡ true → (x : A) × (o ≡ Some x) × (t x ≡ true)
there None t h = absurd (false≢true h)
there (Some x) t h = (x, refl, h)

contains-get : {A : Type 0} (xs : List A) (k : ℕ) (x : A) → slice_get xs k ≡ Some x → Contains xs x
contains-get xs k x e = (k, slice_get_within xs k x e, get_or_from_slice_get xs k x x e)

push-cases : {A : Type 0} (xs : List A) (y : A) (n : ℕ) (x : A) → slice_get (xs ++ y ∷ []) n ≡ Some x → (slice_get xs n ≡ Some x) ⊎ (y ≡ x)
push-cases [] y zero x e = inr (same_Some y x e)
push-cases [] y (suc n) x e = cc
push-cases (z ∷ zs) y zero x e = inl e
push-cases (z ∷ zs) y (suc n) x e = push-cases zs y n x e

and-is : (y : Concept-F Concept) (parts : Concept × Concept) → and_form y ≡ Some parts → of_form y ≡ And parts.0 parts.1
and-is (Concept-F.And c d) parts e = ap (λ (q : Concept × Concept). And q.0 q.1) (same_Some (c, d) parts e)
and-is _ parts e = cc

or-is : (y : Concept-F Concept) (parts : Concept × Concept) → or_form y ≡ Some parts → of_form y ≡ Or parts.0 parts.1
or-is (Concept-F.Or c d) parts e = ap (λ (q : Concept × Concept). Or q.0 q.1) (same_Some (c, d) parts e)
or-is _ parts e = cc

some-is : (y : Concept-F Concept) (part : ℕ × Concept) → some_form y ≡ Some part → of_form y ≡ HasSome part.0 part.1
some-is (Concept-F.HasSome r c) part e = ap (λ (q : ℕ × Concept). HasSome q.0 q.1) (same_Some (r, c) part e)
some-is _ part e = cc

is_true : (b : Bool) → b ≡ true → IsTrue b
is_true b e = e

from_true : (b : Bool) → IsTrue b → b ≡ true
from_true b h = h

same-bytes : (a b : List ℕ) → bytes_eq a b ≡ true → a ≡ b
same-bytes a b h = (bytes_eq-Decides a b).0 h

module _ (p : Pinned) (peer : ℕ) (view : List Prop) (m : Interp) (shaped : IsShaped m) (axioms : SatisfiesAxioms m (axioms_of p peer)) (props : All (SatisfiesProp p peer m) view) where
  Fails : List Concept → Type 0
  Fails label = (x : ℕ) → x < m.size → HasLabel m x label → ⊥

  -- no element has the label of a claim of the peer
  abbrev AllFail : List Claim → Type 0
  AllFail before = (n : ℕ) (claim : Claim) → slice_get before n ≡ Some claim → claim.peer ≡ peer → Fails claim.label

  cited : (before : List Claim) → AllFail before → (n : ℕ) (test : List Concept → Bool) → cites before peer n test ≡ true → (l : List Concept) × (test l ≡ true) × Fails l
  cited before h n test e =
      let found = there (slice_get before n) (λ claim. (claim.peer == peer) && test claim.label) e in
      let both = and_parts (found.0.peer == peer) (test found.0.label) found.2 in
      (found.0.label, both.1, h n found.0 found.1 (eqb-true found.0.peer peer both.0))

  module _ (before : List Claim) (held : AllFail before) (v : PeerVersion) (is_version : slice_get p.peers peer ≡ Some v) (label : List Concept) (x : ℕ) (lt : x < m.size) (has_label : HasLabel m x label) where
    either : (a b : List Concept) → HasLabel m x a ⊎ HasLabel m x b → Fails a → Fails b → ⊥
    unfolding Fails
    either a b h f g = elim h [ inl l ↦ f x lt l | inr r ↦ g x lt r ]

    into-fail : (rules : List Rule) (ks : List ℕ) (into : List Rule) (each : List ℕ) → rules_at rules ks ≡ Some into → cites_targets before peer label into each ≡ true
        → list_any (λ k. is_there (slice_get rules k) (in_target m x)) ks ≡ true → ⊥
    unfolding Fails
    into-fail rules [] into each e t h = false≢true h
    into-fail rules (k ∷ ks) into each e t h = by (into-fail rules ks) (slice_get rules k) refl (rules_at rules ks) refl into each e t h
      where
        by : ((into : List Rule) (each : List ℕ) → rules_at rules ks ≡ Some into → cites_targets before peer label into each ≡ true → list_any (λ j. is_there (slice_get rules j) (in_target m x)) ks ≡ true → ⊥)
            → (o : Option Rule) → o ≡ slice_get rules k → (q : Option (List Rule)) → q ≡ rules_at rules ks → (into : List Rule) (each : List ℕ) → more_rules o q ≡ Some into
            → cites_targets before peer label into each ≡ true → (is_there (slice_get rules k) (in_target m x) || list_any (λ j. is_there (slice_get rules j) (in_target m x)) ks) ≡ true → ⊥
        by again None o q r into each e t h = cc
        by again (Some rule) o None r into each e t h = cc
        by again (Some rule) o (Some rest) r [] each e t h = cc
        by again (Some rule) o (Some rest) r (first ∷ others) [] e t h = false≢true t
        by again (Some rule) o (Some rest) r (first ∷ others) (n ∷ ns) e t h =
            let same : rule ≡ first = cc in
            let rest_is : rest ≡ others = cc in
            let both = and_parts (cites_within before peer n (nnf_of first.target ∷ label)) (cites_targets before peer label others ns) t in
            elim (or_cases (is_there (slice_get rules k) (in_target m x)) (list_any (λ j. is_there (slice_get rules j) (in_target m x)) ks) h) [
              | inl here ↦
                  let holds : Holds m x first.target = subst (λ (y : Rule). in_target m x y ≡ true) same (ap (λ z. is_there z (in_target m x)) o ∙ here) in
                  let found = cited before held n (λ l. is_within l (nnf_of first.target ∷ label)) both.0 in
                  found.2 x lt (with-within m x (nnf_of first.target) label found.0 (meaning-nnf_of m first.target x ∙ holds) has_label found.1)
              | inr later ↦ again others ns (sym r ∙ ap Some rest_is) both.1 later
            ]

    by-and : (n cite : ℕ) → gives_reason p before peer v label (why.And n cite) ≡ true → ⊥
    unfolding Fails
    by-and n cite e =
        let test : Concept × Concept → Bool = λ parts. cites_within before peer cite (parts.0 ∷ parts.1 ∷ label) in
        let at_n = there (slice_get label n) (λ c. is_there (and_of c) test) e in
        let parts = there (and_of at_n.0) test at_n.2 in
        let is : at_n.0 ≡ And parts.0.0 parts.0.1 = sym (of_form-out at_n.0) ∙ and-is (out-Concept at_n.0) parts.0 parts.1 in
        let inside : has label (And parts.0.0 parts.0.1) ≡ true = subst (λ c. has label c ≡ true) is (has-get_item label n at_n.0 at_n.1) in
        let found = cited before held cite (λ l. is_within l (parts.0.0 ∷ parts.0.1 ∷ label)) parts.2 in
        found.2 x lt (and-claim m x label found.0 parts.0.0 parts.0.1 inside found.1 has_label)

    by-or : (n left right : ℕ) → gives_reason p before peer v label (why.Or n left right) ≡ true → ⊥
    by-or n left right e =
        let test : Concept × Concept → Bool = λ parts. cites_within before peer left (parts.0 ∷ label) && cites_within before peer right (parts.1 ∷ label) in
        let at_n = there (slice_get label n) (λ c. is_there (or_of c) test) e in
        let parts = there (or_of at_n.0) test at_n.2 in
        let is : at_n.0 ≡ Or parts.0.0 parts.0.1 = sym (of_form-out at_n.0) ∙ or-is (out-Concept at_n.0) parts.0 parts.1 in
        let inside : has label (Or parts.0.0 parts.0.1) ≡ true = subst (λ c. has label c ≡ true) is (has-get_item label n at_n.0 at_n.1) in
        let both = and_parts (cites_within before peer left (parts.0.0 ∷ label)) (cites_within before peer right (parts.0.1 ∷ label)) parts.2 in
        let a = cited before held left (λ l. is_within l (parts.0.0 ∷ label)) both.0 in
        let b = cited before held right (λ l. is_within l (parts.0.1 ∷ label)) both.1 in
        either a.0 b.0 (or-claim m x label a.0 b.0 parts.0.0 parts.0.1 inside a.1 b.1 has_label) a.2 b.2

    by-axiom : (index left right : ℕ) → gives_reason p before peer v label (why.Axiom index left right) ≡ true → ⊥
    by-axiom index left right e =
        let test : Axiom → Bool = λ a. cites_within before peer left (nnf_not_of a.left ∷ label) && cites_within before peer right (nnf_of a.right ∷ label) in
        let a = there (slice_get v.axioms index) test e in
        let both = and_parts (cites_within before peer left (nnf_not_of a.0.left ∷ label)) (cites_within before peer right (nnf_of a.0.right ∷ label)) a.2 in
        let all : axioms_of p peer ≡ v.axioms = ap (λ (o : Option PeerVersion). option_map_or (λ (w : PeerVersion). w.axioms) o []) is_version in
        let kept : SatisfiesAxiom m a.0 = All-contains (SatisfiesAxiom m) (axioms_of p peer) a.0 axioms (contains-get (axioms_of p peer) index a.0 (ap (λ xs. slice_get xs index) all ∙ a.1)) in
        let l = cited before held left (λ c. is_within c (nnf_not_of a.0.left ∷ label)) both.0 in
        let r = cited before held right (λ c. is_within c (nnf_of a.0.right ∷ label)) both.1 in
        either l.0 r.0 (axiom-claim m x label l.0 r.0 a.0 kept lt l.1 r.1 has_label) l.2 r.2

    by-cut : (on : Concept) (left right : ℕ) → gives_reason p before peer v label (why.Cut on left right) ≡ true → ⊥
    by-cut on left right e =
        let both = and_parts (nat_le (node_count on) 1000 && nat_le (depth_of on) 64)
        (cites_within before peer left (nnf_of on ∷ label) && cites_within before peer right (nnf_not_of on ∷ label)) e in
        let two = and_parts (cites_within before peer left (nnf_of on ∷ label)) (cites_within before peer right (nnf_not_of on ∷ label)) both.1 in
        let l = cited before held left (λ c. is_within c (nnf_of on ∷ label)) two.0 in
        let r = cited before held right (λ c. is_within c (nnf_not_of on ∷ label)) two.1 in
        either l.0 r.0 (cut-claim m x label l.0 r.0 on l.1 r.1 has_label) l.2 r.2

    by-successor : (n cite : ℕ) → gives_reason p before peer v label (why.Successor n cite) ≡ true → ⊥
    unfolding Fails
    by-successor n cite e =
        let test : ℕ × Concept → Bool = λ part. cites before peer cite (λ l. list_all (is_passed label part.0 part.1) l) in
        let at_n = there (slice_get label n) (λ c. is_there (some_of c) test) e in
        let part = there (some_of at_n.0) test at_n.2 in
        let is : at_n.0 ≡ HasSome part.0.0 part.0.1 = sym (of_form-out at_n.0) ∙ some-is (out-Concept at_n.0) part.0 part.1 in
        let inside : has label (HasSome part.0.0 part.0.1) ≡ true = subst (λ c. has label c ≡ true) is (has-get_item label n at_n.0 at_n.1) in
        let found = cited before held cite (λ l. list_all (is_passed label part.0.0 part.0.1) l) part.2 in
        let next = successor-claim m x part.0.0 part.0.1 label found.0 shaped inside found.1 has_label in
        found.2 next.0 next.1 next.2

    by-bridge : (from o : ℕ) (ks : List ℕ) (cite : ℕ) (each : List ℕ) → gives_reason p before peer v label (why.Bridge from o ks cite each) ≡ true
        → cites_view view (why.Bridge from o ks cite each) ≡ true → ⊥
    by-bridge from o ks cite each e by_view =
        let t = there (slice_get view cite) (λ (t : Prop). ((t.from == from) && (t.onto == o)) && bytes_eq t.into_set ks) by_view in
        let named = and_parts ((t.0.from == from) && (t.0.onto == o)) (bytes_eq t.0.into_set ks) t.2 in
        let numbers = and_parts (t.0.from == from) (t.0.onto == o) named.0 in
        let from_is = eqb-true t.0.from from numbers.0 in
        let onto_is = eqb-true t.0.onto o numbers.1 in
        let set_is = same-bytes t.0.into_set ks named.1 in
        let into_test : Rule → List Rule → Bool = λ onto into. has label (nnf_of onto.target) && (cites_within before from cite (sources_label onto into) && cites_targets before peer label into each) in
        let onto_test : Rule → Bool = λ onto. is_there (rules_at (rules_from v.into from) ks) (into_test onto) in
        let first = and_parts (is_other p peer from) (is_rising ks && is_there (slice_get (rules_from v.onto from) o) onto_test) e in
        let second = and_parts (is_rising ks) (is_there (slice_get (rules_from v.onto from) o) onto_test) first.1 in
        let onto = there (slice_get (rules_from v.onto from) o) onto_test second.1 in
        let into = there (rules_at (rules_from v.into from) ks) (into_test onto.0) onto.2 in
        let third = and_parts (has label (nnf_of onto.0.target)) (cites_within before from cite (sources_label onto.0 into.0) && cites_targets before peer label into.0 each) into.2 in
        let fourth = and_parts (cites_within before from cite (sources_label onto.0 into.0)) (cites_targets before peer label into.0 each) third.1 in
        let holds : meaning m onto.0.target x ≡ true = sym (meaning-nnf_of m onto.0.target x) ∙ has_label (nnf_of onto.0.target) third.0 in
        let all_onto_is : onto_rules p from peer ≡ rules_from v.onto from = ap (λ (q : Option PeerVersion). option_map_or (λ (w : PeerVersion). rules_from w.onto from) q []) is_version in
        let all_into_is : into_rules p from peer ≡ rules_from v.into from = ap (λ (q : Option PeerVersion). option_map_or (λ (w : PeerVersion). rules_from w.into from) q []) is_version in
        let posed : in_onto p from peer m x o ≡ true = ap (λ rs. is_there (slice_get rs o) (in_target m x)) all_onto_is ∙ ap (λ q. is_there q (in_target m x)) onto.1 ∙ holds in
        let asked : IsTrue (in_onto p t.0.from peer m x t.0.onto) =
        is_true (in_onto p t.0.from peer m x t.0.onto) (ap (λ h. in_onto p h peer m x t.0.onto) from_is ∙ ap (λ n. in_onto p from peer m x n) onto_is ∙ posed) in
        let kept : SatisfiesProp p peer m t.0 = All-contains (SatisfiesProp p peer m) view t.0 props (contains-get view cite t.0 t.1) in
        let some = from_true (list_any (in_into p t.0.from peer m x) t.0.into_set) (kept x lt asked) in
        into-fail (rules_from v.into from) ks into.0 each into.1 fourth.1
        (ap (λ rs. list_any (λ k. is_there (slice_get rs k) (in_target m x)) ks) (sym all_into_is) ∙ ap (λ set. list_any (in_into p from peer m x) set) (sym set_is) ∙ ap (λ h. list_any (in_into p h peer m x) t.0.into_set) (sym from_is) ∙ some)

    by-reason : (y : Why) → gives_reason p before peer v label y ≡ true → cites_view view y ≡ true → ⊥
    by-reason why.Bottom e w = bottom-claim m x label e has_label
    by-reason (why.Clash a) e w = let both = and_parts (has label (Name a)) (has label (Not (Name a))) e in clash-claim m x a label both.0 both.1 has_label
    by-reason (why.And n cite) e w = by-and n cite e
    by-reason (why.Or n left right) e w = by-or n left right e
    by-reason (why.Axiom index left right) e w = by-axiom index left right e
    by-reason (why.Cut on left right) e w = by-cut on left right e
    by-reason (why.Successor n cite) e w = by-successor n cite e
    by-reason (why.Bridge from o ks cite each) e w = by-bridge from o ks cite each e w

  line-fails : (before : List Claim) → AllFail before → (line : Line) → line.peer ≡ peer → is_right p before line ≡ true → cites_view view line.why ≡ true → Fails line.label
  unfolding Fails
  line-fails before held line own e w x lt has_label =
      let v = there (slice_get p.peers line.peer) (λ v. gives_reason p before line.peer v line.label line.why) e in
      by-reason before held v.0 (ap (slice_get p.peers) (sym own) ∙ v.1) line.label x lt has_label line.why
      (ap (λ i. gives_reason p before i v.0 line.label line.why) (sym own) ∙ v.2) w

  lines-fail : (lines : List Line) (given : List Claim) → AllFail given → AreRightAfter p given lines → All (λ (line : Line). line.peer ≡ peer) lines → All (λ (line : Line). cites_view view line.why ≡ true) lines
      → (k : ℕ) (line : Line) → slice_get lines k ≡ Some line → Fails line.label
  lines-fail [] given h r own w k line e = cc
  lines-fail (l ∷ ls) given h r own w zero line e =
      let is : l ≡ line = same_Some l line e in
      subst (λ (y : Line). Fails y.label) is (line-fails given h l (own zero l (omega arith)) (subst (λ before. is_right p before l ≡ true) (append-nil given) (r zero l refl)) (w zero l (omega arith)))
  lines-fail (l ∷ ls) given h r own w (suc k) line e =
      let first = line-fails given h l (own zero l (omega arith)) (subst (λ before. is_right p before l ≡ true) (append-nil given) (r zero l refl)) (w zero l (omega arith)) in
      lines-fail ls (given ++ claim_of l ∷ [])
      (λ n claim at is. elim (push-cases given (claim_of l) n claim at) [ inl old ↦ h n claim old is | inr new ↦ subst (λ (c : Claim). Fails c.label) new first ])
      (λ n other at. subst (λ before. is_right p before other ≡ true) (sym (append_assoc given (claim_of l ∷ []) (map claim_of (take n ls)))) (r (suc n) other at))
      (λ i d lt. own (suc i) d (omega (arith, lt))) (λ i d lt. w (suc i) d (omega (arith, lt))) k line e

  -- the claims of the view are of other peers
  given-fail : All (λ (t : Prop). t.from ≢ peer) view → AllFail (claims_of_view p peer view)
  given-fail others n claim e is = absurd (by view n others e)
    where
      by : (ts : List Prop) (n : ℕ) → All (λ (t : Prop). t.from ≢ peer) ts → slice_get (map (claim_of_prop p peer) ts) n ≡ Some claim → ⊥
      by [] n all f = cc
      by (t ∷ ts) zero all f = all zero t (omega arith) (ap (λ (c : Claim). c.peer) (same_Some (claim_of_prop p peer t) claim f) ∙ is)
      by (t ∷ ts) (suc n) all f = by ts n (λ i d lt. all (suc i) d (omega (arith, lt))) f

  pub closed-fails : All (λ (t : Prop). t.from ≢ peer) view → (closure label : List Concept) (lines : List Line) → IsRightClosedBy p peer view closure label lines → (x : ℕ) → x < m.size → HasLabel m x label → ⊥
  unfolding Fails
  closed-fails others closure label lines closed x lt h =
      lines-fail lines (claims_of_view p peer view) (given-fail others) closed.right closed.own closed.bridges (length lines - 1) closed.last.line closed.last.is_last x lt
      (label-within m x label closed.last.line.label closed.last.within h)

pub not-both : NotBoth
not-both p peer view closure label lines m x others closed model =
    closed-fails p peer view m model.shaped model.axioms model.props others closure label lines closed x model.element model.has_it
