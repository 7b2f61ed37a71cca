-- A right line holds in each world in which those before it hold, so what is derived follows.
use Rattle.std.proofs.Common.{◌≡◌, ◌∙◌, ◌⊎◌, ◌<◌, ◌-◌, ◌&&◌, ◌==◌, ◌++◌, sym, refl, ap, subst, ℕ, zero, suc, Bool, true, false, not, nat_le, List, [], ◌∷◌, map, take, All, Contains, length, slice_get, Option, None, Some, inl, inr, arith}
use Rattle.std.specs.List.{list_all}
use Rattle.std.specs.Option.{option_map_or}
use Rattle.std.proofs.lemmas.Bool.{false≢true, and_parts, cases_Bool, eqb-true}
use Rattle.std.proofs.lemmas.List.{append-nil, append_assoc}
use Rattle.std.proofs.lemmas.List.Elements.{All-nil, All-cons, All-head, All-tail, All-contains, All-filter, filter_passes}
use Rattle.std.proofs.lemmas.Option.{same_Some, slice_get_within, get_or_from_slice_get}
use Rattle.dd_concept.specs.declared.concept.Axiom.{Axiom}
use Rattle.dd_concept.specs.declared.concept.Concept.{Concept}
use Rattle.dd_concept.specs.declared.concept.Concept.TheOpen.{Concept-F}
use Rattle.dd_concept.specs.declared.concept.Concept.TheViews.{out-Concept}
use Rattle.dd_concept.specs.declared.concept.Concept.TheVariants.{Name, Not, And, Or, HasSome}
use Rattle.dd_concept.specs.Counts.{node_count, depth_of}
use Rattle.dd_concept.specs.Forms.{and_form, or_form, some_form, and_of, or_of, some_of}
use Rattle.dd_concept.specs.Normal.{nnf_of, nnf_not_of}
use Rattle.dd_concept.specs.Same.{has, is_within}
use Rattle.dd_concept.specs.Successor.{is_passed}
use Rattle.dd_concept.proofs.SameIs.{of_form, of_form-out}
use Rattle.dd_concept.proofs.Sets.{has-get_item, has-cases}
use Rattle.dd_interp.specs.declared.interp.Interp.{Interp}
use Rattle.dd_interp.specs.Labels.{HasLabel}
use Rattle.dd_interp.specs.Meaning.{meaning, Holds}
use Rattle.dd_interp.specs.Satisfies.{IsShaped, SatisfiesAxiom}
use Rattle.dd_interp.proofs.Claims.{bottom-claim, clash-claim, and-claim, or-claim, axiom-claim, cut-claim, successor-claim, label-within, with-within}
use Rattle.dd_interp.proofs.NormalForms.{meaning-nnf_of, meaning-nnf_not_of}
use Rattle.dd_peer.specs.Rules.{rules_from}
use Rattle.dd_peer.specs.declared.version.PeerVersion.{PeerVersion}
use Rattle.dd_peer.specs.declared.version.Pinned.{Pinned}
use Rattle.dd_peer.specs.declared.version.Query.{Query}
use Rattle.dd_peer.specs.declared.version.Rule.{Rule}
use Rattle.dd_task.specs.Claims.{Claim, claim_of}
use Rattle.dd_task.specs.declared.line.Line.{Line}
use Rattle.dd_task.specs.declared.line.Why.{Why}
use Rattle.dd_task.specs.declared.line.Why.TheVariants as why
use Rattle.dd_task.specs.Lines.{is_there, cites, cites_within, cites_targets, is_other, is_rising, rules_at, more_rules, sources_label, gives_reason, is_right, AreRightAfter}
use Rattle.dd_task.specs.Derives.{Derives}
use Rattle.dd_world.specs.declared.world.World.{World}
use Rattle.dd_world.specs.Elements.{IsElement, holds_at, HoldsAt}
use Rattle.dd_world.specs.World.{IsLink, IsWorld, SatisfiesAt, SatisfiesInto, SatisfiesOnto, LeadsTo, SatisfiesWorld, Follows}
use Rattle.dd_check.specs.Sound.{ClaimHolds}

there : {A : Type 0} (o : Option A) (t : A → Bool) → is_there o t ≡ true → (x : A) × (o ≡ Some x) × (t x ≡ true)
there None t h = absurd (false≢true h)
there (Some x) t h = (x, refl, h)

contains-get : {A : Type 0} (xs : List A) (k : ℕ) (x : A) → slice_get xs k ≡ Some x → Contains xs x
contains-get xs k x e = (k, slice_get_within xs k x e, get_or_from_slice_get xs k x x e)

push-cases : {A : Type 0} (xs : List A) (y : A) (n : ℕ) (x : A) → slice_get (xs ++ y ∷ []) n ≡ Some x → (slice_get xs n ≡ Some x) ⊎ (y ≡ x)
push-cases [] y zero x e = inr (same_Some y x e)
push-cases [] y (suc n) x e = cc
push-cases (z ∷ zs) y zero x e = inl e
push-cases (z ∷ zs) y (suc n) x e = push-cases zs y n x e

-- the parts that a form gives
and-is : (y : Concept-F Concept) (parts : Concept × Concept) → and_form y ≡ Some parts → of_form y ≡ And parts.0 parts.1
and-is (Concept-F.And c d) parts e = ap (λ (q : Concept × Concept). And q.0 q.1) (same_Some (c, d) parts e)
and-is _ parts e = cc

or-is : (y : Concept-F Concept) (parts : Concept × Concept) → or_form y ≡ Some parts → of_form y ≡ Or parts.0 parts.1
or-is (Concept-F.Or c d) parts e = ap (λ (q : Concept × Concept). Or q.0 q.1) (same_Some (c, d) parts e)
or-is _ parts e = cc

some-is : (y : Concept-F Concept) (part : ℕ × Concept) → some_form y ≡ Some part → of_form y ≡ HasSome part.0 part.1
some-is (Concept-F.HasSome r c) part e = ap (λ (q : ℕ × Concept). HasSome q.0 q.1) (same_Some (r, c) part e)
some-is _ part e = cc

rules_at-all : (P : Rule → Type 0) (rules : List Rule) (ks : List ℕ) (found : List Rule) → All P rules → rules_at rules ks ≡ Some found → All P found
rules_at-all P rules [] found h e = subst (All P) (same_Some [] found e) (All-nil P)
rules_at-all P rules (k ∷ ks) found h e = more (slice_get rules k) (rules_at rules ks) (contains-get rules k) (λ rest is. rules_at-all P rules ks rest h is) e
  where
    more : (o : Option Rule) (q : Option (List Rule)) → ((rule : Rule) → o ≡ Some rule → Contains rules rule) → ((rest : List Rule) → q ≡ Some rest → All P rest)
        → more_rules o q ≡ Some found → All P found
    more (Some rule) (Some rest) at all is = subst (All P) (same_Some (rule ∷ rest) found is)
        (All-cons P rule rest (All-contains P rules rule h (at rule refl)) (all rest refl))
    more (Some rule) None at all is = cc
    more None q at all is = cc

module _ (p : Pinned) (w : World) (world : IsWorld p w) (satisfied : SatisfiesWorld p w) where
  abbrev AllHold : List Claim → Type 0
  AllHold before = (n : ℕ) (claim : Claim) → slice_get before n ≡ Some claim → ClaimHolds w claim

  -- a cited label, which no element of the peer has
  cited : (before : List Claim) → AllHold before → (peer n : ℕ) (test : List Concept → Bool) → cites before peer n test ≡ true
      → (i : Interp) → slice_get w.locals peer ≡ Some i → (l : List Concept) × (test l ≡ true) × ((x : ℕ) → x < i.size → HasLabel i x l → ⊥)
  cited before h peer n test e i at =
      let found = there (slice_get before n) (λ claim. (claim.peer == peer) && test claim.label) e in
      let both = and_parts (found.0.peer == peer) (test found.0.label) found.2 in
      (found.0.label, both.1, h n found.0 found.1 i (ap (slice_get w.locals) (eqb-true found.0.peer peer both.0) ∙ at))

  holds-is : (peer x : ℕ) (i : Interp) (c : Concept) → slice_get w.locals peer ≡ Some i → holds_at w peer x c ≡ meaning i c x
  holds-is peer x i c at = ap (λ o. option_map_or (λ local. meaning local c x) o false) at

  size-is : (peer : ℕ) (i : Interp) → slice_get w.locals peer ≡ Some i → i.size ≡ option_map_or (λ (local : Interp). local.size) (slice_get w.locals peer) 0
  size-is peer i at = sym (ap (λ o. option_map_or (λ (local : Interp). local.size) o 0) at)

  -- what is satisfied at a peer is satisfied by its interpretation
  at-interpretation : (peer : ℕ) (i : Interp) → slice_get w.locals peer ≡ Some i → (a : Axiom) → SatisfiesAt w peer a → SatisfiesAxiom i a
  at-interpretation peer i at a h x lt left = sym (holds-is peer x i a.right at) ∙ h x (subst (λ n. x < n) (size-is peer i at) lt) (holds-is peer x i a.left at ∙ left)

  element-at : (o : Option Interp) (x : ℕ) → x < option_map_or (λ (local : Interp). local.size) o 0 → (i : Interp) × (o ≡ Some i) × (x < i.size)
  element-at None x lt = absurd (omega (arith, lt))
  element-at (Some i) x lt = (i, refl, lt)

  module _ (before : List Claim) (held : AllHold before) (peer : ℕ) (v : PeerVersion) (is_version : slice_get p.peers peer ≡ Some v)
      (label : List Concept) (i : Interp) (at : slice_get w.locals peer ≡ Some i) (x : ℕ) (lt : x < i.size) (has_label : HasLabel i x label) where
    -- no label that is cited for this peer is one of the element's
    refuted : (n : ℕ) (more : List Concept) → cites_within before peer n more ≡ true → HasLabel i x more → ⊥
    refuted n more e h =
        let found = cited before held peer n (λ l. is_within l more) e i at in
        found.2 x lt (label-within i x more found.0 found.1 h)

    either : (l r : List Concept) → HasLabel i x l ⊎ HasLabel i x r → (HasLabel i x l → ⊥) → (HasLabel i x r → ⊥) → ⊥
    either l r h f g = elim h [ inl a ↦ f a | inr b ↦ g b ]

    by-and : (n cite : ℕ) → gives_reason p before peer v label (why.And n cite) ≡ true → ⊥
    by-and n cite e =
        let at_n = there (slice_get label n) (λ c. is_there (and_of c) (λ parts. cites_within before peer cite (parts.0 ∷ parts.1 ∷ label))) e in
        let parts = there (and_of at_n.0) (λ parts. cites_within before peer cite (parts.0 ∷ parts.1 ∷ label)) at_n.2 in
        let is : at_n.0 ≡ And parts.0.0 parts.0.1 = sym (of_form-out at_n.0) ∙ and-is (out-Concept at_n.0) parts.0 parts.1 in
        let inside : has label (And parts.0.0 parts.0.1) ≡ true = subst (λ c. has label c ≡ true) is (has-get_item label n at_n.0 at_n.1) in
        let found = cited before held peer cite (λ l. is_within l (parts.0.0 ∷ parts.0.1 ∷ label)) parts.2 i at in
        found.2 x lt (and-claim i x label found.0 parts.0.0 parts.0.1 inside found.1 has_label)

    by-or : (n left right : ℕ) → gives_reason p before peer v label (why.Or n left right) ≡ true → ⊥
    by-or n left right e =
        let test : Concept × Concept → Bool = λ parts. cites_within before peer left (parts.0 ∷ label) && cites_within before peer right (parts.1 ∷ label) in
        let at_n = there (slice_get label n) (λ c. is_there (or_of c) test) e in
        let parts = there (or_of at_n.0) test at_n.2 in
        let is : at_n.0 ≡ Or parts.0.0 parts.0.1 = sym (of_form-out at_n.0) ∙ or-is (out-Concept at_n.0) parts.0 parts.1 in
        let inside : has label (Or parts.0.0 parts.0.1) ≡ true = subst (λ c. has label c ≡ true) is (has-get_item label n at_n.0 at_n.1) in
        let both = and_parts (cites_within before peer left (parts.0.0 ∷ label)) (cites_within before peer right (parts.0.1 ∷ label)) parts.2 in
        let l = cited before held peer left (λ c. is_within c (parts.0.0 ∷ label)) both.0 i at in
        let r = cited before held peer right (λ c. is_within c (parts.0.1 ∷ label)) both.1 i at in
        either l.0 r.0 (or-claim i x label l.0 r.0 parts.0.0 parts.0.1 inside l.1 r.1 has_label) (l.2 x lt) (r.2 x lt)

    by-axiom : (index left right : ℕ) → gives_reason p before peer v label (why.Axiom index left right) ≡ true → ⊥
    by-axiom index left right e =
        let test : Axiom → Bool = λ a. cites_within before peer left (nnf_not_of a.left ∷ label) && cites_within before peer right (nnf_of a.right ∷ label) in
        let a = there (slice_get v.axioms index) test e in
        let both = and_parts (cites_within before peer left (nnf_not_of a.0.left ∷ label)) (cites_within before peer right (nnf_of a.0.right ∷ label)) a.2 in
        let kept : SatisfiesAxiom i a.0 = at-interpretation peer i at a.0 (All-contains (SatisfiesAt w peer) v.axioms a.0 (satisfied peer v is_version).axioms (contains-get v.axioms index a.0 a.1)) in
        let l = cited before held peer left (λ c. is_within c (nnf_not_of a.0.left ∷ label)) both.0 i at in
        let r = cited before held peer right (λ c. is_within c (nnf_of a.0.right ∷ label)) both.1 i at in
        either l.0 r.0 (axiom-claim i x label l.0 r.0 a.0 kept lt l.1 r.1 has_label) (l.2 x lt) (r.2 x lt)

    by-cut : (on : Concept) (left right : ℕ) → gives_reason p before peer v label (why.Cut on left right) ≡ true → ⊥
    by-cut on left right e =
        let both = and_parts (nat_le (node_count on) 1000 && nat_le (depth_of on) 64)
        (cites_within before peer left (nnf_of on ∷ label) && cites_within before peer right (nnf_not_of on ∷ label)) e in
        let two = and_parts (cites_within before peer left (nnf_of on ∷ label)) (cites_within before peer right (nnf_not_of on ∷ label)) both.1 in
        let l = cited before held peer left (λ c. is_within c (nnf_of on ∷ label)) two.0 i at in
        let r = cited before held peer right (λ c. is_within c (nnf_not_of on ∷ label)) two.1 i at in
        either l.0 r.0 (cut-claim i x label l.0 r.0 on l.1 r.1 has_label) (l.2 x lt) (r.2 x lt)

    by-successor : (n cite : ℕ) → gives_reason p before peer v label (why.Successor n cite) ≡ true → ⊥
    by-successor n cite e =
        let test : ℕ × Concept → Bool = λ part. cites before peer cite (λ l. list_all (is_passed label part.0 part.1) l) in
        let at_n = there (slice_get label n) (λ c. is_there (some_of c) test) e in
        let part = there (some_of at_n.0) test at_n.2 in
        let is : at_n.0 ≡ HasSome part.0.0 part.0.1 = sym (of_form-out at_n.0) ∙ some-is (out-Concept at_n.0) part.0 part.1 in
        let inside : has label (HasSome part.0.0 part.0.1) ≡ true = subst (λ c. has label c ≡ true) is (has-get_item label n at_n.0 at_n.1) in
        let found = cited before held peer cite (λ l. list_all (is_passed label part.0.0 part.0.1) l) part.2 i at in
        let shaped : IsShaped i = All-contains IsShaped w.locals i world.shaped (contains-get w.locals peer i at) in
        let next = successor-claim i x part.0.0 part.0.1 label found.0 shaped inside found.1 has_label in
        found.2 next.0 next.1 next.2

    -- ---- bridges: an element at the other peer, from which a link leads here

    module _ (from : ℕ) (j : Interp) (at_j : slice_get w.locals from ≡ Some j) (y : ℕ) (link : ℕ × ℕ × ℕ × ℕ) (is_link : Contains w.links link)
        (starts : link.0 ≡ from) (ends : link.1 ≡ peer) (start : link.2 ≡ y) (end : link.3 ≡ x) where
      -- the element is in none of the sources, since no target is here
      outside : (into : List Rule) (each : List ℕ) → cites_targets before peer label into each ≡ true → All (SatisfiesInto w peer) into
          → All (λ (rule : Rule). (rule.from == from) ≡ true) into → HasLabel j y (map (λ (rule : Rule). nnf_not_of rule.source) into)
      outside [] each e kept come c h = absurd (false≢true h)
      outside (rule ∷ rules) [] e kept come c h = absurd (false≢true e)
      outside (rule ∷ rules) (n ∷ ns) e kept come c h =
          let both = and_parts (cites_within before peer n (nnf_of rule.target ∷ label)) (cites_targets before peer label rules ns) e in
          let rule_from : rule.from ≡ from = eqb-true rule.from from (All-head (λ (r : Rule). (r.from == from) ≡ true) rule rules come) in
          elim (cases_Bool (meaning j rule.source y)) [
            | inl t ↦
                let source : HoldsAt w rule.from link.2 rule.source =
                ap (λ k. holds_at w k link.2 rule.source) rule_from ∙ ap (λ k. holds_at w from k rule.source) start ∙ holds-is from y j rule.source at_j ∙ t in
                let target : HoldsAt w peer link.3 rule.target =
                All-contains (λ (l : ℕ × ℕ × ℕ × ℕ). l.0 ≡ rule.from → l.1 ≡ peer → HoldsAt w rule.from l.2 rule.source → HoldsAt w peer l.3 rule.target) w.links link
                (All-head (SatisfiesInto w peer) rule rules kept) is_link (starts ∙ sym rule_from) ends source in
                let here : Holds i x rule.target = sym (holds-is peer x i rule.target at) ∙ sym (ap (λ k. holds_at w peer k rule.target) end) ∙ target in
                let found = cited before held peer n (λ l. is_within l (nnf_of rule.target ∷ label)) both.0 i at in
                absurd (found.2 x lt (with-within i x (nnf_of rule.target) label found.0 (meaning-nnf_of i rule.target x ∙ here) has_label found.1))
            | inr f ↦ elim (has-cases c (nnf_not_of rule.source) (map (λ (r : Rule). nnf_not_of r.source) rules) h) [
              | inl e' ↦ subst (Holds j y) e' (meaning-nnf_not_of j rule.source y ∙ ap not f)
              | inr m ↦ outside rules ns both.1 (All-tail (SatisfiesInto w peer) rule rules kept) (All-tail (λ (r : Rule). (r.from == from) ≡ true) rule rules come) c m
            ]
          ]

    by-bridge : (from o : ℕ) (ks : List ℕ) (cite : ℕ) (each : List ℕ) → gives_reason p before peer v label (why.Bridge from o ks cite each) ≡ true → ⊥
    by-bridge from o ks cite each e =
        let into_test : Rule → List Rule → Bool = λ onto into. has label (nnf_of onto.target) && (cites_within before from cite (sources_label onto into) && cites_targets before peer label into each) in
        let onto_test : Rule → Bool = λ onto. is_there (rules_at (rules_from v.into from) ks) (into_test onto) in
        let first = and_parts (is_other p peer from) (is_rising ks && is_there (slice_get (rules_from v.onto from) o) onto_test) e in
        let second = and_parts (is_rising ks) (is_there (slice_get (rules_from v.onto from) o) onto_test) first.1 in
        let onto = there (slice_get (rules_from v.onto from) o) onto_test second.1 in
        let into = there (rules_at (rules_from v.into from) ks) (into_test onto.0) onto.2 in
        let third = and_parts (has label (nnf_of onto.0.target)) (cites_within before from cite (sources_label onto.0 into.0) && cites_targets before peer label into.0 each) into.2 in
        let fourth = and_parts (cites_within before from cite (sources_label onto.0 into.0)) (cites_targets before peer label into.0 each) third.1 in
        let version = satisfied peer v is_version in
        let in_rules = contains-get (rules_from v.onto from) o onto.0 onto.1 in
        let onto_from : onto.0.from ≡ from = eqb-true onto.0.from from
        (All-contains (λ (r : Rule). (r.from == from) ≡ true) (rules_from v.onto from) onto.0 (filter_passes (λ (r : Rule). r.from == from) v.onto) in_rules) in
        let kept_onto : SatisfiesOnto w peer onto.0 = All-contains (SatisfiesOnto w peer) (rules_from v.onto from) onto.0
        (All-filter (λ (r : Rule). r.from == from) (SatisfiesOnto w peer) v.onto version.onto) in_rules in
        let target : HoldsAt w peer x onto.0.target = holds-is peer x i onto.0.target at ∙ sym (meaning-nnf_of i onto.0.target x) ∙ has_label (nnf_of onto.0.target) third.0 in
        let element : IsElement w peer x = subst (λ (o : Option Interp). x < option_map_or (λ (local : Interp). local.size) o 0) (sym at) lt in
        let reached = kept_onto x element target in
        let link : ℕ × ℕ × ℕ × ℕ = reached.1 in
        let is_link : Contains w.links link = (reached.0, reached.2, reached.3) in
        let leads : LeadsTo w peer onto.0 x link = reached.4 in
        let starts : link.0 ≡ from = leads.from ∙ onto_from in
        let there_is = element-at (slice_get w.locals link.0) link.2 (All-contains (IsLink w) w.links link world.links is_link).from in
        let at_j : slice_get w.locals from ≡ Some there_is.0 = ap (slice_get w.locals) (sym starts) ∙ there_is.1 in
        let source : Holds there_is.0 link.2 onto.0.source = sym (holds-is from link.2 there_is.0 onto.0.source at_j) ∙ ap (λ k. holds_at w k link.2 onto.0.source) (sym onto_from) ∙ leads.source in
        let none = outside from there_is.0 at_j link.2 link is_link starts leads.to refl leads.end into.0 each fourth.1
        (rules_at-all (SatisfiesInto w peer) (rules_from v.into from) ks into.0 (All-filter (λ (r : Rule). r.from == from) (SatisfiesInto w peer) v.into version.into) into.1)
        (rules_at-all (λ (r : Rule). (r.from == from) ≡ true) (rules_from v.into from) ks into.0 (filter_passes (λ (r : Rule). r.from == from) v.into) into.1) in
        let found = cited before held from cite (λ l. is_within l (sources_label onto.0 into.0)) fourth.0 there_is.0 at_j in
        found.2 link.2 there_is.2 (with-within there_is.0 link.2 (nnf_of onto.0.source) (map (λ (r : Rule). nnf_not_of r.source) into.0) found.0
        (meaning-nnf_of there_is.0 onto.0.source link.2 ∙ source) none found.1)

    by-reason : (y : Why) → gives_reason p before peer v label y ≡ true → ⊥
    by-reason why.Bottom e = bottom-claim i x label e has_label
    by-reason (why.Clash a) e =
        let both = and_parts (has label (Name a)) (has label (Not (Name a))) e in clash-claim i x a label both.0 both.1 has_label
    by-reason (why.And n cite) e = by-and n cite e
    by-reason (why.Or n left right) e = by-or n left right e
    by-reason (why.Axiom index left right) e = by-axiom index left right e
    by-reason (why.Cut on left right) e = by-cut on left right e
    by-reason (why.Successor n cite) e = by-successor n cite e
    by-reason (why.Bridge from o ks cite each) e = by-bridge from o ks cite each e

  line-sound : (before : List Claim) → AllHold before → (line : Line) → is_right p before line ≡ true → ClaimHolds w (claim_of line)
  line-sound before held line e i at x lt has_label =
      let v = there (slice_get p.peers line.peer) (λ v. gives_reason p before line.peer v line.label line.why) e in
      by-reason before held line.peer v.0 v.1 line.label i at x lt has_label line.why v.2

  hold-push : (given : List Claim) (claim : Claim) → AllHold given → ClaimHolds w claim → AllHold (given ++ claim ∷ [])
  hold-push given claim h k n other e = elim (push-cases given claim n other e) [ inl at ↦ h n other at | inr is ↦ subst (ClaimHolds w) is k ]

  -- each of the lines holds
  pub lines-sound : (lines : List Line) (given : List Claim) → AllHold given → AreRightAfter p given lines
      → (k : ℕ) (line : Line) → slice_get lines k ≡ Some line → ClaimHolds w (claim_of line)
  lines-sound [] given h r k line e = cc
  lines-sound (l ∷ ls) given h r zero line e =
      line-sound given h line (subst (λ before. is_right p before line ≡ true) (append-nil given) (r zero line e))
  lines-sound (l ∷ ls) given h r (suc k) line e =
      let first : ClaimHolds w (claim_of l) = line-sound given h l (subst (λ before. is_right p before l ≡ true) (append-nil given) (r zero l refl)) in
      lines-sound ls (given ++ claim_of l ∷ []) (hold-push given (claim_of l) h first)
      (λ n other at. subst (λ before. is_right p before other ≡ true) (sym (append_assoc given (claim_of l ∷ []) (map claim_of (take n ls)))) (r (suc n) other at)) k line e

  none-given : AllHold []
  none-given n claim e = cc

-- it holds of the elements of the interpretation at the query's peer
follows-at : (p : Pinned) (q : Query) (lines : List Line) → Derives p q lines → (w : World) → IsWorld p w → SatisfiesWorld p w → (i : Interp) → slice_get w.locals q.peer ≡ Some i
    → (x : ℕ) → x < i.size → Holds i x q.left → Holds i x q.right
follows-at p q lines d w world satisfied i at x lt left = elim (cases_Bool (meaning i q.right x)) [
  | inl t ↦ t
  | inr f ↦
      let goal : List Concept = nnf_of q.left ∷ nnf_not_of q.right ∷ [] in
      let holds : HasLabel i x goal = λ c h. elim (has-cases c (nnf_of q.left) (nnf_not_of q.right ∷ []) h) [
        | inl e ↦ subst (Holds i x) e (meaning-nnf_of i q.left x ∙ left)
        | inr m ↦ elim (has-cases c (nnf_not_of q.right) [] m) [
          | inl e ↦ subst (Holds i x) e (meaning-nnf_not_of i q.right x ∙ ap not f)
          | inr n ↦ absurd (false≢true n)
        ]
      ] in
      let line = d.last.line in
      absurd (lines-sound p w world satisfied lines [] (none-given p w world satisfied) d.right (length lines - 1) line d.last.is_last i
      (ap (slice_get w.locals) d.last.at_peer ∙ at) x lt (label-within i x goal line.label d.last.within holds))
]

-- what lines derive follows
pub derived-follows : (p : Pinned) (q : Query) (lines : List Line) → Derives p q lines → Follows p q
derived-follows p q lines d w world satisfied x within left =
    let local = element-at p w world satisfied (slice_get w.locals q.peer) x within in
    holds-is p w world satisfied q.peer x local.0 q.right local.1
    ∙ follows-at p q lines d w world satisfied local.0 local.1 x local.2 (sym (holds-is p w world satisfied q.peer x local.0 q.left local.1) ∙ left)
