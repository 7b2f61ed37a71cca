-- The reasons of lines as they are written down.
use Rattle.std.proofs.Common.{◌≡◌, ◌∙◌, ◌<◌, ◌≤◌, ◌+◌, ◌++◌, ◌&&◌, ◌==◌, sym, refl, ap, subst, ℕ, true, List, [], ◌∷◌, length, map, flat_map, slice_get, None, Some, Option, arith}
use Rattle.std.specs.Option.{option_map, option_map_or, option_to_list}
use Rattle.std.specs.Str.{bytes_eq}
use Rattle.std.proofs.lemmas.Bool.{and_from, eq-eqb}
use Rattle.std.proofs.lemmas.List.{length-map}
use Rattle.std.proofs.lemmas.Option.{same_Some, slice_get-map, slice_get_within}
use Rattle.dd_concept.specs.declared.concept.Concept.{Concept}
use Rattle.dd_concept.specs.Closed.{IsClosedFor}
use Rattle.dd_concept.specs.Normal.{nnf_of}
use Rattle.dd_concept.specs.Propagation.{Propagation}
use Rattle.dd_graph.specs.View.{GraphView, IsGraph, props_at, rules_at}
use Rattle.dd_peer.specs.declared.version.Pinned.{Pinned}
use Rattle.dd_peer.specs.declared.version.PeerVersion.{PeerVersion}
use Rattle.dd_peer.specs.declared.version.Rule.{Rule}
use Rattle.dd_rules.specs.Closure.{are_distinct}
use Rattle.dd_rules.specs.Compiled as compiled
use Rattle.dd_rules.specs.Forced.{is_clash}
use Rattle.dd_rules.specs.Numbers.{PropNumbers, place_of, prop_numbers}
use Rattle.dd_rules.specs.declared.clash.Clash.TheVariants as way_out
use Rattle.dd_rules.specs.declared.shape.Step.TheVariants as way
use Rattle.dd_rules.proofs.Growing.{place-at}
use Rattle.dd_rules.proofs.Lifting.{there}
use Rattle.dd_set.specs.Sets.{numbers}
use Rattle.dd_set.specs.Words.{has}
use Rattle.dd_table.proofs.Numbering.{bytes_eq-same}
use Rattle.dd_task.specs.declared.line.Prop.{Prop}
use Rattle.dd_task.specs.declared.line.Why.TheVariants as why
use Rattle.dd_task.specs.Lines.{is_there}
use Rattle.dd_task.specs.Rules.{onto_rules}
use Rattle.dd_task.specs.Targets.{propagation_of, targets_by}
use Rattle.dd_close.specs.Drafts.{IsByAnd, IsByChoice, IsBySuccessor}
use Rattle.dd_close.specs.Fits.{IsGraphFor, IsPropInto}
use Rattle.dd_close.specs.Writes.{IsVersionOf, IsWhy}
use Rattle.dd_close.proofs.Bridging.{IsPlaced, cut-target, passed, placed, why-bridge, why-cut}
use Rattle.dd_close.proofs.Choices.{All-at}
use Rattle.dd_close.proofs.Writing.{why-and, why-axiom, why-bottom, why-clash, why-or, why-successor}

module _ (p : Pinned) (peer : ℕ) (view : List Prop) (version : PeerVersion) (v : GraphView) (graph : IsGraph v) (distinct : are_distinct v.closure.concepts ≡ true)
    (closed : IsClosedFor v.closure.axioms (props_at v) v.closure.concepts) (fits : IsGraphFor p peer view v) (is_version : IsVersionOf p peer version) where
  abbrev cs : List Concept
  cs = v.closure.concepts

  axioms-are : v.closure.axioms ≡ version.axioms
  axioms-are = fits.axioms ∙ ap (λ (o : Option PeerVersion). option_map_or (λ (x : PeerVersion). x.axioms) o []) is_version.is_it

  module _ (labels : List (List ℕ)) (k : ℕ) (l : List ℕ) where
    pub is-bottom : is_clash (rules_at v) (has l) way_out.Bottom ≡ true → IsWhy p peer view version v labels k l why.Bottom
    is-bottom h = record { right = why-bottom p peer view version v distinct closed labels k l h; cuts = refl; bridges = refl }

    pub is-clash : (a : ℕ) → is_clash (rules_at v) (has l) (way_out.Name a) ≡ true → IsWhy p peer view version v labels k l (why.Clash a)
    is-clash a h = record { right = why-clash p peer view version v distinct closed labels k l a h; cuts = refl; bridges = refl }

    pub is-and : (ns : List ℕ) (at cite place n : ℕ) → ns ≡ numbers l (length cs) → slice_get ns place ≡ Some at → n ≡ length view + cite → IsByAnd (rules_at v) labels k (has l) at cite
        → IsWhy p peer view version v labels k l (why.And place n)
    is-and ns at cite place n are e is h = subst (λ m. IsWhy p peer view version v labels k l (why.And place m)) (sym is)
        (record { right = why-and p peer view version v distinct closed labels k l at cite place h (ap (λ xs. slice_get xs place) (sym are) ∙ e); cuts = refl; bridges = refl })

    pub is-successor : (ns : List ℕ) (at cite place n : ℕ) → ns ≡ numbers l (length cs) → slice_get ns place ≡ Some at → n ≡ length view + cite → IsBySuccessor (rules_at v) labels k (has l) at cite
        → IsWhy p peer view version v labels k l (why.Successor place n)
    is-successor ns at cite place n are e is h = subst (λ m. IsWhy p peer view version v labels k l (why.Successor place m)) (sym is)
        (record {
          right = why-successor p peer view version v distinct closed labels k l at cite place h (ap (λ xs. slice_get xs place) (sym are) ∙ e)
              (passed p peer view version v distinct closed fits is_version.is_it labels k l);
          cuts = refl;
          bridges = refl;
        })

    pub is-or : (ns : List ℕ) (at left right place n m : ℕ) → ns ≡ numbers l (length cs) → slice_get ns place ≡ Some at → n ≡ length view + left → m ≡ length view + right
        → IsByChoice (rules_at v) labels k (has l) (way.Or at) (left ∷ right ∷ []) → IsWhy p peer view version v labels k l (why.Or place n m)
    is-or ns at left right place n m are e is same h =
        subst (λ i. IsWhy p peer view version v labels k l (why.Or place i m)) (sym is) (subst (λ i. IsWhy p peer view version v labels k l (why.Or place (length view + left) i)) (sym same)
        (record { right = why-or p peer view version v distinct closed labels k l at left right place h (ap (λ xs. slice_get xs place) (sym are) ∙ e); cuts = refl; bridges = refl }))

    pub is-axiom : (index left right n m : ℕ) → n ≡ length view + left → m ≡ length view + right → IsByChoice (rules_at v) labels k (has l) (way.Axiom index) (left ∷ right ∷ [])
        → IsWhy p peer view version v labels k l (why.Axiom index n m)
    is-axiom index left right n m is same h =
        subst (λ i. IsWhy p peer view version v labels k l (why.Axiom index i m)) (sym is) (subst (λ i. IsWhy p peer view version v labels k l (why.Axiom index (length view + left) i)) (sym same)
        (record { right = why-axiom p peer view version v distinct closed labels k l index left right h axioms-are; cuts = refl; bridges = refl }))

    -- ---- propagations

    short : (ts : List Prop) → length (flat_map (propagation_of p peer) ts) ≤ length ts
    short [] = omega arith
    short (t ∷ ts) = by (slice_get (onto_rules p t.from peer) t.onto) (short ts)
      where
        by : (o : Option Rule) → length (flat_map (propagation_of p peer) ts) ≤ length ts
            → length (option_to_list (option_map (targets_by p peer t) o) ++ flat_map (propagation_of p peer) ts) ≤ length (t ∷ ts)
        by None rest = omega (arith, rest)
        by (Some r) rest = omega (arith, rest)

    pub view-long : (j : ℕ) (q : Propagation) → slice_get (props_at v) j ≡ Some q → j < length view
    view-long j q e =
        let low = slice_get_within (props_at v) j q e in
        omega (arith, low, ap length fits.props, short view)

    pub prop-low : (j : ℕ) (q : ℕ × ℕ × List ℕ) → slice_get v.props.list j ≡ Some q → j < length view
    prop-low j q e = view-long j (compiled.propagation_of cs q) (slice_get-map (compiled.propagation_of cs) v.props.list j ∙ ap (option_map (compiled.propagation_of cs)) e)

    pub bridge-low : (j : ℕ) (cites : List ℕ) → IsByChoice (rules_at v) labels k (has l) (way.Bridge j) cites → j < length view
    bridge-low j cites h =
        let found = there (slice_get (rules_at v).props j) (λ (t : PropNumbers). true) h.step in
        let low = slice_get_within (rules_at v).props j found.0 found.1 in
        omega (arith, low, length-map (props_at v) (prop_numbers cs), ap length fits.props, short view)

    pub is-cut : (n left right j m i : ℕ) (q : ℕ × ℕ × List ℕ) (t : Prop) (rule : Rule) (on : Concept) → slice_get v.props.list j ≡ Some q → q.0 ≡ n → slice_get view j ≡ Some t
        → slice_get (onto_rules p t.from peer) t.onto ≡ Some rule → on ≡ rule.target → m ≡ length view + left → i ≡ length view + right
        → IsByChoice (rules_at v) labels k (has l) (way.Cut n) (left ∷ right ∷ []) → IsWhy p peer view version v labels k l (why.Cut on m i)
    is-cut n left right j m i q t rule on at number at_view at_rule is first second h =
        subst (λ c. IsWhy p peer view version v labels k l (why.Cut c m i)) (sym is)
        (subst (λ a. IsWhy p peer view version v labels k l (why.Cut rule.target a i)) (sym first) (subst (λ a. IsWhy p peer view version v labels k l (why.Cut rule.target (length view + left) a)) (sym second)
        (record { right = why-cut p peer view version v distinct closed fits is_version.is_it labels k l n left right j t here h place; cuts = cut-target p peer view version v distinct closed fits is_version.is_it t rule at_rule; bridges = refl })))
      where
        old : IsPlaced p peer view version v distinct closed fits is_version.is_it j t
        old = placed p peer view version v distinct closed fits is_version.is_it j t at_view

        same : old.onto ≡ rule
        same = same_Some old.onto rule (sym old.rule ∙ at_rule)

        here : IsPlaced p peer view version v distinct closed fits is_version.is_it j t
        here = record { onto = rule; rule = at_rule; prop = old.prop ∙ ap (λ r. Some (targets_by p peer t r)) same; into = old.into }

        target : compiled.concept_at cs q.0 ≡ nnf_of rule.target
        target = ap (λ (x : Propagation). x.onto) (same_Some (compiled.propagation_of cs q) (targets_by p peer t rule)
            (sym (slice_get-map (compiled.propagation_of cs) v.props.list j ∙ ap (option_map (compiled.propagation_of cs)) at) ∙ here.prop))

        place : place_of cs (nnf_of rule.target) ≡ n
        place = ap (place_of cs) (sym target) ∙ place-at cs q.0 distinct (All-at (compiled.IsProp cs) v.props.list j q graph.fit at).onto ∙ number

    pub is-bridge : (j : ℕ) (cites : List ℕ) (t : Prop) (set each : List ℕ) → slice_get view j ≡ Some t → set ≡ t.into_set → each ≡ map (λ m. length view + m) cites
        → IsByChoice (rules_at v) labels k (has l) (way.Bridge j) cites → IsWhy p peer view version v labels k l (why.Bridge t.from t.onto set j each)
    is-bridge j cites t set each at set_is each_is h =
        subst (λ a. IsWhy p peer view version v labels k l (why.Bridge t.from t.onto a j each)) (sym set_is) (subst (λ a. IsWhy p peer view version v labels k l (why.Bridge t.from t.onto t.into_set j a)) (sym each_is)
        (record {
          right = why-bridge p peer view version v distinct closed fits is_version.is_it labels k l j cites t at h;
          cuts = refl;
          bridges = ap (λ o. is_there o (λ (x : Prop). ((x.from == t.from) && (x.onto == t.onto)) && bytes_eq x.into_set t.into_set)) at
              ∙ and_from ((t.from == t.from) && (t.onto == t.onto)) (bytes_eq t.into_set t.into_set) (and_from (t.from == t.from) (t.onto == t.onto) (eq-eqb t.from t.from refl) (eq-eqb t.onto t.onto refl)) (bytes_eq-same t.into_set);
        }))

    -- the propagation at a place of the view is into the peer
    pub onto-low : (j : ℕ) (t : Prop) → slice_get view j ≡ Some t → t.onto < length (onto_rules p t.from peer)
    onto-low j t e = (All-at (IsPropInto p peer) view j t fits.each e).onto
