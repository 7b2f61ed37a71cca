-- Cuts, bridges and restrictions of lines in numbers are right in concepts.
use Rattle.std.proofs.Common.{◌≡◌, ◌∙◌, ◌<◌, ◌+◌, ◌++◌, ◌||◌, ◌&&◌, ◌==◌, sym, refl, ap, subst, ℕ, zero, suc, Bool, true, nat_le, List, [], ◌∷◌, All, length, map, filter, flat_map, slice_get, Some, Option, inl, inr, arith}
use Rattle.std.specs.List.{list_any, list_all, find}
use Rattle.std.specs.Option.{option_map, option_map_or, option_to_list}
use Rattle.std.proofs.lemmas.Bool.{false≢true, or_cases, or_left, or_right, and_from, eqb-true, eq-eqb, cases_Bool, cond-true, cond-false, le-leb}
use Rattle.std.proofs.lemmas.Option.{same_Some, slice_get-map}
use Rattle.std.proofs.lemmas.List.{length-map}
use Rattle.std.proofs.lemmas.List.Elements.{All-filter}
use Rattle.dd_concept.specs.declared.concept.Concept.{Concept}
use Rattle.dd_concept.specs.Closed.{HasTargets, IsClosedFor}
use Rattle.dd_concept.specs.Counts.{node_count, depth_of}
use Rattle.dd_concept.specs.Normal.{nnf_of, nnf_not_of}
use Rattle.dd_concept.specs.Propagation.{Propagation}
use Rattle.dd_concept.specs.Same.{has as has_concept, is_same, is_within}
use Rattle.dd_concept.specs.Successor.{is_passed}
use Rattle.dd_concept.proofs.NormalForms.{nnf_not_of-nnf_of}
use Rattle.dd_concept.proofs.SameIs.{is-is_same}
use Rattle.dd_concept.proofs.Sets.{has-head, has-tail, within-refl}
use Rattle.dd_graph.specs.Right.{adding}
use Rattle.dd_graph.specs.View.{GraphView, concepts_in, props_at, rules_at}
use Rattle.dd_graph.proofs.Lists.{place_at as item}
use Rattle.dd_peer.specs.declared.version.Pinned.{Pinned}
use Rattle.dd_peer.specs.declared.version.PeerVersion.{PeerVersion}
use Rattle.dd_peer.specs.declared.version.Rule.{Rule}
use Rattle.dd_peer.specs.Rules.{rules_from}
use Rattle.dd_rules.specs.Closure.{are_distinct}
use Rattle.dd_rules.specs.Least.{Implies}
use Rattle.dd_rules.specs.Numbers.{PropNumbers, additions, any_at, is_all, place_of, prop_numbers}
use Rattle.dd_rules.specs.declared.shape.Step.TheVariants as way
use Rattle.dd_rules.proofs.Lifting.{successor-lifts}
use Rattle.dd_rules.proofs.Numbered.{at-place, at-within}
use Rattle.dd_set.specs.Words.{has}
use Rattle.dd_task.specs.Claims.{Claim}
use Rattle.dd_task.specs.declared.line.Prop.{Prop}
use Rattle.dd_task.specs.declared.line.Why.TheVariants as why
use Rattle.dd_task.specs.Goals.{asked_label, claim_of_prop, claims_of_view, no_source_at, no_source_of}
use Rattle.dd_task.specs.Lines.{cites_targets, cites_within, gives_reason, is_other, is_rising, is_there, more_rules, sources_label}
use Rattle.dd_task.specs.Lines as lines
use Rattle.dd_task.specs.Rules.{all_onto, into_rules, onto_rules}
use Rattle.dd_task.specs.Targets.{propagation_of, targets_by}
use Rattle.dd_close.specs.Drafts.{Cites, IsByChoice, passes, premise}
use Rattle.dd_close.specs.Fits.{HasSmallTarget, IsGraphFor, IsPropInto}
use Rattle.dd_close.specs.Writes.{claims_before}
use Rattle.dd_close.proofs.Choices.{All-at, posed-at}
use Rattle.dd_close.proofs.Writing.{adding-covers, cited-within, in-label, same-place}

-- ---- lists

get-front : {A : Type 0} (xs ys : List A) (m : ℕ) (x : A) → slice_get xs m ≡ Some x → slice_get (xs ++ ys) m ≡ Some x
get-front [] ys m x e = cc
get-front (z ∷ zs) ys zero x e = e
get-front (z ∷ zs) ys (suc m) x e = get-front zs ys m x e

each-from : (t : Concept → Bool) (xs : List Concept) → ((d : Concept) → has_concept xs d ≡ true → t d ≡ true) → list_all t xs ≡ true
each-from t [] h = refl
each-from t (x ∷ xs) h = and_from (t x) (list_all t xs) (h x (has-head x xs)) (each-from t xs (λ d m. h d (has-tail d x xs m)))

any-get : {A : Type 0} (t : A → Bool) (xs : List A) (i : ℕ) (x : A) → slice_get xs i ≡ Some x → t x ≡ true → list_any t xs ≡ true
any-get t [] i x e h = cc
any-get t (y ∷ ys) zero x e h = or_left (t y) (list_any t ys) (subst (λ z. t z ≡ true) (sym (same_Some y x e)) h)
any-get t (y ∷ ys) (suc i) x e h = or_right (t y) (list_any t ys) (any-get t ys i x e h)

any-filter : {A : Type 0} (f t : A → Bool) (xs : List A) → list_any t (filter f xs) ≡ true → list_any t xs ≡ true
any-filter f t [] h = h
any-filter f t (y ∷ ys) h = elim (cases_Bool (f y)) [
  | inl k ↦ elim (or_cases (t y) (list_any t (filter f ys)) (ap (list_any t) (sym (cond-true (f y) (y ∷ filter f ys) (filter f ys) k)) ∙ h)) [
    | inl a ↦ or_left (t y) (list_any t ys) a
    | inr b ↦ or_right (t y) (list_any t ys) (any-filter f t ys b)
  ]
  | inr n ↦ or_right (t y) (list_any t ys) (any-filter f t ys (ap (list_any t) (sym (cond-false (f y) (y ∷ filter f ys) (filter f ys) n)) ∙ h))
]

-- rules at places that are all there
record Found (rules : List Rule) (ks : List ℕ) : Type 0 where
  found : List Rule
  at : lines.rules_at rules ks ≡ Some found
  sources : map (λ (r : Rule). nnf_not_of r.source) found ≡ flat_map (no_source_at rules) ks
  targets : map (λ (r : Rule). nnf_of r.target) found ≡ flat_map (λ k. option_to_list (option_map (λ (r : Rule). nnf_of r.target) (slice_get rules k))) ks

find-rules : (rules : List Rule) (ks : List ℕ) → All (λ k. k < length rules) ks → Found rules ks
find-rules rules [] all = record { found = []; at = refl; sources = refl; targets = refl }
find-rules rules (k ∷ ks) all =
    let r = item rules k (all zero k (omega arith)) in
    let rest = find-rules rules ks (λ i d lt. all (suc i) d (omega (arith, lt))) in
    record {
      found = r.0 ∷ rest.found;
      at = ap (λ o. more_rules o (lines.rules_at rules ks)) r.1 ∙ ap (λ o. more_rules (Some r.0) o) rest.at;
      sources = ap (λ l. nnf_not_of r.0.source ∷ l) rest.sources
          ∙ ap (λ (o : Option Rule). option_to_list (option_map (λ (x : Rule). nnf_not_of x.source) o) ++ flat_map (no_source_at rules) ks) (sym r.1);
      targets = ap (λ l. nnf_of r.0.target ∷ l) rest.targets
          ∙ ap (λ (o : Option Rule). option_to_list (option_map (λ (x : Rule). nnf_of x.target) o)
          ++ flat_map (λ j. option_to_list (option_map (λ (x : Rule). nnf_of x.target) (slice_get rules j))) ks) (sym r.1);
    }

module _ (p : Pinned) (peer : ℕ) (view : List Prop) (version : PeerVersion) (v : GraphView) (distinct : are_distinct v.closure.concepts ≡ true)
    (closed : IsClosedFor v.closure.axioms (props_at v) v.closure.concepts) (fits : IsGraphFor p peer view v) (is_version : slice_get p.peers peer ≡ Some version) where
  abbrev cs : List Concept
  cs = v.closure.concepts

  onto-is : (h : ℕ) → onto_rules p h peer ≡ rules_from version.onto h
  onto-is h = ap (λ (o : Option PeerVersion). option_map_or (λ (x : PeerVersion). rules_from x.onto h) o []) is_version

  into-is : (h : ℕ) → into_rules p h peer ≡ rules_from version.into h
  into-is h = ap (λ (o : Option PeerVersion). option_map_or (λ (x : PeerVersion). rules_from x.into h) o []) is_version

  all-onto-is : all_onto p peer ≡ version.onto
  all-onto-is = ap (λ (o : Option PeerVersion). option_map_or (λ (x : PeerVersion). x.onto) o []) is_version

  -- the rule and the propagation of a place in the view
  pub record IsPlaced (j : ℕ) (t : Prop) : Type 0 where
    pub onto : Rule
    pub rule : slice_get (onto_rules p t.from peer) t.onto ≡ Some onto
    pub prop : slice_get (props_at v) j ≡ Some (targets_by p peer t onto)
    pub into : IsPropInto p peer t

  pub placed : (j : ℕ) (t : Prop) → slice_get view j ≡ Some t → IsPlaced j t
  placed j t e =
      let found = by view j fits.each e in
      record { onto = found.0; rule = found.1; prop = ap (λ l. slice_get l j) fits.props ∙ found.2; into = All-at (IsPropInto p peer) view j t fits.each e }
    where
      by : (ts : List Prop) (j : ℕ) → All (IsPropInto p peer) ts → slice_get ts j ≡ Some t
          → (onto : Rule) × (slice_get (onto_rules p t.from peer) t.onto ≡ Some onto) × (slice_get (flat_map (propagation_of p peer) ts) j ≡ Some (targets_by p peer t onto))
      by [] j all e = cc
      by (x ∷ xs) zero all e =
          let is : x ≡ t = same_Some x t e in
          let o = item (onto_rules p t.from peer) t.onto (subst (λ (y : Prop). y.onto < length (onto_rules p y.from peer)) is (all zero x (omega arith)).onto) in (
            o.0,
            o.1,
            ap (λ y. slice_get (propagation_of p peer y ++ flat_map (propagation_of p peer) xs) zero) is
                ∙ ap (λ q. slice_get (option_to_list (option_map (targets_by p peer t) q) ++ flat_map (propagation_of p peer) xs) zero) o.1,
          )
      by (x ∷ xs) (suc j) all e =
          let o = item (onto_rules p x.from peer) x.onto (all zero x (omega arith)).onto in
          let rest = by xs j (λ i d lt. all (suc i) d (omega (arith, lt))) e in
          (rest.0, rest.1, ap (λ q. slice_get (option_to_list (option_map (targets_by p peer x) q) ++ flat_map (propagation_of p peer) xs) (suc j)) o.1 ∙ rest.2)

  -- the target of the rule is that of a rule that the peer keeps, and is small
  small : (t : Prop) (onto : Rule) → slice_get (onto_rules p t.from peer) t.onto ≡ Some onto → HasSmallTarget onto
  small t onto e = All-at HasSmallTarget (rules_from version.onto t.from) t.onto onto
      (All-filter (λ (r : Rule). r.from == t.from) HasSmallTarget version.onto (subst (All HasSmallTarget) all-onto-is fits.targets)) (ap (λ l. slice_get l t.onto) (sym (onto-is t.from)) ∙ e)

  pub cut-target : (t : Prop) (onto : Rule) → slice_get (onto_rules p t.from peer) t.onto ≡ Some onto → list_any (λ (r : Rule). is_same r.target onto.target) (all_onto p peer) ≡ true
  cut-target t onto e = subst (λ rs. list_any (λ (r : Rule). is_same r.target onto.target) rs ≡ true) (sym all-onto-is)
      (any-filter (λ (r : Rule). r.from == t.from) (λ (r : Rule). is_same r.target onto.target) version.onto
      (any-get (λ (r : Rule). is_same r.target onto.target) (rules_from version.onto t.from) t.onto onto (ap (λ l. slice_get l t.onto) (sym (onto-is t.from)) ∙ e) (is-is_same onto.target onto.target refl)))

  module _ (labels : List (List ℕ)) (k : ℕ) (l : List ℕ) where
    abbrev L : List Concept
    L = concepts_in v l

    abbrev before : List Claim
    before = claims_before p peer view v labels k

    -- ---- restrictions

    pub passed : (role part : ℕ) (c : Concept) → part ≡ place_of cs c → has_concept cs c ≡ true → (w : List ℕ) → Implies (has w) (passes (rules_at v) (has l) role part) → list_all (is_passed L role c) (concepts_in v w) ≡ true
    passed role part c is inside w imp =
        let q = passes (rules_at v) (has l) role part in
        let lifted = successor-lifts cs v.closure.axioms (props_at v) distinct closed (has l) role c inside q
        (λ n. ap (λ m. (n == m) || any_at (λ i s. has l i && is_all role n s) (rules_at v).shapes) is) in
        each-from (is_passed L role c) (concepts_in v w) (λ d h.
        let i = at-within cs (has w) d h in
        sym (lifted d) ∙ at-place cs q d distinct i ∙ imp (place_of cs d) (sym (at-place cs (has w) d distinct i) ∙ h))

    -- ---- cuts

    not-onto : (n : ℕ) (d : Concept) (ps : List Propagation) → All (HasTargets cs) ps → has_concept cs d ≡ true → place_of cs d ≡ n → list_any (λ (t : PropNumbers). t.onto == n) (map (prop_numbers cs) ps) ≡ true
        → option_map_or (λ (t : PropNumbers). n ∷ t.not_onto ∷ []) (find (λ (t : PropNumbers). t.onto == n) (map (prop_numbers cs) ps)) [] ≡ (n ∷ place_of cs (nnf_not_of d) ∷ [])
    not-onto n d [] all inside is h = absurd (false≢true h)
    not-onto n d (x ∷ xs) all inside is h = elim (cases_Bool (place_of cs x.onto == n)) [
      | inl t ↦
          let same : x.onto ≡ d = same-place p peer view version v distinct closed labels k l x.onto d (all zero x (omega arith)).onto inside (eqb-true (place_of cs x.onto) n t ∙ sym is) in
          ap (λ (o : Option PropNumbers). option_map_or (λ (y : PropNumbers). n ∷ y.not_onto ∷ []) o [])
          (cond-true (place_of cs x.onto == n) (Some (prop_numbers cs x)) (find (λ (t : PropNumbers). t.onto == n) (map (prop_numbers cs) xs)) t)
          ∙ ap (λ c. n ∷ place_of cs (nnf_not_of c) ∷ []) same
      | inr f ↦
          ap (λ (o : Option PropNumbers). option_map_or (λ (y : PropNumbers). n ∷ y.not_onto ∷ []) o [])
          (cond-false (place_of cs x.onto == n) (Some (prop_numbers cs x)) (find (λ (t : PropNumbers). t.onto == n) (map (prop_numbers cs) xs)) f)
          ∙ not-onto n d xs (λ i e lt. all (suc i) e (omega (arith, lt))) inside is (ap (λ b. b || list_any (λ (t : PropNumbers). t.onto == n) (map (prop_numbers cs) xs)) (sym f) ∙ h)
    ]

    pub why-cut : (n left right j : ℕ) (t : Prop) (placed_t : IsPlaced j t) → IsByChoice (rules_at v) labels k (has l) (way.Cut n) (left ∷ right ∷ []) → place_of cs (nnf_of placed_t.onto.target) ≡ n
        → gives_reason p before peer version L (why.Cut placed_t.onto.target (length view + left) (length view + right)) ≡ true
    why-cut n left right j t at h is =
        let d = nnf_of at.onto.target in
        let targets = All-at (HasTargets cs) (props_at v) j (targets_by p peer t at.onto) closed.targets at.prop in
        let added : additions (rules_at v) (way.Cut n) ≡ (n ∷ place_of cs (nnf_not_of d) ∷ []) = not-onto n d (props_at v) closed.targets targets.onto is h.step in
        let fits_in = small t at.onto at.rule in
        let no_ : nnf_not_of d ≡ nnf_not_of at.onto.target = nnf_not_of-nnf_of at.onto.target in
        and_from (nat_le (node_count at.onto.target) 1000 && nat_le (depth_of at.onto.target) 64)
        (cites_within before peer (length view + left) (d ∷ L) && cites_within before peer (length view + right) (nnf_not_of at.onto.target ∷ L))
        (and_from (nat_le (node_count at.onto.target) 1000) (nat_le (depth_of at.onto.target) 64) (le-leb (node_count at.onto.target) 1000 fits_in.nodes) (le-leb (depth_of at.onto.target) 64 fits_in.depth))
        (and_from (cites_within before peer (length view + left) (d ∷ L)) (cites_within before peer (length view + right) (nnf_not_of at.onto.target ∷ L))
        (cited-within p peer view version v distinct closed labels k l left (adding n (has l)) (d ∷ L) (h.cited.each zero n left (ap (λ ns. slice_get ns zero) added) refl)
        (adding-covers p peer view version v distinct closed labels k l d n (has l) L (sym is) targets.onto (in-label p peer view version v distinct closed labels k l)))
        (subst (λ c. cites_within before peer (length view + right) (c ∷ L) ≡ true) no_
        (cited-within p peer view version v distinct closed labels k l right (adding (place_of cs (nnf_not_of d)) (has l)) (nnf_not_of d ∷ L)
        (h.cited.each (suc zero) (place_of cs (nnf_not_of d)) right (ap (λ ns. slice_get ns (suc zero)) added) refl)
        (adding-covers p peer view version v distinct closed labels k l (nnf_not_of d) (place_of cs (nnf_not_of d)) (has l) L refl targets.not_onto (in-label p peer view version v distinct closed labels k l)))))

    -- ---- bridges

    each-target : (rules : List Rule) (ms : List ℕ) → length ms ≡ length rules → All (λ c. has_concept cs c ≡ true) (map (λ (r : Rule). nnf_of r.target) rules)
        → ((i c m : ℕ) → slice_get (map (place_of cs) (map (λ (r : Rule). nnf_of r.target) rules)) i ≡ Some c → slice_get ms i ≡ Some m → Cites labels k m (adding c (has l)))
        → cites_targets before peer L rules (map (λ m. length view + m) ms) ≡ true
    each-target [] [] many inside h = refl
    each-target [] (m ∷ ms) many inside h = absurd (omega (arith, many))
    each-target (r ∷ rs) [] many inside h = absurd (omega (arith, many))
    each-target (r ∷ rs) (m ∷ ms) many inside h =
        and_from (cites_within before peer (length view + m) (nnf_of r.target ∷ L)) (cites_targets before peer L rs (map (λ n. length view + n) ms))
        (cited-within p peer view version v distinct closed labels k l m (adding (place_of cs (nnf_of r.target)) (has l)) (nnf_of r.target ∷ L) (h zero (place_of cs (nnf_of r.target)) m refl refl)
        (adding-covers p peer view version v distinct closed labels k l (nnf_of r.target) (place_of cs (nnf_of r.target)) (has l) L refl (inside zero (nnf_of r.target) (omega arith)) (in-label p peer view version v distinct closed labels k l)))
        (each-target rs ms (omega (arith, many)) (λ i d lt. inside (suc i) d (omega (arith, lt))) (λ i c n e f. h (suc i) c n e f))

    pub why-bridge : (j : ℕ) (cited : List ℕ) (t : Prop) (e : slice_get view j ≡ Some t) → IsByChoice (rules_at v) labels k (has l) (way.Bridge j) cited
        → gives_reason p before peer version L (why.Bridge t.from t.onto t.into_set j (map (λ m. length view + m) cited)) ≡ true
    why-bridge j cited t e h =
        let at = placed j t e in
        let rules = find-rules (into_rules p t.from peer) t.into_set at.into.into in
        let targets = All-at (HasTargets cs) (props_at v) j (targets_by p peer t at.onto) closed.targets at.prop in
        let numbered : slice_get (rules_at v).props j ≡ Some (prop_numbers cs (targets_by p peer t at.onto)) = slice_get-map (prop_numbers cs) (props_at v) j ∙ ap (option_map (prop_numbers cs)) at.prop in
        let added : additions (rules_at v) (way.Bridge j) ≡ map (place_of cs) (map (λ (r : Rule). nnf_of r.target) rules.found) =
        ap (λ (o : Option PropNumbers). option_map_or (λ (x : PropNumbers). x.into) o []) numbered ∙ ap (map (place_of cs)) (sym rules.targets) in
        let posed : has l (place_of cs (nnf_of at.onto.target)) ≡ true = posed-at (premise (rules_at v) (way.Bridge j)) (has l) h.posed (place_of cs (nnf_of at.onto.target)) (ap (option_map (λ (x : PropNumbers). x.onto)) numbered) in
        let label_is : asked_label p t.from peer t.onto t.into_set ≡ sources_label at.onto rules.found =
        ap (λ (o : Option Rule). option_to_list (option_map (λ (r : Rule). nnf_of r.source) o) ++ flat_map (no_source_of p t.from peer) t.into_set) at.rule
        ∙ ap (λ s. nnf_of at.onto.source ∷ s) (sym rules.sources) in
        let cite_ : cites_within before t.from j (sources_label at.onto rules.found) ≡ true =
        ap (λ (o : Option Claim). is_there o (λ claim. (claim.peer == t.from) && is_within claim.label (sources_label at.onto rules.found)))
        (get-front (claims_of_view p peer view) _ j (claim_of_prop p peer t) (slice_get-map (claim_of_prop p peer) view j ∙ ap (option_map (claim_of_prop p peer)) e))
        ∙ and_from (t.from == t.from) (is_within (asked_label p t.from peer t.onto t.into_set) (sources_label at.onto rules.found)) (eq-eqb t.from t.from refl)
        (subst (λ s. is_within s (sources_label at.onto rules.found) ≡ true) (sym label_is) (within-refl (sources_label at.onto rules.found))) in
        let each_ : cites_targets before peer L rules.found (map (λ m. length view + m) cited) ≡ true =
        each-target rules.found cited (h.as_many ∙ ap length added ∙ length-map (map (λ (r : Rule). nnf_of r.target) rules.found) (place_of cs) ∙ length-map rules.found (λ (r : Rule). nnf_of r.target))
        (subst (All (λ c. has_concept cs c ≡ true)) (sym rules.targets) targets.into) (λ i c m g f. h.cited.each i c m (ap (λ ns. slice_get ns i) added ∙ g) f) in
        let into_test : Rule → List Rule → Bool = λ onto into. has_concept L (nnf_of onto.target) && (cites_within before t.from j (sources_label onto into) && cites_targets before peer L into (map (λ m. length view + m) cited)) in
        and_from (is_other p peer t.from) (is_rising t.into_set && is_there (slice_get (rules_from version.onto t.from) t.onto) (λ onto. is_there (lines.rules_at (rules_from version.into t.from) t.into_set) (into_test onto))) at.into.other
        (and_from (is_rising t.into_set) (is_there (slice_get (rules_from version.onto t.from) t.onto) (λ onto. is_there (lines.rules_at (rules_from version.into t.from) t.into_set) (into_test onto))) at.into.rising
        (ap (λ o. is_there o (λ onto. is_there (lines.rules_at (rules_from version.into t.from) t.into_set) (into_test onto))) (ap (λ rs. slice_get rs t.onto) (sym (onto-is t.from)) ∙ at.rule)
        ∙ ap (λ o. is_there o (into_test at.onto)) (ap (λ rs. lines.rules_at rs t.into_set) (sym (into-is t.from)) ∙ rules.at)
        ∙ and_from (has_concept L (nnf_of at.onto.target)) (cites_within before t.from j (sources_label at.onto rules.found) && cites_targets before peer L rules.found (map (λ m. length view + m) cited))
        (in-label p peer view version v distinct closed labels k l (nnf_of at.onto.target) targets.onto posed)
        (and_from (cites_within before t.from j (sources_label at.onto rules.found)) (cites_targets before peer L rules.found (map (λ m. length view + m) cited)) cite_ each_)))
