-- The concepts of a relevant peer's closure come from what the job gives.
use Rattle.std.proofs.Common.{◌≡◌, ◌∙◌, ◌⊎◌, ◌==◌, ◌&&◌, ◌+◌, ◌<◌, ℕ, zero, suc, Bool, true, false, cond, List, [], ◌∷◌, ◌++◌, length, map, All, Contains, Some, ap, refl, sym, subst, arith, slice_get, inl, inr}
use mathlib.Core.Bool.{Bool-set}
use Rattle.std.proofs.Math.Logic.{∥∥₁_elim}
use Rattle.std.specs.List.{flat_map, list_any}
use Rattle.std.proofs.lemmas.List.Elements.{All-cons, All-nil}
use Rattle.std.proofs.lemmas.Bool.{false≢true, and_from, cases_Bool, eq-eqb, or_cases, or_left, or_right}
use Rattle.dd_concept.specs.declared.concept.Axiom.{Axiom}
use Rattle.dd_concept.specs.declared.concept.Concept.{Concept}
use Rattle.dd_concept.specs.declared.concept.Concept.TheVariants.{Name, HasSome}
use Rattle.dd_concept.specs.Closed.{HasTargets, IsClosedFor}
use Rattle.dd_concept.specs.Names.{names_in, names_in_at, roles_in, roles_in_at}
use Rattle.dd_concept.specs.Normal.{nnf_of, nnf_not_of, IsSmallFor}
use Rattle.dd_concept.specs.Same.{has, is_within}
use Rattle.dd_concept.proofs.Closure.{reached-within}
use Rattle.dd_concept.proofs.Folds.{fold-HasSome, fold-Name}
use Rattle.dd_concept.proofs.Bounds.{nnf_of-IsSmallFor, nnf_not_of-IsSmallFor}
use Rattle.dd_concept.proofs.Sets.{has-append, has-cases, has-head, has-tail, within-has}
use Rattle.dd_interp.specs.declared.interp.Interp.{Interp}
use Rattle.dd_interp.specs.Lean.{IsAsked, IsLean, IsLeanBy}
use Rattle.dd_interp.specs.Meaning.{in_name}
use Rattle.dd_interp.specs.Satisfies.{IsShaped}
use Rattle.dd_interp.proofs.Leans.{padded-not_lean}
use Rattle.dd_open.proofs.Items.{contains-item, contains-place}
use Rattle.dd_peer.specs.declared.version.Rule.{Rule}
use Rattle.dd_rules.specs.Closure.{sides_of, sources_of}
use Rattle.dd_rules.proofs.Closing.{closure-closed}
use Rattle.dd_task.specs.declared.job.Job.{Job}
use Rattle.dd_task.specs.Closure.{asked_by, asked_first, both_targets, extra_for, kept_targets}
use Rattle.dd_task.specs.Goals.{root_label}
use Rattle.dd_task.specs.Keys.{is_among}
use Rattle.dd_task.specs.Rules.{axioms_of, all_into, all_onto, into_rules, onto_rules}
use Rattle.dd_task.proofs.Places.{All-at, at-append, at-behind}
use Rattle.dd_run.specs.Fit.{closure_for}
use Rattle.dd_run.specs.Given.{ComesFromGiven, given_by, given_of, is_given_name, is_given_role, sides_by, sides_in}
use Rattle.dd_run.proofs.LeastClosures.{closure-source}
use Rattle.dd_run.proofs.Parted.{IsUnder, names-form, names-other, part-under, roles-form, roles-other}
use Rattle.dd_run.proofs.Targets.{from-version}

-- ---- what is among lists that are made of items

module _ {A : Type 0} (f : A → List Concept) where
  -- it is in that of one of them
  pub of-items : (xs : List A) (c : Concept) → has (flat_map f xs) c ≡ true → (k : ℕ) × (x : A) × (slice_get xs k ≡ Some x) × (has (f x) c ≡ true)
  of-items [] c h = absurd (false≢true h)
  of-items (x ∷ xs) c h = elim (or_cases (has (f x) c) (has (flat_map f xs) c) (sym (has-append (f x) (flat_map f xs) c) ∙ h)) [
    | inl t ↦ (zero, x, refl, t)
    | inr t ↦ let found = of-items xs c t in (suc found.0, found.1, found.2, found.3)
  ]

  -- and each in that of one of them is there
  pub to-items : (xs : List A) (c : Concept) (k : ℕ) (x : A) → slice_get xs k ≡ Some x → has (f x) c ≡ true → has (flat_map f xs) c ≡ true
  to-items [] c k x e h = cc
  to-items (y ∷ ys) c zero x e h =
      has-append (f y) (flat_map f ys) c ∙ or_left (has (f y) c) (has (flat_map f ys) c) (subst (λ z. has (f z) c ≡ true) (let is : x ≡ y = cc in is) h)
  to-items (y ∷ ys) c (suc k) x e h =
      has-append (f y) (flat_map f ys) c ∙ or_right (has (f y) c) (has (flat_map f ys) c) (to-items ys c k x e h)

of-map : {A : Type 0} (f : A → Concept) (xs : List A) (c : Concept) → has (map f xs) c ≡ true → (k : ℕ) × (x : A) × (slice_get xs k ≡ Some x) × (f x ≡ c)
of-map f [] c h = absurd (false≢true h)
of-map f (x ∷ xs) c h = elim (has-cases c (f x) (map f xs) h) [
  | inl is ↦ (zero, x, refl, is)
  | inr t ↦ let found = of-map f xs c t in (suc found.0, found.1, found.2, found.3)
]

-- ---- the sources of a closure are normal forms of what is given

-- the concept is the normal form of a given one, or of its complement
record IsForm (job : Job) (s : Concept) : Type 0 where
  source : Concept
  given : has (given_of job) source ≡ true
  form : (nnf_of source ≡ s) ⊎ (nnf_not_of source ≡ s)

two-forms : (job : Job) (d s : Concept) → has (given_of job) d ≡ true → has (nnf_of d ∷ nnf_not_of d ∷ []) s ≡ true → IsForm job s
two-forms job d s g h = elim (has-cases s (nnf_of d) (nnf_not_of d ∷ []) h) [
  | inl e ↦ record { source = d; given = g; form = inl e }
  | inr t ↦ elim (has-cases s (nnf_not_of d) [] t) [
    | inl e ↦ record { source = d; given = g; form = inr e }
    | inr none ↦ absurd (false≢true none)
  ]
]

module _ (job : Job) where
  -- what a relevant peer's version has is given
  by-peer : (i : ℕ) → Contains job.relevant i → (c : Concept) → has (given_by job.pinned i) c ≡ true → has (given_of job) c ≡ true
  by-peer i relevant c h =
      let at = contains-place job.relevant i relevant in
      let peers = flat_map (given_by job.pinned) job.relevant in
      has-append peers (job.query.left ∷ job.query.right ∷ []) c
      ∙ or_left (has peers c) (has (job.query.left ∷ job.query.right ∷ []) c) (to-items (given_by job.pinned) job.relevant c at.0 i at.1 h)

  by-query : (c : Concept) → has (job.query.left ∷ job.query.right ∷ []) c ≡ true → has (given_of job) c ≡ true
  by-query c h =
      let peers = flat_map (given_by job.pinned) job.relevant in
      has-append peers (job.query.left ∷ job.query.right ∷ []) c
      ∙ or_right (has peers c) (has (job.query.left ∷ job.query.right ∷ []) c) h

  module _ (i : ℕ) (relevant : Contains job.relevant i) where
    by-axiom : (c : Concept) → has (flat_map sides_in (axioms_of job.pinned i)) c ≡ true → has (given_of job) c ≡ true
    by-axiom c h = by-peer i relevant c (
        has-append (flat_map sides_in (axioms_of job.pinned i)) (flat_map sides_by (all_into job.pinned i ++ all_onto job.pinned i)) c
        ∙ or_left (has (flat_map sides_in (axioms_of job.pinned i)) c) (has (flat_map sides_by (all_into job.pinned i ++ all_onto job.pinned i)) c) h)

    by-rule : (q : ℕ) (r : Rule) (c : Concept) → slice_get (all_into job.pinned i ++ all_onto job.pinned i) q ≡ Some r → has (sides_by r) c ≡ true → has (given_of job) c ≡ true
    by-rule q r c e h = by-peer i relevant c (
        has-append (flat_map sides_in (axioms_of job.pinned i)) (flat_map sides_by (all_into job.pinned i ++ all_onto job.pinned i)) c
        ∙ or_right (has (flat_map sides_in (axioms_of job.pinned i)) c) (has (flat_map sides_by (all_into job.pinned i ++ all_onto job.pinned i)) c)
        (to-items sides_by (all_into job.pinned i ++ all_onto job.pinned i) c q r e h))

    -- a side of an axiom
    side-form : (s : Concept) → has (flat_map sides_of (axioms_of job.pinned i)) s ≡ true → IsForm job s
    side-form s h =
        let found = of-items sides_of (axioms_of job.pinned i) s h in
        let a : Axiom = found.1 in
        let is_given : (c : Concept) → has (sides_in a) c ≡ true → has (given_of job) c ≡ true =
        λ c m. by-axiom c (to-items sides_in (axioms_of job.pinned i) c found.0 a found.2 m) in
        elim (has-cases s (nnf_not_of a.left) (nnf_of a.right ∷ []) found.3) [
          | inl e ↦ record { source = a.left; given = is_given a.left (has-head a.left (a.right ∷ [])); form = inr e }
          | inr t ↦ elim (has-cases s (nnf_of a.right) [] t) [
            | inl e ↦ record { source = a.right; given = is_given a.right (has-tail a.right a.left (a.right ∷ []) (has-head a.right [])); form = inl e }
            | inr none ↦ absurd (false≢true none)
          ]
        ]

    -- the target of a rule that the peer keeps
    target-form : (s : Concept) → has (kept_targets job.pinned i) s ≡ true → IsForm job s
    target-form s h =
        let found = of-items both_targets (all_into job.pinned i ++ all_onto job.pinned i) s h in
        let r : Rule = found.1 in
        two-forms job r.target s (by-rule found.0 r r.target found.2 (has-tail r.target r.source (r.target ∷ []) (has-head r.target []))) found.3

    -- the source of a rule that the peer keeps from another one
    source-given : (r : Rule) (q : ℕ) → slice_get (all_into job.pinned i ++ all_onto job.pinned i) q ≡ Some r → has (given_of job) r.source ≡ true
    source-given r q e = by-rule q r r.source e (has-head r.source (r.target ∷ []))

    asked-form : (h : ℕ) (s : Concept) → has (asked_by job.pinned h i) s ≡ true → IsForm job s
    asked-form h s m =
        let intos = map (λ (r : Rule). nnf_not_of r.source) (into_rules job.pinned h i) in
        let ontos = map (λ (r : Rule). nnf_of r.source) (onto_rules job.pinned h i) in
        elim (or_cases (has intos s) (has ontos s) (sym (has-append intos ontos s) ∙ m)) [
          | inl t ↦
              let found = of-map (λ (r : Rule). nnf_not_of r.source) (into_rules job.pinned h i) s t in
              let at = from-version (λ v. v.into) (slice_get job.pinned.peers i) h found.0 found.1 found.2 in
              record {
                source = found.1.source;
                given = source-given found.1 at.0 (at-append Rule (all_into job.pinned i) (all_onto job.pinned i) at.0 found.1 at.1);
                form = inr found.3;
              }
          | inr t ↦
              let found = of-map (λ (r : Rule). nnf_of r.source) (onto_rules job.pinned h i) s t in
              let at = from-version (λ v. v.onto) (slice_get job.pinned.peers i) h found.0 found.1 found.2 in
              record {
                source = found.1.source;
                given = source-given found.1 (length (all_into job.pinned i) + at.0) (at-behind Rule (all_into job.pinned i) (all_onto job.pinned i) at.0 ∙ at.1);
                form = inl found.3;
              }
        ]

  -- a side of the query
  query-form : (b : Bool) (s : Concept) → has (cond b (root_label job.query) []) s ≡ true → IsForm job s
  query-form false s h = absurd (false≢true h)
  query-form true s h = elim (has-cases s (nnf_of job.query.left) (nnf_not_of job.query.right ∷ []) h) [
    | inl e ↦ record { source = job.query.left; given = by-query job.query.left (has-head job.query.left (job.query.right ∷ [])); form = inl e }
    | inr t ↦ elim (has-cases s (nnf_not_of job.query.right) [] t) [
      | inl e ↦ record {
        source = job.query.right;
        given = by-query job.query.right (has-tail job.query.right job.query.left (job.query.right ∷ []) (has-head job.query.right []));
        form = inr e;
      }
      | inr none ↦ absurd (false≢true none)
    ]
  ]

  module _ (i : ℕ) (relevant : Contains job.relevant i) where
    extra-form : (s : Concept) → has (extra_for job i) s ≡ true → IsForm job s
    extra-form s h =
        let asked = flat_map (asked_by job.pinned i) job.relevant in
        let first = asked_first job.query i in
        elim (or_cases (has (kept_targets job.pinned i) s) (has (asked ++ first) s) (sym (has-append (kept_targets job.pinned i) (asked ++ first) s) ∙ h)) [
          | inl t ↦ target-form i relevant s t
          | inr t ↦ elim (or_cases (has asked s) (has first s) (sym (has-append asked first s) ∙ t)) [
            | inl u ↦
                let found = of-items (asked_by job.pinned i) job.relevant s u in
                asked-form found.1 (in-list found.0 found.1 found.2) i s found.3
            | inr u ↦ query-form (job.query.peer == i) s u
          ]
        ]
      where
        in-list : (k j : ℕ) → slice_get job.relevant k ≡ Some j → Contains job.relevant j
        in-list k j e = contains-item job.relevant k j e

    source-form : (s : Concept) → has (sources_of (axioms_of job.pinned i) (extra_for job i)) s ≡ true → IsForm job s
    source-form s h =
        let sides = flat_map sides_of (axioms_of job.pinned i) in
        elim (or_cases (has sides s) (has (extra_for job i) s) (sym (has-append sides (extra_for job i) s) ∙ h)) [
          | inl t ↦ side-form i relevant s t
          | inr t ↦ extra-form s t
        ]

-- ---- parts of normal forms

small-under : (d s c : Concept) → IsSmallFor d s → IsUnder c s → IsSmallFor d c
small-under d s c small under nodes depth = let both = small nodes depth in (omega (arith, both.0, under.nodes), omega (arith, both.1, under.depth))

comes-by : (job : Job) (d s c : Concept) → has (given_of job) d ≡ true → names_in s ≡ names_in d → roles_in s ≡ roles_in d → IsSmallFor d s → IsUnder c s → ComesFromGiven job c
comes-by job d s c given ns rs small under = record {
  source = d;
  given = given;
  names = λ a h. sym (ap (λ l. is_among l a) ns) ∙ under.names a h;
  roles = λ r h. sym (ap (λ l. is_among l r) rs) ∙ under.roles r h;
  small = small-under d s c small under;
}

comes-form : (job : Job) (s c : Concept) → IsForm job s → IsUnder c s → ComesFromGiven job c
comes-form job s c form under = elim form.form [
  | inl e ↦ comes-by job form.source s c form.given (ap names_in (sym e) ∙ names-form form.source) (ap roles_in (sym e) ∙ roles-form form.source)
      (subst (IsSmallFor form.source) e (nnf_of-IsSmallFor form.source)) under
  | inr e ↦ comes-by job form.source s c form.given (ap names_in (sym e) ∙ names-other form.source) (ap roles_in (sym e) ∙ roles-other form.source)
      (subst (IsSmallFor form.source) e (nnf_not_of-IsSmallFor form.source)) under
]

-- each concept of the closure comes from what is given
pub closure-comes : (job : Job) (i : ℕ) → Contains job.relevant i → (c : Concept) → has (closure_for job i) c ≡ true → ComesFromGiven job c
closure-comes job i relevant c h =
    let found = closure-source (axioms_of job.pinned i) (extra_for job i) c h in
    comes-form job found.source c (source-form job i relevant found.source found.there) (part-under found.source c found.part)

-- ---- names and roles

any-has : (t : Concept → Bool) (xs : List Concept) (c : Concept) → has xs c ≡ true → t c ≡ true → list_any t xs ≡ true
any-has t [] c h e = absurd (false≢true h)
any-has t (d ∷ ds) c h e = elim (has-cases c d ds h) [
  | inl is ↦ or_left (t d) (list_any t ds) (subst (λ x. t x ≡ true) (sym is) e)
  | inr m ↦ or_right (t d) (list_any t ds) (any-has t ds c m e)
]

module _ (job : Job) (i : ℕ) (relevant : Contains job.relevant i) where
  name-in : (a : ℕ) → has (closure_for job i) (Name a) ≡ true → is_given_name job a ≡ true
  name-in a h =
      let comes = closure-comes job i relevant (Name a) h in
      any-has (λ c. is_among (names_in c) a) (given_of job) comes.source comes.given
      (comes.names a (ap (λ l. is_among l a) (fold-Name (List ℕ) names_in_at a) ∙ or_left (a == a) false (eq-eqb a a refl)))

  role-in : (r : ℕ) (c : Concept) → has (closure_for job i) (HasSome r c) ≡ true → is_given_role job r ≡ true
  role-in r c h =
      let comes = closure-comes job i relevant (HasSome r c) h in
      any-has (λ d. is_among (roles_in d) r) (given_of job) comes.source comes.given
      (comes.roles r (ap (λ l. is_among l r) (fold-HasSome (List ℕ) roles_in_at r c) ∙ or_left (r == r) (is_among (roles_in c) r) (eq-eqb r r refl)))

  abbrev axioms : List Axiom
  axioms = axioms_of job.pinned i

  closed : IsClosedFor axioms [] (closure_for job i)
  closed = closure-closed axioms (extra_for job i) [] (All-nil (HasTargets (closure_for job i)))

  module _ (m : Interp) (label : List Concept) (inside : is_within label (closure_for job i) ≡ true) (lean : IsLean axioms [] (label ∷ []) m) where
    goals : All (λ l. is_within l (closure_for job i) ≡ true) (label ∷ [])
    goals = All-cons (λ l. is_within l (closure_for job i) ≡ true) label [] inside (All-nil (λ l. is_within l (closure_for job i) ≡ true))

    pub name-given : IsShaped m → (p : ℕ × ℕ) (k : ℕ) → slice_get m.names k ≡ Some p → is_given_name job p.0 ≡ true
    name-given shaped p k e = name-in p.0 (elim (cases_Bool (has (closure_for job i) (Name p.0))) [
      | inl t ↦ t
      | inr f ↦ absurd (padded-not_lean axioms [] (closure_for job i) closed (label ∷ []) goals m p.1 p.0 (All-at (ℕ × ℕ) (λ q. q.1 < m.size) m.names k p shaped.names e)
          (named m.names k p e) f lean)
    ])
      where
        named : (names : List (ℕ × ℕ)) (n : ℕ) (q : ℕ × ℕ) → slice_get names n ≡ Some q → in_name names q.0 q.1 ≡ true
        named [] n q f = cc
        named (r ∷ rs) zero q f = or_left ((r.0 == q.0) && (r.1 == q.1)) (in_name rs q.0 q.1)
            (let is : r ≡ q = cc in and_from (r.0 == q.0) (r.1 == q.1) (eq-eqb r.0 q.0 (ap (λ z. z.0) is)) (eq-eqb r.1 q.1 (ap (λ z. z.1) is)))
        named (r ∷ rs) (suc n) q f = or_right ((r.0 == q.0) && (r.1 == q.1)) (in_name rs q.0 q.1) (named rs n q f)

    pub role-given : (t : ℕ × ℕ × ℕ) (k : ℕ) → slice_get m.roles k ≡ Some t → is_given_role job t.0 ≡ true
    role-given t k e = ∥∥₁_elim lean (Bool-set (is_given_role job t.0) true) (λ found. by found.0 found.1)
      where
        by : (labels : List (List Concept)) → IsLeanBy axioms [] (label ∷ []) m labels → is_given_role job t.0 ≡ true
        by labels it =
            let asked = All-at (ℕ × ℕ × ℕ) (IsAsked labels) m.roles k t it.roles e in
            let within : is_within asked.from (closure_for job i) ≡ true =
            ∥∥₁_elim (it.reached t.1 asked.from asked.is_from) (Bool-set (is_within asked.from (closure_for job i)) true)
            (λ r. reached-within axioms [] (closure_for job i) closed (label ∷ []) goals asked.from r) in
            role-in t.0 asked.part (within-has asked.from (closure_for job i) (HasSome t.0 asked.part) within asked.asks)
