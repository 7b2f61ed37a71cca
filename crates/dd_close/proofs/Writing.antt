-- Lines in numbers are right lines in concepts.
use Rattle.std.proofs.Common.{◌≡◌, ◌∙◌, ◌<◌, ◌≤◌, ◌+◌, ◌++◌, ◌&&◌, ◌==◌, sym, refl, ap, subst, ℕ, zero, suc, Bool, true, false, List, [], ◌∷◌, length, map, take, slice_get, if◌then◌else◌, Some, Option, inl, inr, arith}
use Rattle.std.specs.List.{list_all}
use Rattle.std.specs.Option.{option_map, option_map_or}
use Rattle.std.proofs.lemmas.Bool.{false≢true, or_cases, and_from, eqb-true, eq-eqb, cases_Bool, cond-true, cond-false}
use Rattle.std.proofs.lemmas.Option.{same_Some, slice_get-map, get_or_from_slice_get}
use Rattle.std.proofs.lemmas.List.{length-map, map-append}
use Rattle.std.proofs.Math.Seq.{take-suc}
use Rattle.dd_concept.specs.declared.concept.Axiom.{Axiom}
use Rattle.dd_concept.specs.declared.concept.Concept.{Concept}
use Rattle.dd_concept.specs.declared.concept.Concept.TheOpen.{Concept-F}
use Rattle.dd_concept.specs.declared.concept.Concept.TheViews.{out-Concept, outs-And, outs-Or, outs-HasSome}
use Rattle.dd_concept.specs.declared.concept.Concept.TheVariants.{Top, Bottom, Name, Not, And, Or, HasSome}
use Rattle.dd_concept.specs.Closed.{HasSides, IsClosedFor}
use Rattle.dd_concept.specs.Forms.{and_form, and_of, or_form, or_of, some_form, some_of}
use Rattle.dd_concept.specs.Normal.{nnf_of, nnf_not_of}
use Rattle.dd_concept.specs.Same.{has as has_concept, is_within}
use Rattle.dd_concept.specs.Successor.{is_passed}
use Rattle.dd_concept.proofs.SameIs.{of_form, of_form-out}
use Rattle.dd_concept.proofs.Sets.{has-head, has-tail, within-from}
use Rattle.dd_graph.specs.Right.{adding}
use Rattle.dd_graph.specs.View.{GraphView, concepts_in, props_at, rules_at}
use Rattle.dd_peer.specs.declared.version.Pinned.{Pinned}
use Rattle.dd_peer.specs.declared.version.PeerVersion.{PeerVersion}
use Rattle.dd_rules.specs.Closure.{are_distinct}
use Rattle.dd_rules.specs.Compiled.{concept_at}
use Rattle.dd_rules.specs.Forced.{is_clash}
use Rattle.dd_rules.specs.Least.{Implies}
use Rattle.dd_rules.specs.Numbers.{additions, axiom_numbers, concepts_at, not_shape, or_numbers, place_of, shape_form, shape_of}
use Rattle.dd_rules.specs.declared.clash.Clash.TheVariants as way_out
use Rattle.dd_rules.specs.declared.shape.Shape.{Shape}
use Rattle.dd_rules.specs.declared.shape.Shape.TheVariants as shape
use Rattle.dd_rules.specs.declared.shape.Step.TheVariants as way
use Rattle.dd_rules.specs.declared.tables.AxiomNumbers.{AxiomNumbers}
use Rattle.dd_rules.proofs.Lifting.{there}
use Rattle.dd_rules.proofs.Numbered.{at-place, at-within, get-place, has-get}
use Rattle.dd_set.specs.Sets.{numbers}
use Rattle.dd_set.specs.Words.{has}
use Rattle.dd_task.specs.Claims.{Claim}
use Rattle.dd_task.specs.declared.line.Prop.{Prop}
use Rattle.dd_task.specs.declared.line.Why.TheVariants as why
use Rattle.dd_task.specs.Goals.{claim_of_prop, claims_of_view}
use Rattle.dd_task.specs.Lines.{cites, cites_within, gives_reason, is_there}
use Rattle.dd_close.specs.Drafts.{Cites, IsByAnd, IsByChoice, IsBySuccessor, is_or_shape, passes}
use Rattle.dd_close.specs.Writes.{claim_at, claims_before}
use Rattle.dd_close.proofs.Choices.{All-at}
use Rattle.dd_close.proofs.Lefts.{clash-bottom, clash-name}

-- ---- lists

get-behind : {A : Type 0} (xs ys : List A) (m n : ℕ) → n ≡ length xs + m → slice_get (xs ++ ys) n ≡ slice_get ys m
get-behind [] ys m n e = ap (slice_get ys) (omega (arith, e))
get-behind (x ∷ xs) ys m zero e = absurd (omega (arith, e))
get-behind (x ∷ xs) ys m (suc n) e = get-behind xs ys m n (omega (arith, e))

get-take : {A : Type 0} (xs : List A) (k m : ℕ) → m < k → slice_get (take k xs) m ≡ slice_get xs m
get-take [] zero m lt = refl
get-take [] (suc k) m lt = refl
get-take (x ∷ xs) zero m lt = absurd (omega (arith, lt))
get-take (x ∷ xs) (suc k) zero lt = refl
get-take (x ∷ xs) (suc k) (suc m) lt = get-take xs k m (omega (arith, lt))

-- ---- a label as a list of its concepts

at-snoc : (cs : List Concept) (c : Concept) (p : ℕ → Bool) → concepts_at (cs ++ c ∷ []) p ≡ concepts_at cs p ++ (if p (length cs) then c ∷ [] else [])
at-snoc [] c p = refl
at-snoc (d ∷ ds) c p = elim (cases_Bool (p 0)) [
  | inl t ↦ cond-true (p 0) (d ∷ concepts_at (ds ++ c ∷ []) (λ n. p (suc n))) (concepts_at (ds ++ c ∷ []) (λ n. p (suc n))) t
      ∙ ap (λ l. d ∷ l) (at-snoc ds c (λ n. p (suc n)))
      ∙ ap (λ l. l ++ (if p (suc (length ds)) then c ∷ [] else [])) (sym (cond-true (p 0) (d ∷ concepts_at ds (λ n. p (suc n))) (concepts_at ds (λ n. p (suc n))) t))
  | inr f ↦ cond-false (p 0) (d ∷ concepts_at (ds ++ c ∷ []) (λ n. p (suc n))) (concepts_at (ds ++ c ∷ []) (λ n. p (suc n))) f
      ∙ at-snoc ds c (λ n. p (suc n))
      ∙ ap (λ l. l ++ (if p (suc (length ds)) then c ∷ [] else [])) (sym (cond-false (p 0) (d ∷ concepts_at ds (λ n. p (suc n))) (concepts_at ds (λ n. p (suc n))) f))
]

length-taken : {A : Type 0} (xs : List A) (n : ℕ) → n ≤ length xs → length (take n xs) ≡ n
length-taken [] zero le = refl
length-taken [] (suc n) le = absurd (omega (arith, le))
length-taken (x ∷ xs) zero le = refl
length-taken (x ∷ xs) (suc n) le = ap suc (length-taken xs n (omega (arith, le)))

picked-take : (cs : List Concept) (words : List ℕ) (n : ℕ) → n ≤ length cs → map (concept_at cs) (numbers words n) ≡ concepts_at (take n cs) (has words)
picked-take cs words zero le = refl
picked-take cs words (suc n) le =
    let lt : n < length cs = omega (arith, le) in
    let c = concept_at cs n in
    map-append (concept_at cs) (numbers words n) (if has words n then n ∷ [] else [])
    ∙ ap (λ l. l ++ map (concept_at cs) (if has words n then n ∷ [] else [])) (picked-take cs words n (omega (arith, le)))
    ∙ ap (λ l. concepts_at (take n cs) (has words) ++ l) (one (has words n))
    ∙ ap (λ m. concepts_at (take n cs) (has words) ++ (if has words m then c ∷ [] else [])) (sym (length-taken cs n (omega (arith, le))))
    ∙ sym (at-snoc (take n cs) c (has words))
    ∙ ap (λ l. concepts_at l (has words)) (sym (take-suc cs n Top lt))
  where
    one : (b : Bool) → map (concept_at cs) (if b then n ∷ [] else []) ≡ (if b then concept_at cs n ∷ [] else [])
    one true = refl
    one false = refl

take-all : {A : Type 0} (xs : List A) → take (length xs) xs ≡ xs
take-all [] = refl
take-all (x ∷ xs) = ap (λ l. x ∷ l) (take-all xs)

pub picked : (cs : List Concept) (words : List ℕ) → map (concept_at cs) (numbers words (length cs)) ≡ concepts_at cs (has words)
picked cs words = picked-take cs words (length cs) (omega arith) ∙ ap (λ l. concepts_at l (has words)) (take-all cs)

-- the concept at a place of the label is that of the number at the place
pub picked-at : (cs : List Concept) (words : List ℕ) (i n : ℕ) (c : Concept) → slice_get (numbers words (length cs)) i ≡ Some n → slice_get cs n ≡ Some c → slice_get (concepts_at cs (has words)) i ≡ Some c
picked-at cs words i n c e f =
    ap (λ l. slice_get l i) (sym (picked cs words)) ∙ slice_get-map (concept_at cs) (numbers words (length cs)) i ∙ ap (option_map (concept_at cs)) e
    ∙ ap Some (get_or_from_slice_get cs n c Top f)

-- ---- concepts by their forms

no-and : (z : Concept-F Concept) (a b : ℕ) → not_shape z ≡ shape.And a b → ⊥
no-and (Concept-F.Name x) a b e = cc
no-and z a b e = cc

and-form-of : (cs : List Concept) (c : Concept) (a b : ℕ) (y : Concept-F Concept) → of_form y ≡ c → shape_form cs y ≡ shape.And a b
    → (x : Concept) × (z : Concept) × (c ≡ And x z) × (a ≡ place_of cs x) × (b ≡ place_of cs z)
and-form-of cs c a b (Concept-F.And x z) is e = (x, z, sym is, cc, cc)
and-form-of cs c a b (Concept-F.Not d) is e = absurd (no-and (out-Concept d) a b e)
and-form-of cs c a b Concept-F.Top is e = cc
and-form-of cs c a b Concept-F.Bottom is e = cc
and-form-of cs c a b (Concept-F.Name n) is e = cc
and-form-of cs c a b (Concept-F.Or x z) is e = cc
and-form-of cs c a b (Concept-F.HasSome r x) is e = cc
and-form-of cs c a b (Concept-F.HasAll r x) is e = cc

no-or : (z : Concept-F Concept) (a b : ℕ) → not_shape z ≡ shape.Or a b → ⊥
no-or (Concept-F.Name x) a b e = cc
no-or z a b e = cc

or-form-of : (cs : List Concept) (c : Concept) (a b : ℕ) (y : Concept-F Concept) → of_form y ≡ c → shape_form cs y ≡ shape.Or a b
    → (x : Concept) × (z : Concept) × (c ≡ Or x z) × (a ≡ place_of cs x) × (b ≡ place_of cs z)
or-form-of cs c a b (Concept-F.Or x z) is e = (x, z, sym is, cc, cc)
or-form-of cs c a b (Concept-F.Not d) is e = absurd (no-or (out-Concept d) a b e)
or-form-of cs c a b Concept-F.Top is e = cc
or-form-of cs c a b Concept-F.Bottom is e = cc
or-form-of cs c a b (Concept-F.Name n) is e = cc
or-form-of cs c a b (Concept-F.And x z) is e = cc
or-form-of cs c a b (Concept-F.HasSome r x) is e = cc
or-form-of cs c a b (Concept-F.HasAll r x) is e = cc

no-some : (z : Concept-F Concept) (a b : ℕ) → not_shape z ≡ shape.HasSome a b → ⊥
no-some (Concept-F.Name x) a b e = cc
no-some z a b e = cc

some-form-of : (cs : List Concept) (c : Concept) (r b : ℕ) (y : Concept-F Concept) → of_form y ≡ c → shape_form cs y ≡ shape.HasSome r b
    → (x : Concept) × (c ≡ HasSome r x) × (b ≡ place_of cs x)
some-form-of cs c r b (Concept-F.HasSome s x) is e = (x, sym is ∙ ap (λ t. HasSome t x) cc, cc)
some-form-of cs c r b (Concept-F.Not d) is e = absurd (no-some (out-Concept d) r b e)
some-form-of cs c r b Concept-F.Top is e = cc
some-form-of cs c r b Concept-F.Bottom is e = cc
some-form-of cs c r b (Concept-F.Name n) is e = cc
some-form-of cs c r b (Concept-F.And x z) is e = cc
some-form-of cs c r b (Concept-F.Or x z) is e = cc
some-form-of cs c r b (Concept-F.HasAll s x) is e = cc

module _ (p : Pinned) (peer : ℕ) (view : List Prop) (version : PeerVersion) (v : GraphView) (distinct : are_distinct v.closure.concepts ≡ true)
    (closed : IsClosedFor v.closure.axioms (props_at v) v.closure.concepts) (labels : List (List ℕ)) (k : ℕ) (l : List ℕ) where
  abbrev cs : List Concept
  cs = v.closure.concepts

  abbrev L : List Concept
  L = concepts_in v l

  abbrev before : List Claim
  before = claims_before p peer view v labels k

  pub in-label : (c : Concept) → has_concept cs c ≡ true → has l (place_of cs c) ≡ true → has_concept L c ≡ true
  in-label c inside t = at-place cs (has l) c distinct inside ∙ t

  pub same-place : (c d : Concept) → has_concept cs c ≡ true → has_concept cs d ≡ true → place_of cs c ≡ place_of cs d → c ≡ d
  same-place c d h i e = same_Some c d (sym (get-place cs c h) ∙ ap (slice_get cs) e ∙ get-place cs d i)

  -- the list has each concept of the closure whose number is in the set
  abbrev Covers : (ℕ → Bool) → List Concept → Type 0
  Covers q X = (d : Concept) → has_concept cs d ≡ true → q (place_of cs d) ≡ true → has_concept X d ≡ true

  pub adding-covers : (c : Concept) (n : ℕ) (q : ℕ → Bool) (X : List Concept) → n ≡ place_of cs c → has_concept cs c ≡ true → Covers q X → Covers (adding n q) (c ∷ X)
  adding-covers c n q X is inside f d h t = elim (or_cases (place_of cs d == n) (q (place_of cs d)) t) [
    | inl e ↦ subst (λ x. has_concept (c ∷ X) x ≡ true) (same-place c d inside h (sym is ∙ sym (eqb-true (place_of cs d) n e))) (has-head c X)
    | inr o ↦ has-tail d c X (f d h o)
  ]

  -- a cited line
  pub cited : (m : ℕ) (q : ℕ → Bool) (test : List Concept → Bool) → (h : Cites labels k m q) → test (concepts_in v h.label) ≡ true → cites before peer (length view + m) test ≡ true
  cited m q test h t = ap (λ o. is_there o (λ claim. (claim.peer == peer) && test claim.label)) found ∙ and_from (peer == peer) (test (concepts_in v h.label)) (eq-eqb peer peer refl) t
    where
      found : slice_get before (length view + m) ≡ Some (claim_at v peer h.label)
      found = get-behind (claims_of_view p peer view) (map (claim_at v peer) (take k labels)) m (length view + m) (ap (λ n. n + m) (sym (length-map view (claim_of_prop p peer))))
          ∙ slice_get-map (claim_at v peer) (take k labels) m ∙ ap (option_map (claim_at v peer)) (get-take labels k m h.earlier ∙ h.there)

  pub within-covers : (w : List ℕ) (q : ℕ → Bool) (X : List Concept) → Implies (has w) q → Covers q X → is_within (concepts_in v w) X ≡ true
  within-covers w q X imp f = within-from (concepts_in v w) X (λ d h.
      let inside = at-within cs (has w) d h in f d inside (imp (place_of cs d) (sym (at-place cs (has w) d distinct inside) ∙ h)))

  pub cited-within : (m : ℕ) (q : ℕ → Bool) (X : List Concept) → Cites labels k m q → Covers q X → cites_within before peer (length view + m) X ≡ true
  cited-within m q X h f = cited m q (λ c. is_within c X) h (within-covers h.label q X h.within f)

  -- ---- the reasons

  pub why-bottom : is_clash (rules_at v) (has l) way_out.Bottom ≡ true → gives_reason p before peer version L why.Bottom ≡ true
  why-bottom h = let both = clash-bottom v distinct closed.parts (has l) h in in-label Bottom both.0 both.1

  pub why-clash : (a : ℕ) → is_clash (rules_at v) (has l) (way_out.Name a) ≡ true → gives_reason p before peer version L (why.Clash a) ≡ true
  why-clash a h =
      let both = clash-name v distinct closed.parts (has l) a h in
      and_from (has_concept L (Name a)) (has_concept L (Not (Name a))) (in-label (Name a) both.0.0 both.0.1) (in-label (Not (Name a)) both.1.0 both.1.1)

  concept-of : (n : ℕ) (s : Shape) → slice_get (rules_at v).shapes n ≡ Some s → (c : Concept) × (slice_get cs n ≡ Some c) × (shape_of cs c ≡ s)
  concept-of n s e = by cs n e
    where
      by : (xs : List Concept) (n : ℕ) → slice_get (map (shape_of cs) xs) n ≡ Some s → (c : Concept) × (slice_get xs n ≡ Some c) × (shape_of cs c ≡ s)
      by [] n e = cc
      by (x ∷ xs) zero e = (x, refl, same_Some (shape_of cs x) s e)
      by (x ∷ xs) (suc n) e = by xs n e

  pub why-and : (at cite place : ℕ) → IsByAnd (rules_at v) labels k (has l) at cite → slice_get (numbers l (length cs)) place ≡ Some at
      → gives_reason p before peer version L (why.And place (length view + cite)) ≡ true
  why-and at cite place h e =
      let c = concept-of at (shape.And h.left h.right) h.shape_is in
      let form = and-form-of cs c.0 h.left h.right (out-Concept c.0) (of_form-out c.0) c.2 in
      let placed = picked-at cs l place at c.0 e c.1 in
      let inside = closed.parts.ands form.0 form.1 (has-get cs at (And form.0 form.1) (c.1 ∙ ap Some form.2)) in
      ap (λ o. is_there o (λ d. is_there (and_of d) (λ parts. cites_within before peer (length view + cite) (parts.0 ∷ parts.1 ∷ L)))) (placed ∙ ap Some form.2)
      ∙ ap (λ y. is_there (and_form y) (λ parts. cites_within before peer (length view + cite) (parts.0 ∷ parts.1 ∷ L))) (outs-And form.0 form.1)
      ∙ cited-within cite (adding h.left (adding h.right (has l))) (form.0 ∷ form.1 ∷ L) h.cited
      (adding-covers form.0 h.left (adding h.right (has l)) (form.1 ∷ L) form.3 inside.0 (adding-covers form.1 h.right (has l) L form.4 inside.1 in-label))

  pub why-or : (n left right place : ℕ) → IsByChoice (rules_at v) labels k (has l) (way.Or n) (left ∷ right ∷ []) → slice_get (numbers l (length cs)) place ≡ Some n
      → gives_reason p before peer version L (why.Or place (length view + left) (length view + right)) ≡ true
  why-or n left right place h e =
      let s = there (slice_get (rules_at v).shapes n) _ h.step in
      or-case s.0 s.1 s.2
    where
      or-case : (s : Shape) → slice_get (rules_at v).shapes n ≡ Some s → is_or_shape s ≡ true → gives_reason p before peer version L (why.Or place (length view + left) (length view + right)) ≡ true
      or-case (shape.Or a b) at t =
          let c = concept-of n (shape.Or a b) at in
          let form = or-form-of cs c.0 a b (out-Concept c.0) (of_form-out c.0) c.2 in
          let placed = picked-at cs l place n c.0 e c.1 in
          let inside = closed.parts.ors form.0 form.1 (has-get cs n (Or form.0 form.1) (c.1 ∙ ap Some form.2)) in
          let added : additions (rules_at v) (way.Or n) ≡ (a ∷ b ∷ []) = ap (λ o. option_map_or or_numbers o []) at in
          ap (λ o. is_there o (λ d. is_there (or_of d) (λ parts. cites_within before peer (length view + left) (parts.0 ∷ L) && cites_within before peer (length view + right) (parts.1 ∷ L)))) (placed ∙ ap Some form.2)
          ∙ ap (λ y. is_there (or_form y) (λ parts. cites_within before peer (length view + left) (parts.0 ∷ L) && cites_within before peer (length view + right) (parts.1 ∷ L))) (outs-Or form.0 form.1)
          ∙ and_from (cites_within before peer (length view + left) (form.0 ∷ L)) (cites_within before peer (length view + right) (form.1 ∷ L))
          (cited-within left (adding a (has l)) (form.0 ∷ L) (h.cited.each zero a left (ap (λ ns. slice_get ns zero) added) refl) (adding-covers form.0 a (has l) L form.3 inside.0 in-label))
          (cited-within right (adding b (has l)) (form.1 ∷ L) (h.cited.each (suc zero) b right (ap (λ ns. slice_get ns (suc zero)) added) refl) (adding-covers form.1 b (has l) L form.4 inside.1 in-label))
      or-case shape.Top at t = absurd (false≢true t)
      or-case shape.Bottom at t = absurd (false≢true t)
      or-case (shape.Name a) at t = absurd (false≢true t)
      or-case (shape.Not a) at t = absurd (false≢true t)
      or-case (shape.And a b) at t = absurd (false≢true t)
      or-case (shape.HasSome a b) at t = absurd (false≢true t)
      or-case (shape.HasAll a b) at t = absurd (false≢true t)

  pub why-axiom : (index left right : ℕ) → IsByChoice (rules_at v) labels k (has l) (way.Axiom index) (left ∷ right ∷ []) → v.closure.axioms ≡ version.axioms
      → gives_reason p before peer version L (why.Axiom index (length view + left) (length view + right)) ≡ true
  why-axiom index left right h same =
      let t = there (slice_get (rules_at v).axioms index) _ h.step in
      let a = axiom-of v.closure.axioms index t.0 t.1 in
      let inside = All-at (HasSides cs) v.closure.axioms index a.0 closed.sides a.1 in
      let added : additions (rules_at v) (way.Axiom index) ≡ (place_of cs (nnf_not_of a.0.left) ∷ place_of cs (nnf_of a.0.right) ∷ []) =
      ap (λ (o : Option AxiomNumbers). option_map_or (λ (x : AxiomNumbers). x.left ∷ x.right ∷ []) o []) (t.1 ∙ ap Some (sym a.2)) in
      ap (λ xs. is_there (slice_get xs index) (λ (b : Axiom). cites_within before peer (length view + left) (nnf_not_of b.left ∷ L) && cites_within before peer (length view + right) (nnf_of b.right ∷ L))) (sym same)
      ∙ ap (λ o. is_there o (λ (b : Axiom). cites_within before peer (length view + left) (nnf_not_of b.left ∷ L) && cites_within before peer (length view + right) (nnf_of b.right ∷ L))) a.1
      ∙ and_from (cites_within before peer (length view + left) (nnf_not_of a.0.left ∷ L)) (cites_within before peer (length view + right) (nnf_of a.0.right ∷ L))
      (cited-within left (adding (place_of cs (nnf_not_of a.0.left)) (has l)) (nnf_not_of a.0.left ∷ L) (h.cited.each zero (place_of cs (nnf_not_of a.0.left)) left (ap (λ ns. slice_get ns zero) added) refl)
      (adding-covers (nnf_not_of a.0.left) (place_of cs (nnf_not_of a.0.left)) (has l) L refl inside.left in-label))
      (cited-within right (adding (place_of cs (nnf_of a.0.right)) (has l)) (nnf_of a.0.right ∷ L) (h.cited.each (suc zero) (place_of cs (nnf_of a.0.right)) right (ap (λ ns. slice_get ns (suc zero)) added) refl)
      (adding-covers (nnf_of a.0.right) (place_of cs (nnf_of a.0.right)) (has l) L refl inside.right in-label))
    where
      axiom-of : (xs : List Axiom) (n : ℕ) (x : AxiomNumbers) → slice_get (map (axiom_numbers cs) xs) n ≡ Some x → (a : Axiom) × (slice_get xs n ≡ Some a) × (axiom_numbers cs a ≡ x)
      axiom-of [] n x e = cc
      axiom-of (y ∷ ys) zero x e = (y, refl, same_Some (axiom_numbers cs y) x e)
      axiom-of (y ∷ ys) (suc n) x e = axiom-of ys n x e

  -- what a label of numbers passes on along a role, it passes on as a label of concepts
  pub why-successor : (at cite place : ℕ) → IsBySuccessor (rules_at v) labels k (has l) at cite → slice_get (numbers l (length cs)) place ≡ Some at
      → ((role part : ℕ) (c : Concept) → part ≡ place_of cs c → has_concept cs c ≡ true → (w : List ℕ) → Implies (has w) (passes (rules_at v) (has l) role part) → list_all (is_passed L role c) (concepts_in v w) ≡ true)
      → gives_reason p before peer version L (why.Successor place (length view + cite)) ≡ true
  why-successor at cite place h e passed =
      let c = concept-of at (shape.HasSome h.role h.part) h.shape_is in
      let form = some-form-of cs c.0 h.role h.part (out-Concept c.0) (of_form-out c.0) c.2 in
      let placed = picked-at cs l place at c.0 e c.1 in
      let inside = closed.parts.somes h.role form.0 (has-get cs at (HasSome h.role form.0) (c.1 ∙ ap Some form.1)) in
      ap (λ o. is_there o (λ d. is_there (some_of d) (λ part. cites before peer (length view + cite) (λ ds. list_all (is_passed L part.0 part.1) ds)))) (placed ∙ ap Some form.1)
      ∙ ap (λ y. is_there (some_form y) (λ part. cites before peer (length view + cite) (λ ds. list_all (is_passed L part.0 part.1) ds))) (outs-HasSome h.role form.0)
      ∙ cited cite (passes (rules_at v) (has l) h.role h.part) (λ ds. list_all (is_passed L h.role form.0) ds) h.cited (passed h.role h.part form.0 form.2 inside h.cited.label h.cited.within)
