-- The closure is closed, and none of its concepts stands in it twice.
use Rattle.std.proofs.Common.{◌≡◌, ◌∙◌, ◌&&◌, ◌<◌, sym, refl, ap, subst, ℕ, zero, suc, Bool, true, List, [], ◌∷◌, ◌++◌, flat_map, All, length, get_or, inl, inr, arith}
use Rattle.std.proofs.lemmas.Bool.{false≢true, or_cases, or_left, or_right, and_from, and_parts}
use Rattle.dd_concept.specs.declared.concept.Axiom.{Axiom}
use Rattle.dd_concept.specs.declared.concept.Concept.{Concept}
use Rattle.dd_concept.specs.declared.concept.Concept.TheOpen.{Concept-F}
use Rattle.dd_concept.specs.declared.concept.Concept.TheViews.{out-Concept, outs-Top, outs-Bottom, outs-Name, outs-Not, outs-And, outs-Or, outs-HasSome, outs-HasAll}
use Rattle.dd_concept.specs.declared.concept.Concept.TheVariants.{Top, Bottom, Name, Not, And, Or, HasSome, HasAll}
use Rattle.dd_concept.specs.Closed.{HasParts, HasTargets, IsClosedFor}
use Rattle.dd_concept.specs.Normal.{nnf_of, nnf_not_of}
use Rattle.dd_concept.specs.Propagation.{Propagation}
use Rattle.dd_concept.specs.Same.{has, is_within}
use Rattle.dd_concept.proofs.Induction.{induct}
use Rattle.dd_concept.proofs.Sets.{has-head, has-tail, has-cases, has-append, within-from, within-has}
use Rattle.dd_concept.specs.Parts.{parts_in_order}
use Rattle.dd_rules.specs.Closure.{each_once, are_distinct, sides_of, sources_of, closure_of}
use Rattle.dd_rules.proofs.Once.{once-are_distinct, once-has}
use Rattle.dd_rules.proofs.Parts.{parts-Top, parts-Bottom, parts-Name, parts-Not, parts-And, parts-Or, parts-HasSome, parts-HasAll}

-- the parts of a concept themselves
abbrev parts_form : Concept-F Concept → List Concept
parts_form (Concept-F.And c d) = c ∷ d ∷ []
parts_form (Concept-F.Or c d) = c ∷ d ∷ []
parts_form (Concept-F.HasSome r c) = c ∷ []
parts_form (Concept-F.HasAll r c) = c ∷ []
parts_form _ = []

Spreads : List Concept → Type 0
Spreads xs = (c : Concept) → has xs c ≡ true → is_within (parts_form (out-Concept c)) xs ≡ true

within-append-left : (a xs ys : List Concept) → is_within a xs ≡ true → is_within a (xs ++ ys) ≡ true
within-append-left a xs ys w = within-from a (xs ++ ys) (λ c h. has-append xs ys c ∙ or_left (has xs c) (has ys c) (within-has a xs c w h))

within-append-right : (a xs ys : List Concept) → is_within a ys ≡ true → is_within a (xs ++ ys) ≡ true
within-append-right a xs ys w = within-from a (xs ++ ys) (λ c h. has-append xs ys c ∙ or_right (has xs c) (has ys c) (within-has a ys c w h))

within-more : (a xs : List Concept) (d : Concept) → is_within a xs ≡ true → is_within a (d ∷ xs) ≡ true
within-more a xs d w = within-from a (d ∷ xs) (λ c h. has-tail c d xs (within-has a xs c w h))

spreads-append : (xs ys : List Concept) → Spreads xs → Spreads ys → Spreads (xs ++ ys)
unfolding Spreads
spreads-append xs ys f g c h = elim (or_cases (has xs c) (has ys c) (sym (has-append xs ys c) ∙ h)) [
  | inl t ↦ within-append-left (parts_form (out-Concept c)) xs ys (f c t)
  | inr t ↦ within-append-right (parts_form (out-Concept c)) xs ys (g c t)
]

-- one concept more, whose parts are there
spreads-cons : (d : Concept) (y : Concept-F Concept) (xs : List Concept) → out-Concept d ≡ y → is_within (parts_form y) xs ≡ true → Spreads xs → Spreads (d ∷ xs)
unfolding Spreads
spreads-cons d y xs is w f c h = elim (has-cases c d xs h) [
  | inl e ↦ within-more (parts_form (out-Concept c)) xs d (subst (λ x. is_within (parts_form (out-Concept x)) xs ≡ true) e (ap (λ z. is_within (parts_form z) xs) is ∙ w))
  | inr t ↦ within-more (parts_form (out-Concept c)) xs d (f c t)
]

spreads-nil : Spreads []
unfolding Spreads
spreads-nil c h = absurd (false≢true h)

-- a concept is among its subconcepts, and so are the parts of each of these
record IsSpread (c : Concept) (xs : List Concept) : Type 0 where
  itself : has xs c ≡ true
  spreads : Spreads xs

plain : (c : Concept) (y : Concept-F Concept) → out-Concept c ≡ y → is_within (parts_form y) [] ≡ true → IsSpread c (c ∷ [])
plain c y is w = record { itself = has-head c []; spreads = spreads-cons c y [] is w spreads-nil }

two : (e : Concept) (y : Concept-F Concept) (c d : Concept) (xs ys : List Concept) → out-Concept e ≡ y → parts_form y ≡ (c ∷ d ∷ []) → IsSpread c xs → IsSpread d ys
    → IsSpread e (e ∷ (xs ++ ys))
two e y c d xs ys is parts h k = record {
  itself = has-head e (xs ++ ys);
  spreads = spreads-cons e y (xs ++ ys) is (ap (λ l. is_within l (xs ++ ys)) parts
      ∙ and_from (has (xs ++ ys) c) (has (xs ++ ys) d && true) (has-append xs ys c ∙ or_left (has xs c) (has ys c) h.itself)
      (and_from (has (xs ++ ys) d) true (has-append xs ys d ∙ or_right (has xs d) (has ys d) k.itself) refl))
      (spreads-append xs ys h.spreads k.spreads);
}

single : (e : Concept) (y : Concept-F Concept) (c : Concept) (xs : List Concept) → out-Concept e ≡ y → parts_form y ≡ (c ∷ []) → IsSpread c xs → IsSpread e (e ∷ xs)
single e y c xs is parts h = record {
  itself = has-head e xs;
  spreads = spreads-cons e y xs is (ap (λ l. is_within l xs) parts ∙ and_from (has xs c) true h.itself refl) h.spreads;
}

parts-spread : (c : Concept) → IsSpread c (parts_in_order c)
parts-spread = induct (λ c. IsSpread c (parts_in_order c)) (record {
  top = subst (IsSpread Top) (sym parts-Top) (plain Top Concept-F.Top outs-Top refl);
  bottom = subst (IsSpread Bottom) (sym parts-Bottom) (plain Bottom Concept-F.Bottom outs-Bottom refl);
  name = λ a. subst (IsSpread (Name a)) (sym (parts-Name a)) (plain (Name a) (Concept-F.Name a) (outs-Name a) refl);
  not = λ c _. subst (IsSpread (Not c)) (sym (parts-Not c)) (plain (Not c) (Concept-F.Not c) (outs-Not c) refl);
  and = λ c d h k. subst (IsSpread (And c d)) (sym (parts-And c d))
      (two (And c d) (Concept-F.And c d) c d (parts_in_order c) (parts_in_order d) (outs-And c d) refl h k);
  or = λ c d h k. subst (IsSpread (Or c d)) (sym (parts-Or c d))
      (two (Or c d) (Concept-F.Or c d) c d (parts_in_order c) (parts_in_order d) (outs-Or c d) refl h k);
  has_some = λ r c h. subst (IsSpread (HasSome r c)) (sym (parts-HasSome r c))
      (single (HasSome r c) (Concept-F.HasSome r c) c (parts_in_order c) (outs-HasSome r c) refl h);
  has_all = λ r c h. subst (IsSpread (HasAll r c)) (sym (parts-HasAll r c))
      (single (HasAll r c) (Concept-F.HasAll r c) c (parts_in_order c) (outs-HasAll r c) refl h);
})

all-spread : (xs : List Concept) → Spreads (flat_map parts_in_order xs)
all-spread [] = spreads-nil
all-spread (c ∷ cs) = spreads-append (parts_in_order c) (flat_map parts_in_order cs) (parts-spread c).spreads (all-spread cs)

all-itself : (xs : List Concept) (c : Concept) → has xs c ≡ true → has (flat_map parts_in_order xs) c ≡ true
all-itself [] c h = h
all-itself (d ∷ ds) c h = has-append (parts_in_order d) (flat_map parts_in_order ds) c ∙ elim (has-cases c d ds h) [
  | inl e ↦ or_left (has (parts_in_order d) c) (has (flat_map parts_in_order ds) c) (subst (λ x. has (parts_in_order d) x ≡ true) e (parts-spread d).itself)
  | inr t ↦ or_right (has (parts_in_order d) c) (has (flat_map parts_in_order ds) c) (all-itself ds c t)
]

parts-from : (xs : List Concept) → Spreads xs → HasParts xs
unfolding Spreads
parts-from xs s = record {
  ands = λ c d h. pair (has xs c) (has xs d) (sym (ap (λ y. is_within (parts_form y) xs) (outs-And c d)) ∙ s (And c d) h);
  ors = λ c d h. pair (has xs c) (has xs d) (sym (ap (λ y. is_within (parts_form y) xs) (outs-Or c d)) ∙ s (Or c d) h);
  somes = λ r c h. (and_parts (has xs c) true (sym (ap (λ y. is_within (parts_form y) xs) (outs-HasSome r c)) ∙ s (HasSome r c) h)).0;
  alls = λ r c h. (and_parts (has xs c) true (sym (ap (λ y. is_within (parts_form y) xs) (outs-HasAll r c)) ∙ s (HasAll r c) h)).0;
}
  where
    pair : (a b : Bool) → (a && (b && true)) ≡ true → (a ≡ true) × (b ≡ true)
    pair a b h = let both = and_parts a (b && true) h in (both.0, (and_parts b true both.1).0)

spreads-once : (xs : List Concept) → Spreads xs → Spreads (each_once xs)
unfolding Spreads
spreads-once xs s c h = within-from (parts_form (out-Concept c)) (each_once xs)
    (λ d m. once-has xs d ∙ within-has (parts_form (out-Concept c)) xs d (s c (sym (once-has xs c) ∙ h)) m)

sides-has : (axioms : List Axiom) (k : ℕ) (d : Axiom) → k < length axioms
    → (has (flat_map sides_of axioms) (nnf_not_of (get_or axioms k d).left) ≡ true) × (has (flat_map sides_of axioms) (nnf_of (get_or axioms k d).right) ≡ true)
sides-has [] k d lt = absurd (omega (arith, lt))
sides-has (a ∷ as') zero d lt = (
  has-head (nnf_not_of a.left) (nnf_of a.right ∷ flat_map sides_of as'),
  has-tail (nnf_of a.right) (nnf_not_of a.left) (nnf_of a.right ∷ flat_map sides_of as') (has-head (nnf_of a.right) (flat_map sides_of as')),
)
sides-has (a ∷ as') (suc k) d lt =
    let rest = sides-has as' k d (omega (arith, lt)) in
    let more : (c : Concept) → has (flat_map sides_of as') c ≡ true → has (flat_map sides_of (a ∷ as')) c ≡ true =
    λ c h. has-tail c (nnf_not_of a.left) (nnf_of a.right ∷ flat_map sides_of as') (has-tail c (nnf_of a.right) (flat_map sides_of as') h) in
    (more (nnf_not_of (get_or as' k d).left) rest.0, more (nnf_of (get_or as' k d).right) rest.1)

module _ (axioms : List Axiom) (extra : List Concept) where
  -- each source is in the closure
  pub closure-sources : (c : Concept) → has (sources_of axioms extra) c ≡ true → has (closure_of axioms extra) c ≡ true
  closure-sources c h = once-has (flat_map parts_in_order (sources_of axioms extra)) c ∙ all-itself (sources_of axioms extra) c h

  pub closure-extra : (c : Concept) → has extra c ≡ true → has (closure_of axioms extra) c ≡ true
  closure-extra c h = closure-sources c (has-append (flat_map sides_of axioms) extra c ∙ or_right (has (flat_map sides_of axioms) c) (has extra c) h)

  sides-in : (c : Concept) → has (flat_map sides_of axioms) c ≡ true → has (closure_of axioms extra) c ≡ true
  sides-in c h = closure-sources c (has-append (flat_map sides_of axioms) extra c ∙ or_left (has (flat_map sides_of axioms) c) (has extra c) h)

  pub closure-distinct : are_distinct (closure_of axioms extra) ≡ true
  closure-distinct = once-are_distinct (flat_map parts_in_order (sources_of axioms extra))

  -- the closure is closed for the axioms, and for propagations whose targets it has
  pub closure-closed : (props : List Propagation) → All (HasTargets (closure_of axioms extra)) props → IsClosedFor axioms props (closure_of axioms extra)
  closure-closed props targets = record {
    parts = parts-from (closure_of axioms extra) (spreads-once (flat_map parts_in_order (sources_of axioms extra)) (all-spread (sources_of axioms extra)));
    sides = λ k d lt. let both = sides-has axioms k d lt in
        record { left = sides-in (nnf_not_of (get_or axioms k d).left) both.0; right = sides-in (nnf_of (get_or axioms k d).right) both.1 };
    targets = targets;
  }
