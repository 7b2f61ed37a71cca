-- The closure that a walk has numbered, and the forms of its concepts.
use Rattle.std.proofs.Common.{◌≡◌, ◌∙◌, ℕ, zero, suc, ◌<◌, ◌≤◌, Bool, true, false, List, [], ◌∷◌, ◌++◌, length, map, All, refl, sym, ap, ap₂, subst, arith, Some, None, Option, slice_get, append_assoc, Result, Ok, Err, IfOk}
use Rattle.std.specs.Option.{option_map}
use Rattle.std.proofs.lemmas.Bool.{cond-true}
use Rattle.std.proofs.lemmas.Option.{same_Some, slice_get-map, slice_get_within}
use Rattle.dd_concept.specs.declared.concept.Axiom.{Axiom}
use Rattle.dd_concept.specs.declared.concept.Concept.{Concept}
use Rattle.dd_concept.specs.declared.concept.Concept.TheVariants as concept
use Rattle.dd_concept.specs.declared.concept.Concept.TheViews.{out-Concept, outs-Top, outs-Bottom, outs-Name, outs-Not, outs-And, outs-Or, outs-HasSome, outs-HasAll}
use Rattle.dd_concept.specs.Closed.{IsClosedFor}
use Rattle.dd_concept.specs.Conjunction.{names_joined, both_lists}
use Rattle.dd_concept.specs.Normal.{IsNormal, nnf_of, nnf_not_of}
use Rattle.dd_concept.specs.Same.{has}
use Rattle.dd_concept.proofs.JoinedForms.{joined-Top, joined-Bottom, joined-Name, joined-Not, joined-And, joined-Or, joined-HasSome, joined-HasAll}
use Rattle.dd_rules.specs.Closure.{are_distinct, closure_of}
use Rattle.dd_rules.specs.Compiled.{concept_at}
use Rattle.dd_rules.specs.Concepts.{IsClosure, AreSides, IsCollected}
use Rattle.dd_rules.specs.Numbers.{number_of, place_of, joined_of, shape_of, shape_form, not_shape}
use Rattle.dd_rules.specs.Sources.{Pairs, IsAxiomRow}
use Rattle.dd_rules.specs.Trees.{IsRows, trees, concept_of}
use Rattle.dd_rules.specs.Walks.{IsWalkOf, concepts_in}
use Rattle.dd_rules.specs.declared.row.Row.{Row}
use Rattle.dd_rules.specs.declared.row.Row.TheVariants as row
use Rattle.dd_rules.specs.declared.shape.Shape.{Shape}
use Rattle.dd_rules.specs.declared.shape.Shape.TheVariants as shape
use Rattle.dd_rules.specs.declared.source.AxiomRows.{AxiomRows}
use Rattle.dd_rules.proofs.Closing.{closure-closed, closure-distinct}
use Rattle.dd_rules.proofs.Forming.{at}
use Rattle.dd_rules.proofs.Normality.{closure-normal}
use Rattle.dd_rules.proofs.Pairing.{axioms-back}
use Rattle.dd_rules.proofs.Visiting.{at-get}

-- ---- what a walk has numbered

row-sides : (ts : List Concept) (axioms : List Axiom) (list : List AxiomRows) → Pairs (IsAxiomRow ts) axioms list → (k : ℕ) (s : AxiomRows) → slice_get list k ≡ Some s → AreSides ts s
row-sides ts [] [] h k s e = cc
row-sides ts [] (t ∷ rest) h k s e = absurd h
row-sides ts (a ∷ as') [] h k s e = cc
row-sides ts (a ∷ as') (t ∷ rest) h (suc k) s e = row-sides ts as' rest h.1 k s e
row-sides ts (a ∷ as') (t ∷ rest) h zero s e = subst (AreSides ts) (same_Some t s e) (record {
  left = slice_get_within ts t.left a.left h.0.left;
  right = slice_get_within ts t.right a.right h.0.right;
  not_left = slice_get_within ts t.not_left (nnf_not_of a.left) h.0.not_left;
  normal_right = slice_get_within ts t.normal_right (nnf_of a.right) h.0.normal_right;
  left_is = at ts t.not_left (nnf_not_of a.left) h.0.not_left ∙ ap nnf_not_of (sym (at ts t.left a.left h.0.left));
  right_is = at ts t.normal_right (nnf_of a.right) h.0.normal_right ∙ ap nnf_of (sym (at ts t.right a.right h.0.right));
})

pub closure-kept : (rows : List Row) (order : List ℕ) (numbers : List (Option ℕ)) (done : List Bool) (list : List AxiomRows) (axioms : List Axiom) (extra : List Concept)
    → IsRows rows → Pairs (IsAxiomRow (trees rows)) axioms list → IsWalkOf (trees rows) order numbers done → length order ≤ 4096 → All IsNormal extra
    → concepts_in (trees rows) order ≡ closure_of axioms extra → IsClosure rows order numbers list
closure-kept rows order numbers done list axioms extra h pairs walk few normal is = record {
  rows_are = h;
  numbers_are = walk.numbers_are;
  within = walk.within;
  few = few;
  distinct = ap are_distinct is ∙ closure-distinct axioms extra;
  closed = subst (λ l. IsClosedFor l [] (concepts_in (trees rows) order)) (sym (axioms-back (trees rows) axioms list pairs))
      (subst (IsClosedFor axioms []) (sym is) (closure-closed axioms extra [] (λ k d lt. absurd (omega (arith, lt)))));
  normal = λ c t. closure-normal axioms extra normal c (sym (ap (λ l. has l c) is) ∙ t);
  sides = row-sides (trees rows) axioms list pairs;
}

-- ---- the numbers of concepts that are there

pub number-there : (xs ts : List Concept) (numbers : List (Option ℕ)) (n : ℕ) → numbers ≡ map (number_of xs) ts → n < length ts → slice_get numbers n ≡ Some (number_of xs (concept_at ts n))
number-there xs ts numbers n is low = ap (λ l. slice_get l n) is ∙ slice_get-map (number_of xs) ts n ∙ ap (option_map (number_of xs)) (at-get ts n low)

pub place-there : (xs ts : List Concept) (numbers : List (Option ℕ)) (n : ℕ) → numbers ≡ map (number_of xs) ts → n < length ts → has xs (concept_at ts n) ≡ true
    → slice_get numbers n ≡ Some (Some (place_of xs (concept_at ts n)))
place-there xs ts numbers n is low t = number-there xs ts numbers n is low ∙ ap Some (cond-true (has xs (concept_at ts n)) (Some (place_of xs (concept_at ts n))) None t)

-- ---- forms

module _ (xs : List Concept) where
  pub shape-Top : (c : Concept) → c ≡ concept.Top → shape.Top ≡ shape_of xs c
  shape-Top c is = sym (ap (λ d. shape_form xs (out-Concept d)) is ∙ ap (shape_form xs) outs-Top)

  pub shape-Bottom : (c : Concept) → c ≡ concept.Bottom → shape.Bottom ≡ shape_of xs c
  shape-Bottom c is = sym (ap (λ d. shape_form xs (out-Concept d)) is ∙ ap (shape_form xs) outs-Bottom)

  pub shape-Name : (c : Concept) (a : ℕ) → c ≡ concept.Name a → shape.Name a ≡ shape_of xs c
  shape-Name c a is = sym (ap (λ d. shape_form xs (out-Concept d)) is ∙ ap (shape_form xs) (outs-Name a))

  pub shape-Not : (c d : Concept) (s : Shape) → c ≡ concept.Not d → s ≡ not_shape (out-Concept d) → s ≡ shape_of xs c
  shape-Not c d s is e = e ∙ sym (ap (λ d. shape_form xs (out-Concept d)) is ∙ ap (shape_form xs) (outs-Not d))

  pub shape-And : (c d e : Concept) (n m : ℕ) → c ≡ concept.And d e → n ≡ place_of xs d → m ≡ place_of xs e → shape.And n m ≡ shape_of xs c
  shape-And c d e n m is h k = ap₂ shape.And h k ∙ sym (ap (λ d. shape_form xs (out-Concept d)) is ∙ ap (shape_form xs) (outs-And d e))

  pub shape-Or : (c d e : Concept) (n m : ℕ) → c ≡ concept.Or d e → n ≡ place_of xs d → m ≡ place_of xs e → shape.Or n m ≡ shape_of xs c
  shape-Or c d e n m is h k = ap₂ shape.Or h k ∙ sym (ap (λ d. shape_form xs (out-Concept d)) is ∙ ap (shape_form xs) (outs-Or d e))

  pub shape-HasSome : (c d : Concept) (s n : ℕ) → c ≡ concept.HasSome s d → n ≡ place_of xs d → shape.HasSome s n ≡ shape_of xs c
  shape-HasSome c d s n is h = ap (shape.HasSome s) h ∙ sym (ap (λ d. shape_form xs (out-Concept d)) is ∙ ap (shape_form xs) (outs-HasSome s d))

  pub shape-HasAll : (c d : Concept) (s n : ℕ) → c ≡ concept.HasAll s d → n ≡ place_of xs d → shape.HasAll s n ≡ shape_of xs c
  shape-HasAll c d s n is h = ap (shape.HasAll s) h ∙ sym (ap (λ d. shape_form xs (out-Concept d)) is ∙ ap (shape_form xs) (outs-HasAll s d))

-- the complement of what is no name
pub complement-other : (cs : List Concept) (r : Row) → ((a : ℕ) → r ≡ row.Name a → ⊥) → shape.Top ≡ not_shape (out-Concept (concept_of cs r))
complement-other cs row.Top h = sym (ap not_shape outs-Top)
complement-other cs row.Bottom h = sym (ap not_shape outs-Bottom)
complement-other cs (row.Name a) h = absurd (h a refl)
complement-other cs (row.Not l) h = sym (ap not_shape (outs-Not (concept_at cs l)))
complement-other cs (row.And l k) h = sym (ap not_shape (outs-And (concept_at cs l) (concept_at cs k)))
complement-other cs (row.Or l k) h = sym (ap not_shape (outs-Or (concept_at cs l) (concept_at cs k)))
complement-other cs (row.HasSome s l) h = sym (ap not_shape (outs-HasSome s (concept_at cs l)))
complement-other cs (row.HasAll s l) h = sym (ap not_shape (outs-HasAll s (concept_at cs l)))

-- ---- conjunctions of names

module _ (xs : List Concept) where
  of_names : Option (List ℕ) → Option (List (Option ℕ))
  of_names o = option_map (map (λ a. number_of xs (concept.Name a))) o

  pub collected-Top : (c : Concept) → c ≡ concept.Top → joined_of xs c ≡ Some []
  unfolding of_names
  collected-Top c is = ap (λ d. of_names (names_joined d)) is ∙ ap of_names joined-Top

  pub collected-Name : (c : Concept) (a : ℕ) → c ≡ concept.Name a → joined_of xs c ≡ Some (number_of xs c ∷ [])
  unfolding of_names
  collected-Name c a is = ap (λ d. of_names (names_joined d)) is ∙ ap of_names (joined-Name a) ∙ ap (λ d. Some (number_of xs d ∷ [])) (sym is)

  pub collected-other : (cs : List Concept) (c : Concept) (r : Row) → c ≡ concept_of cs r → (r ≡ row.Top → ⊥) → ((a : ℕ) → r ≡ row.Name a → ⊥) → ((l k : ℕ) → r ≡ row.And l k → ⊥) → joined_of xs c ≡ None
  unfolding of_names
  collected-other cs c row.Top is no_top no_name no_and = absurd (no_top refl)
  collected-other cs c row.Bottom is no_top no_name no_and = ap (λ d. of_names (names_joined d)) is ∙ ap of_names joined-Bottom
  collected-other cs c (row.Name a) is no_top no_name no_and = absurd (no_name a refl)
  collected-other cs c (row.Not l) is no_top no_name no_and = ap (λ d. of_names (names_joined d)) is ∙ ap of_names (joined-Not (concept_at cs l))
  collected-other cs c (row.And l k) is no_top no_name no_and = absurd (no_and l k refl)
  collected-other cs c (row.Or l k) is no_top no_name no_and = ap (λ d. of_names (names_joined d)) is ∙ ap of_names (joined-Or (concept_at cs l) (concept_at cs k))
  collected-other cs c (row.HasSome s l) is no_top no_name no_and = ap (λ d. of_names (names_joined d)) is ∙ ap of_names (joined-HasSome s (concept_at cs l))
  collected-other cs c (row.HasAll s l) is no_top no_name no_and = ap (λ d. of_names (names_joined d)) is ∙ ap of_names (joined-HasAll s (concept_at cs l))

  map-both : (f : ℕ → Option ℕ) (ns ms : List ℕ) → map f (ns ++ ms) ≡ map f ns ++ map f ms
  map-both f [] ms = refl
  map-both f (n ∷ ns) ms = ap (λ l. f n ∷ l) (map-both f ns ms)

  none-left : (o p : Option (List ℕ)) → of_names o ≡ None → of_names (both_lists o p) ≡ None
  unfolding of_names
  none-left None p h = refl
  none-left (Some ns) p h = cc

  none-right : (o p : Option (List ℕ)) → of_names p ≡ None → of_names (both_lists o p) ≡ None
  unfolding of_names
  none-right None None h = refl
  none-right None (Some ms) h = refl
  none-right (Some ns) None h = refl
  none-right (Some ns) (Some ms) h = cc

  some-both : (o p : Option (List ℕ)) (l m : List (Option ℕ)) → of_names o ≡ Some l → of_names p ≡ Some m → of_names (both_lists o p) ≡ Some (l ++ m)
  unfolding of_names
  some-both None p l m h k = cc
  some-both (Some ns) None l m h k = cc
  some-both (Some ns) (Some ms) l m h k =
      ap Some (map-both (λ a. number_of xs (concept.Name a)) ns ms
      ∙ ap₂ (λ x y. x ++ y) (same_Some (map (λ a. number_of xs (concept.Name a)) ns) l h) (same_Some (map (λ a. number_of xs (concept.Name a)) ms) m k))

  pub collected-left : (c d e : Concept) → c ≡ concept.And d e → joined_of xs d ≡ None → joined_of xs c ≡ None
  unfolding of_names
  collected-left c d e is h = ap (λ d. of_names (names_joined d)) is ∙ ap of_names (joined-And d e) ∙ none-left (names_joined d) (names_joined e) h

  pub collected-And : (c d e : Concept) (old mid new : List (Option ℕ)) (b : Bool) → c ≡ concept.And d e → IsCollected xs d old mid true → IsCollected xs e mid new b → IsCollected xs c old new b
  unfolding of_names
  collected-And c d e old mid new true is h k = (
    h.0 ++ k.0,
    ap (λ d. of_names (names_joined d)) is ∙ ap of_names (joined-And d e) ∙ some-both (names_joined d) (names_joined e) h.0 k.0 h.1 k.1,
    k.2 ∙ ap (λ l. l ++ k.0) h.2 ∙ append_assoc old h.0 k.0,
  )
  collected-And c d e old mid new false is h k = ap (λ d. of_names (names_joined d)) is ∙ ap of_names (joined-And d e) ∙ none-right (names_joined d) (names_joined e) k

  pub collected-next : {E : Type 0} (c d e : Concept) (old mid new : List (Option ℕ)) (r : Result Bool E) → c ≡ concept.And d e → IsCollected xs d old mid true → IfOk r (IsCollected xs e mid new)
      → IfOk r (IsCollected xs c old new)
  collected-next c d e old mid new (Ok b) is h k = collected-And c d e old mid new b is h k
  collected-next c d e old mid new (Err x) is h k = k

  pub collected-name : (c : Concept) (a : ℕ) (o : Option ℕ) (old new : List (Option ℕ)) → c ≡ concept.Name a → o ≡ number_of xs c → new ≡ old ++ o ∷ [] → IsCollected xs c old new true
  collected-name c a o old new is number pushed = (number_of xs c ∷ [], collected-Name c a is, pushed ∙ ap (λ x. old ++ x ∷ []) number)
