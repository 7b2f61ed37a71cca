-- The forms of a closure's concepts and its axioms by numbers speak of numbers of the closure.
use Rattle.std.proofs.Common.{◌≡◌, ◌∙◌, ℕ, ◌<◌, true, List, length, get_or, map, All, sym, ap, subst, arith, Some, None, Option, slice_get}
use Rattle.std.specs.Option.{option_map}
use Rattle.std.proofs.lemmas.List.{length-map}
use Rattle.std.proofs.lemmas.Option.{slice_get-get_or, slice_get-map, slice_get_within, get_or_from_slice_get, same_Some}
use Rattle.dd_concept.specs.declared.concept.Axiom.{Axiom}
use Rattle.dd_concept.specs.declared.concept.Concept.{Concept}
use Rattle.dd_concept.specs.declared.concept.Concept.TheOpen.{Concept-F}
use Rattle.dd_concept.specs.declared.concept.Concept.TheVariants as concept
use Rattle.dd_concept.specs.declared.concept.Concept.TheViews.{out-Concept}
use Rattle.dd_concept.specs.Closed.{HasParts, HasSides}
use Rattle.dd_concept.specs.Normal.{nnf_of, nnf_not_of}
use Rattle.dd_concept.specs.Same.{has}
use Rattle.dd_concept.proofs.SameIs.{of_form, of_form-out}
use Rattle.dd_rules.specs.Compiled.{sides_numbers}
use Rattle.dd_rules.specs.Numbers.{place_of, shape_of, shape_form, not_shape, axiom_numbers}
use Rattle.dd_rules.specs.Tables.{IsShapeWithin, IsAxiomWithin}
use Rattle.dd_rules.specs.declared.shape.Shape.{Shape}
use Rattle.dd_rules.specs.declared.tables.AxiomNumbers.{AxiomNumbers}
use Rattle.dd_rules.proofs.Numbered.{has-get, get-place}

-- a property of each item that is mapped
all-mapped : {A B : Type 0} (f : A → B) (P : B → Type 0) (xs : List A) (ys : List B) (a : A) → ys ≡ map f xs → ((k : ℕ) (x : A) → slice_get xs k ≡ Some x → P (f x)) → All P ys
all-mapped f P xs ys a is each k d low =
    let count : k < length xs = omega (arith, low, ap length is, length-map xs f) in
    let x_at = slice_get-get_or xs k a count in
    let y_at : slice_get ys k ≡ Some (f (get_or xs k a)) = ap (λ l. slice_get l k) is ∙ slice_get-map f xs k ∙ ap (option_map f) x_at in
    subst P (sym (get_or_from_slice_get ys k (f (get_or xs k a)) d y_at)) (each k (get_or xs k a) x_at)

place-low : (xs : List Concept) (c : Concept) → has xs c ≡ true → place_of xs c < length xs
place-low xs c t = slice_get_within xs (place_of xs c) c (get-place xs c t)

not-within : (n : ℕ) (y : Concept-F Concept) → IsShapeWithin n (not_shape y)
not-within n Concept-F.Top = tt
not-within n Concept-F.Bottom = tt
not-within n (Concept-F.Name a) = tt
not-within n (Concept-F.Not c) = tt
not-within n (Concept-F.And c d) = tt
not-within n (Concept-F.Or c d) = tt
not-within n (Concept-F.HasSome r c) = tt
not-within n (Concept-F.HasAll r c) = tt

form-within : (xs : List Concept) → HasParts xs → (y : Concept-F Concept) → has xs (of_form y) ≡ true → IsShapeWithin (length xs) (shape_form xs y)
form-within xs p Concept-F.Top t = tt
form-within xs p Concept-F.Bottom t = tt
form-within xs p (Concept-F.Name a) t = tt
form-within xs p (Concept-F.Not c) t = not-within (length xs) (out-Concept c)
form-within xs p (Concept-F.And c d) t = let both = p.ands c d t in (place-low xs c both.0, place-low xs d both.1)
form-within xs p (Concept-F.Or c d) t = let both = p.ors c d t in (place-low xs c both.0, place-low xs d both.1)
form-within xs p (Concept-F.HasSome r c) t = place-low xs c (p.somes r c t)
form-within xs p (Concept-F.HasAll r c) t = place-low xs c (p.alls r c t)

pub shapes-within : (xs : List Concept) (shapes : List Shape) → HasParts xs → shapes ≡ map (shape_of xs) xs → All (IsShapeWithin (length shapes)) shapes
shapes-within xs shapes p is =
    subst (λ n. All (IsShapeWithin n) shapes) (sym (ap length is ∙ length-map xs (shape_of xs)))
    (all-mapped (shape_of xs) (IsShapeWithin (length xs)) xs shapes concept.Top is
    (λ k c at. form-within xs p (out-Concept c) (ap (has xs) (of_form-out c) ∙ has-get xs k c at)))

pub axioms-within : (xs : List Concept) (axioms : List Axiom) (shapes : List Shape) (rows : List AxiomNumbers) → All (HasSides xs) axioms → shapes ≡ map (shape_of xs) xs → rows ≡ map (axiom_numbers xs) axioms
    → All (IsAxiomWithin (length shapes)) rows
axioms-within xs axioms shapes rows sides forms is =
    subst (λ n. All (IsAxiomWithin n) rows) (sym (ap length forms ∙ length-map xs (shape_of xs)))
    (all-mapped (axiom_numbers xs) (IsAxiomWithin (length xs)) axioms rows (record { left = concept.Top; right = concept.Top }) is
    (λ k a at. let both = sides-at k a at in record { left = place-low xs (nnf_not_of a.left) both.left; right = place-low xs (nnf_of a.right) both.right }))
  where
    sides-at : (k : ℕ) (a : Axiom) → slice_get axioms k ≡ Some a → HasSides xs a
    sides-at k a at = subst (HasSides xs) (get_or_from_slice_get axioms k a a at) (sides k a (slice_get_within axioms k a at))

-- what an axiom adds, by its numbers
pub sides-read : (xs : List Concept) (axioms : List Axiom) (rows : List AxiomNumbers) (k : ℕ) (one : AxiomNumbers) → rows ≡ map (axiom_numbers xs) axioms → slice_get rows k ≡ Some one
    → slice_get (map (sides_numbers xs) axioms) k ≡ Some (one.left, one.right)
sides-read xs axioms rows k one is at =
    slice_get-map (sides_numbers xs) axioms k ∙ read (slice_get axioms k) (sym (slice_get-map (axiom_numbers xs) axioms k) ∙ ap (λ l. slice_get l k) (sym is) ∙ at)
  where
    read : (o : Option Axiom) → option_map (axiom_numbers xs) o ≡ Some one → option_map (sides_numbers xs) o ≡ Some (one.left, one.right)
    read (Some a) e = ap (λ (r : AxiomNumbers). Some (r.left, r.right)) (same_Some (axiom_numbers xs a) one e)
    read None e = cc
