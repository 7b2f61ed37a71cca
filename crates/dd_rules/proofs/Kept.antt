-- What is read from the rows of a closure.
use Rattle.std.proofs.Common.{◌≡◌, ◌∙◌, ℕ, ◌+◌, ◌<◌, true, List, [], ◌∷◌, ◌++◌, length, get_or, map, take, sym, ap, subst, arith, Some, None, Option, slice_get, Result, Ok, Err, IfOk}
use Rattle.std.specs.Option.{option_map}
use Rattle.std.proofs.lemmas.List.{length-map, map-append, take_more}
use Rattle.std.proofs.lemmas.Option.{same_Some, slice_get-get_or, slice_get-map, slice_get_within, get_or_from_slice_get}
use Rattle.std.proofs.lemmas.Bool.{false≢true, false_from_ne_true}
use Rattle.dd_concept.specs.declared.concept.Axiom.{Axiom}
use Rattle.dd_concept.specs.declared.concept.Concept.{Concept}
use Rattle.dd_concept.specs.Normal.{nnf_of, nnf_not_of}
use Rattle.dd_concept.specs.Same.{has}
use Rattle.dd_rules.specs.Compiled.{concept_at}
use Rattle.dd_rules.specs.Concepts.{IsClosure}
use Rattle.dd_rules.specs.Numbers.{number_of, place_of, joined_of, axiom_numbers}
use Rattle.dd_rules.specs.Sources.{axiom_by}
use Rattle.dd_rules.specs.Trees.{trees}
use Rattle.dd_rules.specs.Walks.{concepts_in}
use Rattle.dd_rules.specs.declared.row.Row.{Row}
use Rattle.dd_rules.specs.declared.source.AxiomRows.{AxiomRows}
use Rattle.dd_rules.specs.declared.tables.AxiomNumbers.{AxiomNumbers}
use Rattle.dd_rules.proofs.Forming.{at, number-at, number-none, none-number}
use Rattle.dd_rules.proofs.Growing.{length-trees}
use Rattle.dd_rules.proofs.Keeping.{number-there, place-there}
use Rattle.dd_rules.proofs.Numbered.{has-get, get-place}
use Rattle.dd_rules.proofs.Visiting.{at-get}

-- one more item of a list that is mapped
pub map-next : {A B : Type 0} (f : A → B) (ys : List A) (k : ℕ) (y : A) (list more : List B) → slice_get ys k ≡ Some y → list ≡ map f (take k ys) → more ≡ list ++ f y ∷ [] → more ≡ map f (take (k + 1) ys)
map-next f ys k y list more here is e =
    e ∙ ap (λ l. l ++ f y ∷ []) is ∙ sym (map-append f (take k ys) (y ∷ []))
    ∙ ap (map f) (ap (λ x. take k ys ++ x ∷ []) (sym (get_or_from_slice_get ys k y y here)) ∙ sym (take_more ys k y (slice_get_within ys k y here)) ∙ ap (λ n. take n ys) (omega arith))

pub ok-then : {A E : Type 0} (r : Result A E) (P Q : A → Type 0) → ((x : A) → P x → Q x) → IfOk r P → IfOk r Q
ok-then (Ok x) P Q f h = f x h
ok-then (Err e) P Q f h = h

pub axiom-at : (items axioms : List AxiomRows) (k : ℕ) (d : AxiomRows) → items ≡ axioms → k < length items → slice_get axioms k ≡ Some (get_or items k d)
axiom-at items axioms k d is low = ap (λ l. slice_get l k) (sym is) ∙ slice_get-get_or items k d low

module _ (rows : List Row) (order : List ℕ) (numbers : List (Option ℕ)) (axioms : List AxiomRows) (h : IsClosure rows order numbers axioms) where
  pub numbers-count : (items : List (Option ℕ)) → items ≡ numbers → length items ≡ length rows
  numbers-count items is = ap length (is ∙ h.numbers_are) ∙ length-map (trees rows) (number_of (concepts_in (trees rows) order)) ∙ length-trees rows

  pub order-at : (items : List ℕ) (k : ℕ) → items ≡ order → k < length items → slice_get order k ≡ Some (get_or items k 0)
  order-at items k is low = ap (λ l. slice_get l k) (sym is) ∙ slice_get-get_or items k 0 low

  pub order-low : (items : List ℕ) (k : ℕ) → items ≡ order → k < length items → get_or items k 0 < length rows
  order-low items k is low = let w = h.within k (get_or items k 0) (order-at items k is low) in omega (arith, w, length-trees rows)

  row-low : (n k : ℕ) → slice_get order k ≡ Some n → n < length (trees rows)
  row-low n k e = h.within k n e

  -- the concept at a place of the order
  pub concept-get : (k n : ℕ) → slice_get order k ≡ Some n → slice_get (concepts_in (trees rows) order) k ≡ Some (concept_at (trees rows) n)
  concept-get k n e = slice_get-map (concept_at (trees rows)) order k ∙ ap (option_map (concept_at (trees rows))) e

  pub concept-has : (k n : ℕ) → slice_get order k ≡ Some n → has (concepts_in (trees rows) order) (concept_at (trees rows) n) ≡ true
  concept-has k n e = has-get (concepts_in (trees rows) order) k (concept_at (trees rows) n) (concept-get k n e)

  in-rows : (c : Concept) → has (concepts_in (trees rows) order) c ≡ true → has (trees rows) c ≡ true
  in-rows c t =
      let k = place_of (concepts_in (trees rows) order) c in
      let here = get-place (concepts_in (trees rows) order) c t in
      let low : k < length order = omega (arith, slice_get_within (concepts_in (trees rows) order) k c here, length-map order (concept_at (trees rows))) in
      let n_at = slice_get-get_or order k 0 low in
      let n_low = h.within k (get_or order k 0) n_at in
      let is : concept_at (trees rows) (get_or order k 0) ≡ c = same_Some (concept_at (trees rows) (get_or order k 0)) c (sym (concept-get k (get_or order k 0) n_at) ∙ here) in
      subst (λ d. has (trees rows) d ≡ true) is (has-get (trees rows) (get_or order k 0) (concept_at (trees rows) (get_or order k 0)) (at-get (trees rows) (get_or order k 0) n_low))

  -- the number of a concept by its row
  pub number-found : (c : Concept) (n : ℕ) (items : List (Option ℕ)) (o : Option ℕ) → Some n ≡ number_of (trees rows) c → items ≡ numbers → slice_get items n ≡ Some o
      → o ≡ number_of (concepts_in (trees rows) order) c
  number-found c n items o found is read =
      let here = number-at (trees rows) n c found in
      same_Some o (number_of (concepts_in (trees rows) order) c)
      (sym read ∙ number-there (concepts_in (trees rows) order) (trees rows) items n (is ∙ h.numbers_are) (slice_get_within (trees rows) n c here)
      ∙ ap (λ d. Some (number_of (concepts_in (trees rows) order) d)) (at (trees rows) n c here))

  pub number-missed : (c : Concept) → None ≡ number_of (trees rows) c → None ≡ number_of (concepts_in (trees rows) order) c
  number-missed c none = none-number (concepts_in (trees rows) order) c
      (false_from_ne_true (has (concepts_in (trees rows) order) c) (λ t. false≢true (sym (number-none (trees rows) c none) ∙ in-rows c t)))

  -- ---- axioms

  axiom-get : (k : ℕ) (s : AxiomRows) → slice_get axioms k ≡ Some s → slice_get (map (axiom_by (trees rows)) axioms) k ≡ Some (axiom_by (trees rows) s)
  axiom-get k s e = slice_get-map (axiom_by (trees rows)) axioms k ∙ ap (option_map (axiom_by (trees rows))) e

  pub sides-there : (k : ℕ) (s : AxiomRows) → slice_get axioms k ≡ Some s
      → (has (concepts_in (trees rows) order) (concept_at (trees rows) s.not_left) ≡ true) × (has (concepts_in (trees rows) order) (concept_at (trees rows) s.normal_right) ≡ true)
  sides-there k s e =
      let a : Axiom = axiom_by (trees rows) s in
      let here = axiom-get k s e in
      let is : get_or (map (axiom_by (trees rows)) axioms) k a ≡ a = get_or_from_slice_get (map (axiom_by (trees rows)) axioms) k a a here in
      let both = h.closed.sides k a (slice_get_within (map (axiom_by (trees rows)) axioms) k a here) in
      let sides = h.sides k s e in (
        ap (has (concepts_in (trees rows) order)) (sides.left_is ∙ ap (λ b. nnf_not_of b.left) (sym is)) ∙ both.left,
        ap (has (concepts_in (trees rows) order)) (sides.right_is ∙ ap (λ b. nnf_of b.right) (sym is)) ∙ both.right,
      )

  pub place-is : (items : List (Option ℕ)) (n : ℕ) → items ≡ numbers → n < length (trees rows) → has (concepts_in (trees rows) order) (concept_at (trees rows) n) ≡ true
      → slice_get items n ≡ Some (Some (place_of (concepts_in (trees rows) order) (concept_at (trees rows) n)))
  place-is items n is low t = place-there (concepts_in (trees rows) order) (trees rows) items n (is ∙ h.numbers_are) low t

  made : ℕ → ℕ → Option (List (Option ℕ)) → AxiomNumbers
  made l r j = record { left = l; right = r; joined = j }

  pub axiom-next : (k : ℕ) (s : AxiomRows) (l r : ℕ) (j : Option (List (Option ℕ))) (list more : List AxiomNumbers) → slice_get axioms k ≡ Some s
      → l ≡ place_of (concepts_in (trees rows) order) (concept_at (trees rows) s.not_left)
      → r ≡ place_of (concepts_in (trees rows) order) (concept_at (trees rows) s.normal_right)
      → j ≡ joined_of (concepts_in (trees rows) order) (concept_at (trees rows) s.left)
      → list ≡ map (axiom_numbers (concepts_in (trees rows) order)) (take k (map (axiom_by (trees rows)) axioms))
      → more ≡ list ++ record { left = l; right = r; joined = j } ∷ []
      → more ≡ map (axiom_numbers (concepts_in (trees rows) order)) (take (k + 1) (map (axiom_by (trees rows)) axioms))
  unfolding made
  axiom-next k s l r j list more e left right joined is pushed =
      let sides = h.sides k s e in
      let ys = concepts_in (trees rows) order in
      let same : made l r j ≡ axiom_numbers ys (axiom_by (trees rows) s) =
      ap (λ x. made x r j) (left ∙ ap (place_of ys) sides.left_is)
      ∙ ap (λ x. made (place_of ys (nnf_not_of (concept_at (trees rows) s.left))) x j) (right ∙ ap (place_of ys) sides.right_is)
      ∙ ap (made (place_of ys (nnf_not_of (concept_at (trees rows) s.left))) (place_of ys (nnf_of (concept_at (trees rows) s.right)))) joined in
      map-next (axiom_numbers ys) (map (axiom_by (trees rows)) axioms) k (axiom_by (trees rows) s) list more (axiom-get k s e) is (pushed ∙ ap (λ x. list ++ x ∷ []) same)
