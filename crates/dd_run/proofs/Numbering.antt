-- The set of the numbers of a label's concepts has the label's concepts.
use Rattle.std.proofs.Common.{◌≡◌, ◌∙◌, ◌==◌, ℕ, true, List, [], ◌∷◌, ap, sym, slice_get, inl, inr}
use Rattle.std.specs.List.{list_any}
use Rattle.std.proofs.lemmas.Bool.{or_left, or_right, or_cases, and_parts, eqb-true, eq-eqb}
use Rattle.std.proofs.lemmas.Option.{same_Some}
use Rattle.dd_concept.specs.declared.concept.Concept.{Concept}
use Rattle.dd_concept.specs.Same.{has, is_same, is_within, SameSet}
use Rattle.dd_concept.proofs.SameIs.{is_same-is, is-is_same}
use Rattle.dd_concept.proofs.Sets.{same_tests, within-has}
use Rattle.dd_set.specs.Words as words
use Rattle.dd_rules.specs.Closure.{are_distinct}
use Rattle.dd_rules.specs.Numbers.{concepts_at, place_of}
use Rattle.dd_rules.proofs.Numbered.{get-place, at-place, at-within}
use Rattle.dd_run.specs.Numbers.{AreNumbersOf}

-- two concepts of a list with one place are one
one-place : (xs : List Concept) (c d : Concept) → has xs c ≡ true → has xs d ≡ true → place_of xs c ≡ place_of xs d → c ≡ d
one-place xs c d h k e = same_Some c d (sym (get-place xs c h) ∙ ap (slice_get xs) e ∙ get-place xs d k)

module _ (concepts : List Concept) (distinct : are_distinct concepts ≡ true) where
  -- a number of the label's concepts is that of a concept of the label
  number-up : (label : List Concept) (c : Concept) → has concepts c ≡ true → has label c ≡ true → list_any (λ d. place_of concepts c == place_of concepts d) label ≡ true
  number-up [] c h k = k
  number-up (d ∷ ds) c h k = elim (or_cases (is_same d c) (has ds c) k) [
    | inl t ↦ or_left (place_of concepts c == place_of concepts d) (list_any (λ e. place_of concepts c == place_of concepts e) ds)
        (eq-eqb (place_of concepts c) (place_of concepts d) (ap (place_of concepts) (sym (is_same-is d c t))))
    | inr t ↦ or_right (place_of concepts c == place_of concepts d) (list_any (λ e. place_of concepts c == place_of concepts e) ds) (number-up ds c h t)
  ]

  number-down : (label : List Concept) (c : Concept) → is_within label concepts ≡ true → has concepts c ≡ true
      → list_any (λ d. place_of concepts c == place_of concepts d) label ≡ true → has label c ≡ true
  number-down [] c w h k = k
  number-down (d ∷ ds) c w h k =
      let inside = and_parts (has concepts d) (is_within ds concepts) w in
      elim (or_cases (place_of concepts c == place_of concepts d) (list_any (λ e. place_of concepts c == place_of concepts e) ds) k) [
        | inl t ↦ or_left (is_same d c) (has ds c)
            (is-is_same d c (sym (one-place concepts c d h inside.0 (eqb-true (place_of concepts c) (place_of concepts d) t))))
        | inr t ↦ or_right (is_same d c) (has ds c) (number-down ds c inside.1 h t)
      ]

  pub numbers-same : (label : List Concept) (ws : List ℕ) → is_within label concepts ≡ true → AreNumbersOf concepts label ws
      → SameSet (concepts_at concepts (words.has ws)) label
  numbers-same label ws w numbers c = same_tests (has (concepts_at concepts (words.has ws)) c) (has label c)
      (λ h. let inside = at-within concepts (words.has ws) c h in
      number-down label c w inside (sym (numbers (place_of concepts c)) ∙ sym (at-place concepts (words.has ws) c distinct inside) ∙ h))
      (λ h. let inside = within-has label concepts c w h in
      at-place concepts (words.has ws) c distinct inside ∙ numbers (place_of concepts c) ∙ number-up label c inside h)
