-- A label that is within that of a key is within that of the into rules that it needs.
use Rattle.std.proofs.Common.{◌≡◌, ◌∙◌, ℕ, Bool, true, cond, List, [], ◌∷◌, filter, flat_map, ap, subst, sym, inl, inr}
use Rattle.std.specs.List.{list_any}
use Rattle.std.proofs.lemmas.Bool.{cases_Bool, or_cases, or_left, or_right}
use Rattle.dd_concept.specs.declared.concept.Concept.{Concept}
use Rattle.dd_concept.specs.Same.{has, is_within}
use Rattle.dd_concept.proofs.Sets.{has-append, has-cases, within-from, within-has}
use Rattle.dd_peer.specs.declared.version.Pinned.{Pinned}
use Rattle.dd_task.specs.Goals.{source_of, no_source_of, asked_label}
use Rattle.dd_board.specs.Steps.{needed}

module _ (p : Pinned) (h i : ℕ) (label : List Concept) where
  abbrev test : ℕ → Bool
  test k = list_any (has label) (no_source_of p h i k)

  hits : (c : Concept) (cs : List Concept) → has label c ≡ true → has cs c ≡ true → list_any (has label) cs ≡ true
  hits c [] in_label there = cc
  hits c (d ∷ cs) in_label there = elim (has-cases c d cs there) [
    | inl e ↦ or_left (has label d) (list_any (has label) cs) (subst (λ x. has label x ≡ true) (sym e) in_label)
    | inr t ↦ or_right (has label d) (list_any (has label) cs) (hits c cs in_label t)
  ]

  kept : (c : Concept) (set : List ℕ) → has label c ≡ true → has (flat_map (no_source_of p h i) set) c ≡ true
      → has (flat_map (no_source_of p h i) (filter test set)) c ≡ true
  kept c [] in_label there = there
  kept c (k ∷ set) in_label there =
      elim (or_cases (has (no_source_of p h i k) c) (has (flat_map (no_source_of p h i) set) c)
      (sym (has-append (no_source_of p h i k) (flat_map (no_source_of p h i) set) c) ∙ there)) [
        | inl t ↦
            ap (λ b. has (flat_map (no_source_of p h i) (cond b (k ∷ filter test set) (filter test set))) c) (hits c (no_source_of p h i k) in_label t)
            ∙ has-append (no_source_of p h i k) (flat_map (no_source_of p h i) (filter test set)) c
            ∙ or_left (has (no_source_of p h i k) c) (has (flat_map (no_source_of p h i) (filter test set)) c) t
        | inr t ↦ elim (cases_Bool (test k)) [
          | inl passes ↦
              ap (λ b. has (flat_map (no_source_of p h i) (cond b (k ∷ filter test set) (filter test set))) c) passes
              ∙ has-append (no_source_of p h i k) (flat_map (no_source_of p h i) (filter test set)) c
              ∙ or_right (has (no_source_of p h i k) c) (has (flat_map (no_source_of p h i) (filter test set)) c) (kept c set in_label t)
          | inr fails ↦
              ap (λ b. has (flat_map (no_source_of p h i) (cond b (k ∷ filter test set) (filter test set))) c) fails ∙ kept c set in_label t
        ]
      ]

  pub within-needed : (o : ℕ) (set : List ℕ) → is_within label (asked_label p h i o set) ≡ true
      → is_within label (asked_label p h i o (needed p h i label set)) ≡ true
  within-needed o set w = within-from label (asked_label p h i o (needed p h i label set)) (λ c in_label.
      elim (or_cases (has (source_of p h i o) c) (has (flat_map (no_source_of p h i) set) c)
      (sym (has-append (source_of p h i o) (flat_map (no_source_of p h i) set) c) ∙ within-has label (asked_label p h i o set) c w in_label)) [
        | inl t ↦ has-append (source_of p h i o) (flat_map (no_source_of p h i) (needed p h i label set)) c
            ∙ or_left (has (source_of p h i o) c) (has (flat_map (no_source_of p h i) (needed p h i label set)) c) t
        | inr t ↦ has-append (source_of p h i o) (flat_map (no_source_of p h i) (needed p h i label set)) c
            ∙ or_right (has (source_of p h i o) c) (has (flat_map (no_source_of p h i) (needed p h i label set)) c) (kept c set in_label t)
      ])
