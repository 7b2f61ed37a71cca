-- What rows say of an element is what the model says: whether it raises a key.
use Rattle.std.proofs.Common.{◌≡◌, ◌∙◌, ◌<◌, ◌+◌, ℕ, Bool, true, false, not, ◌&&◌, List, [], ◌∷◌, map, bytes_eq, Option, None, Some, ap, ap₂, refl, sym, inl, inr, arith}
use Rattle.std.specs.List.{slice_get, range_with_len}
use Rattle.std.specs.Option.{option_map, option_map_or}
use Rattle.std.proofs.lemmas.Bool.{cases_Bool}
use Rattle.std.proofs.lemmas.Option.{slice_get-map}
use Rattle.dd_interp.specs.declared.interp.Interp.{Interp}
use Rattle.dd_peer.specs.declared.version.Pinned.{Pinned}
use Rattle.dd_peer.specs.declared.version.Rule.{Rule}
use Rattle.dd_task.specs.Demands.{false_into}
use Rattle.dd_task.specs.Lines.{is_there}
use Rattle.dd_task.specs.Rules.{into_rules, onto_rules}
use Rattle.dd_task.specs.Tables.{elements_of, row_of, says, places_of}
use Rattle.dd_task.specs.Targets.{in_target, in_onto}
use Rattle.dd_task.proofs.KeyLists.{at-range}
use Rattle.dd_task.proofs.Places.{places_from, unfold_places}
use Rattle.dd_union.specs.Pieces.{rows_of, raises_by}

pub at-first_range : (n k : ℕ) → k < n → slice_get (range_with_len 0 n) k ≡ Some k
at-first_range n k lt = at-range 0 n k lt ∙ ap Some (let e : 0 + k ≡ k = omega arith in e)

module _ (p : Pinned) (i : ℕ) (m : Interp) (h y : ℕ) (lt : y < m.size) where
  says-target : (r : Rule) → says y (row_of m r) ≡ in_target m y r
  says-target r = ap (λ o. option_map_or (λ (b : Bool). b) o false)
      (slice_get-map (λ x. in_target m x r) (elements_of m) y ∙ ap (option_map (λ x. in_target m x r)) (at-first_range m.size y lt))

  places-map : (n : ℕ) (rules : List Rule)
      → places_from (List Bool) (λ row. not (says y row)) n (map (row_of m) rules) ≡ places_from Rule (λ r. not (in_target m y r)) n rules
  places-map n [] = refl
  places-map n (r ∷ rules) =
      let same : not (says y (row_of m r)) ≡ not (in_target m y r) = ap not (says-target r) in
      elim (cases_Bool (not (in_target m y r))) [
        | inl t ↦ unfold_places (List Bool) (λ row. not (says y row)) n (row_of m r) (map (row_of m) rules) true (same ∙ t)
            ∙ ap (λ ks. n ∷ ks) (places-map (n + 1) rules) ∙ sym (unfold_places Rule (λ q. not (in_target m y q)) n r rules true t)
        | inr f ↦ unfold_places (List Bool) (λ row. not (says y row)) n (row_of m r) (map (row_of m) rules) false (same ∙ f)
            ∙ places-map (n + 1) rules ∙ sym (unfold_places Rule (λ q. not (in_target m y q)) n r rules false f)
      ]

  there-mapped : (o : Option Rule) → is_there (option_map (row_of m) o) (says y) ≡ is_there o (in_target m y)
  there-mapped None = refl
  there-mapped (Some r) = says-target r

  abbrev lacked : ℕ → List ℕ
  lacked x = places_of false x (map (row_of m) (into_rules p h i))

  pub raises-is : (o : ℕ) (set : List ℕ) → raises_by (rows_of p i m h) o set y ≡ (in_onto p h i m y o && bytes_eq (false_into p h i m y) set)
  raises-is o set =
      ap₂ (λ a b. a && b)
      (ap (λ x. is_there x (says y)) (slice_get-map (row_of m) (onto_rules p h i) o) ∙ there-mapped (slice_get (onto_rules p h i) o))
      (ap (λ x. is_there x (λ l. bytes_eq l set)) (slice_get-map lacked (elements_of m) y ∙ ap (option_map lacked) (at-first_range m.size y lt))
      ∙ ap (λ l. bytes_eq l set) (places-map 0 (into_rules p h i)))
