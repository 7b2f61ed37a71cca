-- What is found of each item of a list of JSON values, of which so much was found before the rest from i on.
use Rattle.std.proofs.Common.{◌≡◌, ℕ, ◌+◌, ◌<◌, ◌≤◌, List, [], ◌∷◌, ◌++◌, length, drop, get_or, Option, None, Some, refl, sym, ap, ◌∙◌}
use Rattle.std.specs.Prelude.{option_and_then, option_map}
use Rattle.std.proofs.lemmas.List.{append_assoc, append-nil, drop_all}
use Rattle.serde_json.specs.Data.{Data}
use Rattle.serde_json.specs.View.{view, items_view}
use Rattle.serde_json.specs.declared.value.Value.{Value}
use Rattle.dd_json.specs.Members.{◌>>=◌}
use Rattle.dd_cert.specs.Forms.{each_of}
use Rattle.dd_text.proofs.Building.{drop-next}

with_more : {A : Type 0} → (found : List A) (y : A) (rest : Option (List A)) → (rest >>= λ ys. Some ((found ++ y ∷ []) ++ ys)) ≡ (option_map (λ ys. y ∷ ys) rest >>= λ ys. Some (found ++ ys))
with_more found y None = refl
with_more found y (Some ys) = ap Some (append_assoc found (y ∷ []) ys)

module _ {A : Type 0} (find : Data → Option A) (vs : List Value) (i : ℕ) (found : List A) (so_far : (each_of find (items_view (drop i vs)) >>= λ xs. Some (found ++ xs)) ≡ each_of find (items_view vs)) where
  pub found-next : (v : Value) (y : A) (more : List A) → i < length vs → v ≡ get_or vs i v → find (view v) ≡ Some y → more ≡ found ++ y ∷ []
      → (each_of find (items_view (drop (i + 1) vs)) >>= λ xs. Some (more ++ xs)) ≡ each_of find (items_view vs)
  found-next v y more within is there pushed =
      let rest = each_of find (items_view (drop (i + 1) vs)) in
      ap (λ l. rest >>= λ xs. Some (l ++ xs)) pushed ∙ with_more found y rest
      ∙ sym (ap (λ l. each_of find (items_view l) >>= λ xs. Some (found ++ xs)) (drop-next vs i v within is) ∙ ap (λ o. option_and_then (λ x. option_map (λ xs. x ∷ xs) rest) o >>= λ xs. Some (found ++ xs)) there)
      ∙ so_far

  pub found-all : length vs ≤ i → each_of find (items_view vs) ≡ Some found
  found-all past = sym so_far ∙ ap (λ l. each_of find (items_view l) >>= λ xs. Some (found ++ xs)) (drop_all i vs past) ∙ ap Some (append-nil found)
