-- Steps of propagations, by the rows that these are kept as.
use Rattle.std.proofs.Common.{◌≡◌, ◌∙◌, ◌||◌, sym, refl, ap, ℕ, Bool, List, [], ◌∷◌, map, slice_get, Option, None, Some, inl, inr}
use Rattle.std.specs.List.{find, list_any}
use Rattle.std.specs.Option.{option_map, option_map_or}
use Rattle.std.proofs.lemmas.Bool.{cases_Bool, cond-true, cond-false}
use Rattle.std.proofs.lemmas.Option.{slice_get-map}

pub any-of_map : {A B : Type 0} (g : A → B) (f : B → Bool) (xs : List A) → list_any f (map g xs) ≡ list_any (λ x. f (g x)) xs
any-of_map g f [] = refl
any-of_map g f (x ∷ xs) = ap (λ b. f (g x) || b) (any-of_map g f xs)

map_or-of_map : {A B C : Type 0} (g : A → B) (f : B → C) (d : C) (o : Option A) → option_map_or f (option_map g o) d ≡ option_map_or (λ x. f (g x)) o d
map_or-of_map g f d None = refl
map_or-of_map g f d (Some x) = refl

pub at-of_map : {A B C : Type 0} (g : A → B) (f : B → C) (d : C) (xs : List A) (k : ℕ) → option_map_or f (slice_get (map g xs) k) d ≡ option_map_or (λ x. f (g x)) (slice_get xs k) d
at-of_map g f d xs k = ap (λ o. option_map_or f o d) (slice_get-map g xs k) ∙ map_or-of_map g f d (slice_get xs k)

find-of_map : {A B : Type 0} (g : A → B) (t : B → Bool) (xs : List A) → find t (map g xs) ≡ option_map g (find (λ x. t (g x)) xs)
find-of_map g t [] = refl
find-of_map g t (x ∷ xs) = elim (cases_Bool (t (g x))) [
  | inl yes' ↦ cond-true (t (g x)) (Some (g x)) (find t (map g xs)) yes' ∙ ap (option_map g) (sym (cond-true (t (g x)) (Some x) (find (λ y. t (g y)) xs) yes'))
  | inr no' ↦ cond-false (t (g x)) (Some (g x)) (find t (map g xs)) no' ∙ find-of_map g t xs ∙ ap (option_map g) (sym (cond-false (t (g x)) (Some x) (find (λ y. t (g y)) xs) no'))
]

pub found-of_map : {A B C : Type 0} (g : A → B) (t : B → Bool) (f : B → C) (d : C) (xs : List A) → option_map_or f (find t (map g xs)) d ≡ option_map_or (λ x. f (g x)) (find (λ x. t (g x)) xs) d
found-of_map g t f d xs = ap (λ o. option_map_or f o d) (find-of_map g t xs) ∙ map_or-of_map g f d (find (λ x. t (g x)) xs)
