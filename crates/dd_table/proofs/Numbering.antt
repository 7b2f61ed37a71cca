-- Labels and the numbers that a list of labels gives them.
use Rattle.std.proofs.Common.{◌≡◌, ℕ, zero, suc, ◌+◌, ◌<◌, Bool, true, false, not, cond, ◌||◌, List, [], ◌∷◌, ◌++◌, length, map, take, refl, sym, ap, ◌∙◌, subst, arith, ⊎_elim, inl, inr}
use Rattle.std.specs.Prelude.{◌⊎◌, Some, None, slice_get, position, nat_lt}
use Rattle.std.specs.List.{list_any, position_or_len, AllByRecursion, IsDistinct}
use Rattle.std.specs.Str.{bytes_eq}
use Rattle.std.proofs.lemmas.Slice.Eq.{bytes_eq-Decides}
use Rattle.std.proofs.lemmas.List.{map-append}
use Rattle.indexmap.specs.IndexSet.{insert_key}
use Rattle.std.proofs.lemmas.Bool.{false≢true}
use Rattle.std.proofs.lemmas.Map.Keys.{IsDistinct-head, IsDistinct-tail}
use Rattle.dd_table.specs.Labels.{has_label, with_label, number_of, place_of, AllPacked, KeepsLabels, IsWithoutRepeats}
use Rattle.dd_set.specs.Words.{IsPacked}

pub bytes_eq-same : (t : List ℕ) → bytes_eq t t ≡ true
bytes_eq-same t = (bytes_eq-Decides t t).1 refl

or-assoc : (a b c : Bool) → a || (b || c) ≡ (a || b) || c
or-assoc true b c = refl
or-assoc false b c = refl

pub has_label-append : (xs ys : List (List ℕ)) (t : List ℕ) → has_label (xs ++ ys) t ≡ has_label xs t || has_label ys t
has_label-append [] ys t = refl
has_label-append (x ∷ xs) ys t =
    ap (λ b. bytes_eq t x || b) (has_label-append xs ys t) ∙ or-assoc (bytes_eq t x) (has_label xs t) (has_label ys t)

-- a label that is there has a number below the length
pub number_of-within : (xs : List (List ℕ)) (t : List ℕ) → has_label xs t ≡ true → number_of xs t < length xs
number_of-within [] t h = cc
number_of-within (x ∷ xs) t h =
    (elim (bytes_eq t x) as (λ b. b || has_label xs t ≡ true → cond (not b) (1 + number_of xs t) 0 < suc (length xs)) [
      | true ↦ λ _. omega arith
      | false ↦ λ there. let within = number_of-within xs t there in omega arith
    ]) h

-- and stands there
pub slice_get-number_of : (xs : List (List ℕ)) (t : List ℕ) → has_label xs t ≡ true → slice_get xs (number_of xs t) ≡ Some t
slice_get-number_of [] t h = cc
slice_get-number_of (x ∷ xs) t h =
    (elim (bytes_eq t x) as (λ b. bytes_eq t x ≡ b → b || has_label xs t ≡ true → slice_get (x ∷ xs) (cond (not b) (1 + number_of xs t) 0) ≡ Some t) [
      | true ↦ λ same _. ap Some (sym ((bytes_eq-Decides t x).0 same))
      | false ↦ λ _ there. subst (λ n. slice_get (x ∷ xs) n ≡ Some t) (let e : suc (number_of xs t) ≡ 1 + number_of xs t = omega arith in e) (slice_get-number_of xs t there)
    ]) refl h

-- a label that is not there has the length for its number
pub number_of-new : (xs : List (List ℕ)) (t : List ℕ) → has_label xs t ≡ false → number_of xs t ≡ length xs
number_of-new [] t h = refl
number_of-new (x ∷ xs) t h =
    (elim (bytes_eq t x) as (λ b. b || has_label xs t ≡ false → cond (not b) (1 + number_of xs t) 0 ≡ suc (length xs)) [
      | true ↦ λ e. cc
      | false ↦ λ absent. let e = number_of-new xs t absent in omega arith
    ]) h

-- labels that are appended change no number
pub number_of-append : (xs ys : List (List ℕ)) (t : List ℕ) → has_label xs t ≡ true → number_of (xs ++ ys) t ≡ number_of xs t
number_of-append [] ys t h = cc
number_of-append (x ∷ xs) ys t h =
    (elim (bytes_eq t x) as (λ b. b || has_label xs t ≡ true → cond (not b) (1 + number_of (xs ++ ys) t) 0 ≡ cond (not b) (1 + number_of xs t) 0) [
      | true ↦ λ _. refl
      | false ↦ λ there. ap (λ n. 1 + n) (number_of-append xs ys t there)
    ]) h

-- what stands in a list is among its labels
pub has_label-slice_get : (xs : List (List ℕ)) (n : ℕ) (t : List ℕ) → slice_get xs n ≡ Some t → has_label xs t ≡ true
has_label-slice_get [] n t h = cc
has_label-slice_get (x ∷ xs) zero t h =
    let same : x ≡ t = cc in
    subst (λ b. b || has_label xs t ≡ true) (sym ((bytes_eq-Decides t x).1 (sym same))) refl
has_label-slice_get (x ∷ xs) (suc n) t h =
    subst (λ b. bytes_eq t x || b ≡ true) (sym (has_label-slice_get xs n t h)) (elim (bytes_eq t x) as (λ b. b || true ≡ true) [ true ↦ refl | false ↦ refl ])

-- two labels with one number are one label
pub number_of-apart : (xs : List (List ℕ)) (t u : List ℕ) → has_label xs t ≡ true → has_label xs u ≡ true → number_of xs t ≡ number_of xs u → t ≡ u
number_of-apart xs t u ht hu e =
    let at_t = slice_get-number_of xs t ht in
    let at_u = slice_get-number_of xs u hu in
    cc

take_front : (xs ys : List (List ℕ)) → take (length xs) (xs ++ ys) ≡ xs
take_front [] ys = refl
take_front (x ∷ xs) ys = ap (λ (l : List (List ℕ)). x ∷ l) (take_front xs ys)

-- a label is among the labels with it
pub has_label-with_label : (xs : List (List ℕ)) (t : List ℕ) → has_label (with_label xs t) t ≡ true
has_label-with_label xs t =
    elim (has_label xs t) as (λ b. has_label xs t ≡ b → has_label (cond b xs (xs ++ t ∷ [])) t ≡ true) [
      | true ↦ λ there. there
      | false ↦ λ _. has_label-append xs (t ∷ []) t ∙ ap (λ b. has_label xs t || (b || false)) (bytes_eq-same t) ∙ (elim (has_label xs t) as (λ b. b || true ≡ true) [ true ↦ refl | false ↦ refl ])
    ] refl

-- a label that is there is not added again
pub with_label-present : (xs : List (List ℕ)) (t : List ℕ) → has_label xs t ≡ true → with_label xs t ≡ xs
with_label-present xs t h = ap (λ b. cond b xs (xs ++ t ∷ [])) h

-- the number of a label after it is added is the one that it had, or the length
pub number_of-with_label : (xs : List (List ℕ)) (t : List ℕ) → number_of (with_label xs t) t ≡ number_of xs t
number_of-with_label xs t =
    elim (has_label xs t) as (λ b. has_label xs t ≡ b → number_of (cond b xs (xs ++ t ∷ [])) t ≡ number_of xs t) [
      | true ↦ λ _. refl
      | false ↦ λ absent. number_of-push xs t absent
    ] refl
  where
    number_of-push : (xs : List (List ℕ)) (t : List ℕ) → has_label xs t ≡ false → number_of (xs ++ t ∷ []) t ≡ number_of xs t
    number_of-push [] t h = ap (λ b. cond (not b) (1 + 0) 0) (bytes_eq-same t)
    number_of-push (x ∷ xs) t h =
        (elim (bytes_eq t x) as (λ b. b || has_label xs t ≡ false → cond (not b) (1 + number_of (xs ++ t ∷ []) t) 0 ≡ cond (not b) (1 + number_of xs t) 0) [
          | true ↦ λ e. cc
          | false ↦ λ absent. ap (λ n. 1 + n) (number_of-push xs t absent)
        ]) h

some_of : (b : Bool) (n m : ℕ) → Some n ≡ cond b (Some m) None → n ≡ m
some_of true n m h = cc
some_of false n m h = cc

-- the labels of keys, by a view of the keys
module _ {X : Type 0} (view : X → List ℕ) where
  pub has_label-map : (keys : List X) (t : List ℕ) → list_any (λ k. bytes_eq t (view k)) keys ≡ has_label (map view keys) t
  has_label-map [] t = refl
  has_label-map (k ∷ ks) t = ap (λ b. bytes_eq t (view k) || b) (has_label-map ks t)

  pub number_of-map : (keys : List X) (t : List ℕ) → position_or_len (λ k. bytes_eq t (view k)) keys ≡ number_of (map view keys) t
  number_of-map [] t = refl
  number_of-map (k ∷ ks) t = ap (λ n. cond (not (bytes_eq t (view k))) (1 + n) 0) (number_of-map ks t)

  -- a key that is inserted adds its label
  pub map-insert_key : (keys : List X) (k : X) → map view (insert_key (λ a b. bytes_eq (view a) (view b)) keys k) ≡ with_label (map view keys) (view k)
  map-insert_key keys k =
      subst (λ b. map view (cond (list_any (λ y. bytes_eq (view k) (view y)) keys) keys (keys ++ k ∷ [])) ≡ cond b (map view keys) (map view keys ++ view k ∷ [])) (has_label-map keys (view k)) (
      elim (list_any (λ y. bytes_eq (view k) (view y)) keys) as (λ b. map view (cond b keys (keys ++ k ∷ [])) ≡ cond b (map view keys) (map view keys ++ view k ∷ [])) [
        | true ↦ refl
        | false ↦ map-append view keys (k ∷ [])
      ])

  -- the position of a key that was found is its label's number
  pub number_of-position : (keys : List X) (t : List ℕ) (n : ℕ) → Some n ≡ position (λ k. bytes_eq t (view k)) keys → n ≡ number_of (map view keys) t
  number_of-position keys t n h =
      some_of (nat_lt (position_or_len (λ k. bytes_eq t (view k)) keys) (length keys)) n _ h ∙ number_of-map keys t

  -- no later key has the label of the first
  apart_from : (k : X) (ks : List X) (n : ℕ) (t : List ℕ) → AllByRecursion (λ y. bytes_eq (view k) (view y) ≡ false) ks → slice_get (map view ks) n ≡ Some t → bytes_eq t (view k) ≡ false
  apart_from k [] n t apart h = cc
  apart_from k (y ∷ ys) zero t apart h =
      let same : view y ≡ t = cc in
      elim (bytes_eq t (view k)) as (λ b. bytes_eq t (view k) ≡ b → b ≡ false) [
        | true ↦ λ e. let both : view k ≡ view y = sym ((bytes_eq-Decides t (view k)).0 e) ∙ sym same in
            absurd (false≢true (sym apart.0 ∙ (bytes_eq-Decides (view k) (view y)).1 both))
        | false ↦ λ _. refl
      ] refl
  apart_from k (y ∷ ys) (suc n) t apart h = apart_from k ys n t apart.1 h

  pub IsWithoutRepeats-from_IsDistinct : (keys : List X) → IsDistinct (λ k y. bytes_eq (view k) (view y)) keys → IsWithoutRepeats (map view keys)
  IsWithoutRepeats-from_IsDistinct [] d n t h = cc
  IsWithoutRepeats-from_IsDistinct (k ∷ ks) d zero t h =
      let same : view k ≡ t = cc in
      subst (λ b. cond (not b) (1 + number_of (map view ks) t) 0 ≡ 0) (sym ((bytes_eq-Decides t (view k)).1 (sym same))) refl
  IsWithoutRepeats-from_IsDistinct (k ∷ ks) d (suc n) t h =
      let head = IsDistinct-head (λ k y. bytes_eq (view k) (view y)) k ks d in
      let tail = IsDistinct-tail (λ k y. bytes_eq (view k) (view y)) k ks d in
      let rest = IsWithoutRepeats-from_IsDistinct ks tail n t h in
      subst (λ b. cond (not b) (1 + number_of (map view ks) t) 0 ≡ suc n) (sym (apart_from k ks n t head h)) (omega arith)

-- packed labels stay packed where one is added
get_push : (xs : List (List ℕ)) (y : List ℕ) (i : ℕ) (z : List ℕ) → slice_get (xs ++ y ∷ []) i ≡ Some z → (slice_get xs i ≡ Some z) ⊎ (y ≡ z)
get_push [] y zero z h = inr (cc)
get_push [] y (suc i) z h = cc
get_push (x ∷ xs) y zero z h = inl h
get_push (x ∷ xs) y (suc i) z h = get_push xs y i z h

pub AllPacked-with_label : (width : ℕ) (xs : List (List ℕ)) (l : List ℕ) → AllPacked width xs → IsPacked width l → AllPacked width (with_label xs l)
AllPacked-with_label width xs l all packed =
    elim (has_label xs l) as (λ b. AllPacked width (cond b xs (xs ++ l ∷ []))) [
      | true ↦ all
      | false ↦ λ n m at. ⊎_elim (λ old. all n m old) (λ same. subst (IsPacked width) same packed) (get_push xs l n m at)
    ]

pub get-map : {X : Type 0} (view : X → List ℕ) (keys : List X) (i : ℕ) (k : X) → slice_get keys i ≡ Some k → slice_get (map view keys) i ≡ Some (view k)
get-map view [] i k h = cc
get-map view (x ∷ xs) zero k h = let same : x ≡ k = cc in ap (λ y. Some (view y)) same
get-map view (x ∷ xs) (suc i) k h = get-map view xs i k h

-- a label keeps its position where one is added
pub keeps-with_label : (xs : List (List ℕ)) (l : List ℕ) → KeepsLabels xs (with_label xs l)
keeps-with_label xs l =
    elim (has_label xs l) as (λ b. KeepsLabels xs (cond b xs (xs ++ l ∷ []))) [
      | true ↦ λ n m at. at
      | false ↦ λ n m at. get-append xs (l ∷ []) n m at
    ]
  where
    get-append : (xs ys : List (List ℕ)) (n : ℕ) (m : List ℕ) → slice_get xs n ≡ Some m → slice_get (xs ++ ys) n ≡ Some m
    get-append [] ys n m h = cc
    get-append (x ∷ xs) ys zero m h = h
    get-append (x ∷ xs) ys (suc n) m h = get-append xs ys n m h

-- the position of a label that is there, and of one that is not
pub place_of-there : (xs : List (List ℕ)) (l : List ℕ) → has_label xs l ≡ true → place_of xs l ≡ Some (number_of xs l)
place_of-there xs l h = ap (λ b. cond b (Some (number_of xs l)) None) h

pub place_of-absent : (xs : List (List ℕ)) (l : List ℕ) → has_label xs l ≡ false → place_of xs l ≡ None
place_of-absent xs l h = ap (λ b. cond b (Some (number_of xs l)) None) h
