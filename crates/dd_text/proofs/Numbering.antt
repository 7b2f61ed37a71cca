-- Texts and the numbers that a list of texts gives them.
use Rattle.std.proofs.Common.{◌≡◌, ℕ, zero, suc, ◌+◌, ◌<◌, ◌≤◌, Bool, true, false, not, cond, ◌||◌, List, [], ◌∷◌, ◌++◌, length, map, take, refl, sym, ap, ◌∙◌, subst, arith, append_assoc, length-append}
use Rattle.std.specs.Prelude.{◌↔◌, Some, None, slice_get, position, nat_lt, ◌&&◌, ◌==◌}
use Rattle.std.specs.List.{list_any, position_or_len, AllByRecursion, IsDistinct}
use Rattle.std.specs.Str.{bytes_eq}
use Rattle.std.proofs.lemmas.Slice.Eq.{bytes_eq-Decides}
use Rattle.std.proofs.lemmas.List.{map-append}
use Rattle.indexmap.specs.IndexSet.{insert_key}
use Rattle.std.proofs.lemmas.Bool.{false≢true}
use Rattle.std.proofs.lemmas.Map.Keys.{IsDistinct-head, IsDistinct-tail}
use Rattle.dd_text.specs.Names.{names_a_thing}
use Rattle.dd_text.specs.Symbols.{Appends, most_symbols, are_names, has_text, lacks_room, with_text, with_texts, number_of, IsWithoutRepeats}

pub bytes_eq-same : (t : List ℕ) → bytes_eq t t ≡ true
bytes_eq-same t = (bytes_eq-Decides t t).1 refl

or-assoc : (a b c : Bool) → a || (b || c) ≡ (a || b) || c
or-assoc true b c = refl
or-assoc false b c = refl

pub has_text-append : (xs ys : List (List ℕ)) (t : List ℕ) → has_text (xs ++ ys) t ≡ has_text xs t || has_text ys t
has_text-append [] ys t = refl
has_text-append (x ∷ xs) ys t =
    ap (λ b. bytes_eq t x || b) (has_text-append xs ys t) ∙ or-assoc (bytes_eq t x) (has_text xs t) (has_text ys t)

-- a text that is there has a number below the length
pub number_of-within : (xs : List (List ℕ)) (t : List ℕ) → has_text xs t ≡ true → number_of xs t < length xs
number_of-within [] t h = cc
number_of-within (x ∷ xs) t h =
    (elim (bytes_eq t x) as (λ b. b || has_text xs t ≡ true → cond (not b) (1 + number_of xs t) 0 < suc (length xs)) [
      | true ↦ λ _. omega arith
      | false ↦ λ there. let within = number_of-within xs t there in omega arith
    ]) h

-- and stands there
pub slice_get-number_of : (xs : List (List ℕ)) (t : List ℕ) → has_text xs t ≡ true → slice_get xs (number_of xs t) ≡ Some t
slice_get-number_of [] t h = cc
slice_get-number_of (x ∷ xs) t h =
    (elim (bytes_eq t x) as (λ b. bytes_eq t x ≡ b → b || has_text xs t ≡ true → slice_get (x ∷ xs) (cond (not b) (1 + number_of xs t) 0) ≡ Some t) [
      | true ↦ λ same _. ap Some (sym ((bytes_eq-Decides t x).0 same))
      | false ↦ λ _ there. subst (λ n. slice_get (x ∷ xs) n ≡ Some t) (let e : suc (number_of xs t) ≡ 1 + number_of xs t = omega arith in e) (slice_get-number_of xs t there)
    ]) refl h

-- a text that is not there has the length for its number
pub number_of-new : (xs : List (List ℕ)) (t : List ℕ) → has_text xs t ≡ false → number_of xs t ≡ length xs
number_of-new [] t h = refl
number_of-new (x ∷ xs) t h =
    (elim (bytes_eq t x) as (λ b. b || has_text xs t ≡ false → cond (not b) (1 + number_of xs t) 0 ≡ suc (length xs)) [
      | true ↦ λ e. cc
      | false ↦ λ absent. let e = number_of-new xs t absent in omega arith
    ]) h

-- texts that are appended change no number
pub number_of-append : (xs ys : List (List ℕ)) (t : List ℕ) → has_text xs t ≡ true → number_of (xs ++ ys) t ≡ number_of xs t
number_of-append [] ys t h = cc
number_of-append (x ∷ xs) ys t h =
    (elim (bytes_eq t x) as (λ b. b || has_text xs t ≡ true → cond (not b) (1 + number_of (xs ++ ys) t) 0 ≡ cond (not b) (1 + number_of xs t) 0) [
      | true ↦ λ _. refl
      | false ↦ λ there. ap (λ n. 1 + n) (number_of-append xs ys t there)
    ]) h

-- what stands in a list is among its texts
pub has_text-slice_get : (xs : List (List ℕ)) (n : ℕ) (t : List ℕ) → slice_get xs n ≡ Some t → has_text xs t ≡ true
has_text-slice_get [] n t h = cc
has_text-slice_get (x ∷ xs) zero t h =
    let same : x ≡ t = cc in
    subst (λ b. b || has_text xs t ≡ true) (sym ((bytes_eq-Decides t x).1 (sym same))) refl
has_text-slice_get (x ∷ xs) (suc n) t h =
    subst (λ b. bytes_eq t x || b ≡ true) (sym (has_text-slice_get xs n t h)) (elim (bytes_eq t x) as (λ b. b || true ≡ true) [ true ↦ refl | false ↦ refl ])

-- two texts with one number are one text
pub number_of-apart : (xs : List (List ℕ)) (t u : List ℕ) → has_text xs t ≡ true → has_text xs u ≡ true → number_of xs t ≡ number_of xs u → t ≡ u
number_of-apart xs t u ht hu e =
    let at_t = slice_get-number_of xs t ht in
    let at_u = slice_get-number_of xs u hu in
    cc

-- `with_text` and `with_texts` only append
append-nil : (xs : List (List ℕ)) → xs ++ [] ≡ xs
append-nil [] = refl
append-nil (x ∷ xs) = ap (λ (l : List (List ℕ)). x ∷ l) (append-nil xs)

pub Appends-refl : (xs : List (List ℕ)) → Appends xs xs
Appends-refl xs = record { more = []; appended = sym (append-nil xs) }

pub Appends-trans : (xs ys zs : List (List ℕ)) → Appends xs ys → Appends ys zs → Appends xs zs
Appends-trans xs ys zs h k = record {
  more = h.more ++ k.more;
  appended = k.appended ∙ ap (λ l. l ++ k.more) h.appended ∙ append_assoc xs h.more k.more;
}

pub Appends-with_text : (xs : List (List ℕ)) (t : List ℕ) → Appends xs (with_text xs t)
Appends-with_text xs t =
    elim (has_text xs t) as (λ b. Appends xs (cond b xs (xs ++ t ∷ []))) [
      | true ↦ Appends-refl xs
      | false ↦ record { more = t ∷ []; appended = refl }
    ]

pub Appends-with_texts : (xs ts : List (List ℕ)) → Appends xs (with_texts xs ts)
Appends-with_texts xs [] = Appends-refl xs
Appends-with_texts xs (t ∷ ts) = Appends-trans xs (with_text xs t) (with_texts (with_text xs t) ts) (Appends-with_text xs t) (Appends-with_texts (with_text xs t) ts)

take_front : (xs ys : List (List ℕ)) → take (length xs) (xs ++ ys) ≡ xs
take_front [] ys = refl
take_front (x ∷ xs) ys = ap (λ (l : List (List ℕ)). x ∷ l) (take_front xs ys)

-- the texts before are the front
pub take-Appends : (xs zs : List (List ℕ)) → Appends xs zs → take (length xs) zs ≡ xs
take-Appends xs zs h = subst (λ l. take (length xs) l ≡ xs) (sym h.appended) (take_front xs h.more)

pub length-Appends : (xs zs : List (List ℕ)) → Appends xs zs → length xs ≤ length zs
length-Appends xs zs h = omega (arith, ap length h.appended, length-append xs h.more)

pub has_text-Appends : (xs zs : List (List ℕ)) (t : List ℕ) → Appends xs zs → has_text xs t ≡ true → has_text zs t ≡ true
has_text-Appends xs zs t h there =
    ap (λ l. has_text l t) h.appended ∙ has_text-append xs h.more t ∙ ap (λ b. b || has_text h.more t) there

pub number_of-Appends : (xs zs : List (List ℕ)) (t : List ℕ) → Appends xs zs → has_text xs t ≡ true → number_of zs t ≡ number_of xs t
number_of-Appends xs zs t h there = ap (λ l. number_of l t) h.appended ∙ number_of-append xs h.more t there

-- a text is among the texts with it
pub has_text-with_text : (xs : List (List ℕ)) (t : List ℕ) → has_text (with_text xs t) t ≡ true
has_text-with_text xs t =
    elim (has_text xs t) as (λ b. has_text xs t ≡ b → has_text (cond b xs (xs ++ t ∷ [])) t ≡ true) [
      | true ↦ λ there. there
      | false ↦ λ _. has_text-append xs (t ∷ []) t ∙ ap (λ b. has_text xs t || (b || false)) (bytes_eq-same t) ∙ (elim (has_text xs t) as (λ b. b || true ≡ true) [ true ↦ refl | false ↦ refl ])
    ] refl

pub has_text-with_texts : (xs ts : List (List ℕ)) (t : List ℕ) → has_text ts t ≡ true → has_text (with_texts xs ts) t ≡ true
has_text-with_texts xs [] t h = cc
has_text-with_texts xs (u ∷ us) t h =
    (elim (bytes_eq t u) as (λ b. bytes_eq t u ≡ b → b || has_text us t ≡ true → has_text (with_texts (with_text xs u) us) t ≡ true) [
      | true ↦ λ same _. has_text-Appends (with_text xs u) (with_texts (with_text xs u) us) t (Appends-with_texts (with_text xs u) us) (subst (λ v. has_text (with_text xs u) v ≡ true) (sym ((bytes_eq-Decides t u).0 same)) (has_text-with_text xs u))
      | false ↦ λ _ there. has_text-with_texts (with_text xs u) us t there
    ]) refl h

pub take-with_texts : (xs ts : List (List ℕ)) → take (length xs) (with_texts xs ts) ≡ xs
take-with_texts xs ts = take-Appends xs (with_texts xs ts) (Appends-with_texts xs ts)

pub length-with_texts : (xs ts : List (List ℕ)) → length xs ≤ length (with_texts xs ts)
length-with_texts xs ts = length-Appends xs (with_texts xs ts) (Appends-with_texts xs ts)

-- a text's number stays when more are added
pub number_of-with_texts : (xs ts : List (List ℕ)) (t : List ℕ) → has_text xs t ≡ true → number_of (with_texts xs ts) t ≡ number_of xs t
number_of-with_texts xs ts t there = number_of-Appends xs (with_texts xs ts) t (Appends-with_texts xs ts) there

-- each text that was added stands at its number
pub slice_get-with_texts : (xs ts : List (List ℕ)) (t : List ℕ) → has_text ts t ≡ true → slice_get (with_texts xs ts) (number_of (with_texts xs ts) t) ≡ Some t
slice_get-with_texts xs ts t there = slice_get-number_of (with_texts xs ts) t (has_text-with_texts xs ts t there)

-- a text that is there is not added again
pub with_text-present : (xs : List (List ℕ)) (t : List ℕ) → has_text xs t ≡ true → with_text xs t ≡ xs
with_text-present xs t h = ap (λ b. cond b xs (xs ++ t ∷ [])) h

-- there is room for a text that is there, and none for a new one where the symbols are as many as there may be
pub lacks_room-present : (count : ℕ) (xs : List (List ℕ)) (t : List ℕ) → has_text xs t ≡ true → lacks_room count xs t ≡ false
lacks_room-present count xs t h =
    ap (λ b. (count == most_symbols) && not b) h ∙ (elim (count == most_symbols) as (λ b. b && false ≡ false) [ true ↦ refl | false ↦ refl ])

pub lacks_room-new : (count : ℕ) (xs : List (List ℕ)) (t : List ℕ) → count ≡ most_symbols → has_text xs t ≡ false → lacks_room count xs t ≡ true
lacks_room-new count xs t e h = ap (λ n. (n == most_symbols) && not (has_text xs t)) e ∙ ap not h

-- that there is no room, of the symbols and of what they are kept in
pub told-named : {P : Type 0} (t : List ℕ) (n m : ℕ) (xs ys : List (List ℕ)) → names_a_thing t ≡ true → n ≡ m → xs ≡ ys → P ↔ (lacks_room n xs t ≡ true) → P ↔ (names_a_thing t && lacks_room m ys t ≡ true)
told-named t n m xs ys named count texts told =
    let same : names_a_thing t && lacks_room m ys t ≡ lacks_room n xs t =
    ap (λ b. b && lacks_room m ys t) named ∙ ap (λ k. lacks_room k ys t) (sym count) ∙ ap (λ l. lacks_room n l t) (sym texts) in
    (λ p. same ∙ told.0 p, λ h. told.1 (sym same ∙ h))

-- names stay names where the texts are cut, and where a name is added
are_names-append : (xs ys : List (List ℕ)) → are_names (xs ++ ys) ≡ are_names xs && are_names ys
are_names-append [] ys = refl
are_names-append (x ∷ xs) ys =
    ap (λ b. names_a_thing x && b) (are_names-append xs ys)
    ∙ (elim (names_a_thing x) as (λ b. b && (are_names xs && are_names ys) ≡ (b && are_names xs) && are_names ys) [ true ↦ refl | false ↦ refl ])

pub are_names-take : (n : ℕ) (xs : List (List ℕ)) → are_names xs ≡ true → are_names (take n xs) ≡ true
are_names-take zero xs h = refl
are_names-take (suc n) [] h = refl
are_names-take (suc n) (x ∷ xs) h =
    (elim (names_a_thing x) as (λ b. b && are_names xs ≡ true → b && are_names (take n xs) ≡ true) [
      | true ↦ λ rest. are_names-take n xs rest
      | false ↦ λ e. e
    ]) h

pub are_names-with_text : (xs : List (List ℕ)) (t : List ℕ) → are_names xs ≡ true → names_a_thing t ≡ true → are_names (with_text xs t) ≡ true
are_names-with_text xs t hx ht =
    elim (has_text xs t) as (λ b. are_names (cond b xs (xs ++ t ∷ [])) ≡ true) [
      | true ↦ hx
      | false ↦ are_names-append xs (t ∷ []) ∙ ap (λ b. b && are_names (t ∷ [])) hx ∙ ap (λ b. b && true) ht
    ]

-- the number of a text after it is added is the one that it had, or the length
pub number_of-with_text : (xs : List (List ℕ)) (t : List ℕ) → number_of (with_text xs t) t ≡ number_of xs t
number_of-with_text xs t =
    elim (has_text xs t) as (λ b. has_text xs t ≡ b → number_of (cond b xs (xs ++ t ∷ [])) t ≡ number_of xs t) [
      | true ↦ λ _. refl
      | false ↦ λ absent. number_of-push xs t absent
    ] refl
  where
    number_of-push : (xs : List (List ℕ)) (t : List ℕ) → has_text xs t ≡ false → number_of (xs ++ t ∷ []) t ≡ number_of xs t
    number_of-push [] t h = ap (λ b. cond (not b) (1 + 0) 0) (bytes_eq-same t)
    number_of-push (x ∷ xs) t h =
        (elim (bytes_eq t x) as (λ b. b || has_text xs t ≡ false → cond (not b) (1 + number_of (xs ++ t ∷ []) t) 0 ≡ cond (not b) (1 + number_of xs t) 0) [
          | true ↦ λ e. cc
          | false ↦ λ absent. ap (λ n. 1 + n) (number_of-push xs t absent)
        ]) h

some_of : (b : Bool) (n m : ℕ) → Some n ≡ cond b (Some m) None → n ≡ m
some_of true n m h = cc
some_of false n m h = cc

-- the texts of keys, by a view of the keys
module _ {X : Type 0} (view : X → List ℕ) where
  pub has_text-map : (keys : List X) (t : List ℕ) → list_any (λ k. bytes_eq t (view k)) keys ≡ has_text (map view keys) t
  has_text-map [] t = refl
  has_text-map (k ∷ ks) t = ap (λ b. bytes_eq t (view k) || b) (has_text-map ks t)

  pub number_of-map : (keys : List X) (t : List ℕ) → position_or_len (λ k. bytes_eq t (view k)) keys ≡ number_of (map view keys) t
  number_of-map [] t = refl
  number_of-map (k ∷ ks) t = ap (λ n. cond (not (bytes_eq t (view k))) (1 + n) 0) (number_of-map ks t)

  -- a key that is inserted adds its text
  pub map-insert_key : (keys : List X) (k : X) → map view (insert_key (λ a b. bytes_eq (view a) (view b)) keys k) ≡ with_text (map view keys) (view k)
  map-insert_key keys k =
      subst (λ b. map view (cond (list_any (λ y. bytes_eq (view k) (view y)) keys) keys (keys ++ k ∷ [])) ≡ cond b (map view keys) (map view keys ++ view k ∷ [])) (has_text-map keys (view k)) (
      elim (list_any (λ y. bytes_eq (view k) (view y)) keys) as (λ b. map view (cond b keys (keys ++ k ∷ [])) ≡ cond b (map view keys) (map view keys ++ view k ∷ [])) [
        | true ↦ refl
        | false ↦ map-append view keys (k ∷ [])
      ])

  -- the position of a key that was found is its text's number
  pub number_of-position : (keys : List X) (t : List ℕ) (n : ℕ) → Some n ≡ position (λ k. bytes_eq t (view k)) keys → n ≡ number_of (map view keys) t
  number_of-position keys t n h =
      some_of (nat_lt (position_or_len (λ k. bytes_eq t (view k)) keys) (length keys)) n _ h ∙ number_of-map keys t

  -- no later key has the text of the first
  apart_from : (k : X) (ks : List X) (n : ℕ) (t : List ℕ) → AllByRecursion (λ y. bytes_eq (view k) (view y) ≡ false) ks → slice_get (map view ks) n ≡ Some t → bytes_eq t (view k) ≡ false
  apart_from k [] n t apart h = cc
  apart_from k (y ∷ ys) zero t apart h =
      let same : view y ≡ t = cc in
      elim (bytes_eq t (view k)) as (λ b. bytes_eq t (view k) ≡ b → b ≡ false) [
        | true ↦ λ e. let both : view k ≡ view y = sym ((bytes_eq-Decides t (view k)).0 e) ∙ sym same in
            absurd (false≢true (sym apart.0 ∙ (bytes_eq-Decides (view k) (view y)).1 both))
        | false ↦ λ _. refl
      ] refl
  apart_from k (y ∷ ys) (suc n) t apart h = apart_from k ys n t apart.1 h

  pub IsWithoutRepeats-from_IsDistinct : (keys : List X) → IsDistinct (λ k y. bytes_eq (view k) (view y)) keys → IsWithoutRepeats (map view keys)
  IsWithoutRepeats-from_IsDistinct [] d n t h = cc
  IsWithoutRepeats-from_IsDistinct (k ∷ ks) d zero t h =
      let same : view k ≡ t = cc in
      subst (λ b. cond (not b) (1 + number_of (map view ks) t) 0 ≡ 0) (sym ((bytes_eq-Decides t (view k)).1 (sym same))) refl
  IsWithoutRepeats-from_IsDistinct (k ∷ ks) d (suc n) t h =
      let head = IsDistinct-head (λ k y. bytes_eq (view k) (view y)) k ks d in
      let tail = IsDistinct-tail (λ k y. bytes_eq (view k) (view y)) k ks d in
      let rest = IsWithoutRepeats-from_IsDistinct ks tail n t h in
      subst (λ b. cond (not b) (1 + number_of (map view ks) t) 0 ≡ suc n) (sym (apart_from k ks n t head h)) (omega arith)
