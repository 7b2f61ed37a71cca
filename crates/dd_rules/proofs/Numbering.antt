-- Concepts that are put behind a list where they are not there, and the numbers that they get.
use Rattle.std.proofs.Common.{◌≡◌, ◌∙◌, ℕ, zero, suc, ◌||◌, ◌&&◌, Bool, true, false, not, List, [], ◌∷◌, ◌++◌, length, filter, map, refl, sym, ap, ap₂, subst, inl, inr, Some, None, slice_get, slice_set, append_assoc, replicate}
use Rattle.std.proofs.lemmas.List.{append-nil}
use Rattle.std.proofs.lemmas.Option.{same_Some}
use Rattle.std.proofs.lemmas.Bool.{false≢true, and_from, and_parts, or_parts, or_left, or_right, cases_Bool, cond-true, cond-false, not-true, not_from_true, not_from_false, false_from_ne_true}
use Rattle.dd_concept.specs.declared.concept.Concept.{Concept}
use Rattle.dd_concept.specs.Same.{is_same, has, is_within}
use Rattle.dd_concept.proofs.SameIs.{is_same-is, is_same-sym, is_same-refl}
use Rattle.dd_concept.proofs.Sets.{has-append, within-has, within-from}
use Rattle.dd_rules.specs.Closure.{are_distinct, each_once}
use Rattle.dd_rules.specs.Numbers.{number_of, place_of}
use Rattle.dd_rules.specs.Walks.{with_one, with_all}
use Rattle.dd_rules.proofs.Numbered.{has-get}

-- ---- putting concepts behind a list

pub one-there : (xs : List Concept) (c : Concept) → has xs c ≡ true → with_one xs c ≡ xs
one-there xs c t = cond-true (has xs c) xs (xs ++ c ∷ []) t

pub one-new : (xs : List Concept) (c : Concept) → has xs c ≡ false → with_one xs c ≡ xs ++ c ∷ []
one-new xs c f = cond-false (has xs c) xs (xs ++ c ∷ []) f

pub all-append : (xs cs ds : List Concept) → with_all xs (cs ++ ds) ≡ with_all (with_all xs cs) ds
all-append xs [] ds = refl
all-append xs (c ∷ cs) ds = all-append (with_one xs c) cs ds

pub all-there : (xs cs : List Concept) → is_within cs xs ≡ true → with_all xs cs ≡ xs
all-there xs [] w = refl
all-there xs (c ∷ cs) w =
    let both = and_parts (has xs c) (is_within cs xs) w in
    ap (λ l. with_all l cs) (one-there xs c both.0) ∙ all-there xs cs both.1

one-keeps : (xs : List Concept) (c d : Concept) → has xs d ≡ true → has (with_one xs c) d ≡ true
one-keeps xs c d h = elim (cases_Bool (has xs c)) [
  | inl t ↦ ap (λ l. has l d) (one-there xs c t) ∙ h
  | inr f ↦ ap (λ l. has l d) (one-new xs c f) ∙ has-append xs (c ∷ []) d ∙ or_left (has xs d) (has (c ∷ []) d) h
]

one-has : (xs : List Concept) (c : Concept) → has (with_one xs c) c ≡ true
one-has xs c = elim (cases_Bool (has xs c)) [
  | inl t ↦ ap (λ l. has l c) (one-there xs c t) ∙ t
  | inr f ↦ ap (λ l. has l c) (one-new xs c f) ∙ has-append xs (c ∷ []) c ∙ or_right (has xs c) (has (c ∷ []) c) (or_left (is_same c c) false (is_same-refl c))
]

pub all-keeps : (xs cs : List Concept) (d : Concept) → has xs d ≡ true → has (with_all xs cs) d ≡ true
all-keeps xs [] d h = h
all-keeps xs (c ∷ cs) d h = all-keeps (with_one xs c) cs d (one-keeps xs c d h)

-- what was put behind the list is there
pub all-within : (xs cs : List Concept) → is_within cs (with_all xs cs) ≡ true
all-within xs [] = refl
all-within xs (c ∷ cs) = and_from (has (with_all (with_one xs c) cs) c) (is_within cs (with_all (with_one xs c) cs)) (all-keeps (with_one xs c) cs c (one-has xs c)) (all-within (with_one xs c) cs)

pub within-kept : (a xs cs : List Concept) → is_within a xs ≡ true → is_within a (with_all xs cs) ≡ true
within-kept a xs cs w = within-from a (with_all xs cs) (λ c h. all-keeps xs cs c (within-has a xs c w h))

pub within-one : (a xs : List Concept) (c : Concept) → is_within a xs ≡ true → is_within a (with_one xs c) ≡ true
within-one a xs c w = within-kept a xs (c ∷ []) w

-- ---- concepts each once are those that are put behind the empty list

lacking : List Concept → List Concept → List Concept
lacking xs cs = filter (λ d. not (has xs d)) cs

filter-both : (f g h : Concept → Bool) (cs : List Concept) → ((d : Concept) → h d ≡ (f d && g d)) → filter h cs ≡ filter f (filter g cs)
filter-both f g h [] e = refl
filter-both f g h (c ∷ cs) e = elim (cases_Bool (g c)) [
  | inl t ↦ elim (cases_Bool (f c)) [
    | inl s ↦ cond-true (h c) (c ∷ filter h cs) (filter h cs) (e c ∙ ap₂ (λ a b. a && b) s t) ∙ ap (λ l. c ∷ l) (filter-both f g h cs e)
        ∙ sym (cond-true (f c) (c ∷ filter f (filter g cs)) (filter f (filter g cs)) s) ∙ ap (filter f) (sym (cond-true (g c) (c ∷ filter g cs) (filter g cs) t))
    | inr s ↦ cond-false (h c) (c ∷ filter h cs) (filter h cs) (e c ∙ ap (λ a. a && g c) s) ∙ filter-both f g h cs e
        ∙ sym (cond-false (f c) (c ∷ filter f (filter g cs)) (filter f (filter g cs)) s) ∙ ap (filter f) (sym (cond-true (g c) (c ∷ filter g cs) (filter g cs) t))
  ]
  | inr t ↦ cond-false (h c) (c ∷ filter h cs) (filter h cs) (e c ∙ ap (λ b. f c && b) t ∙ none (f c)) ∙ filter-both f g h cs e
      ∙ ap (filter f) (sym (cond-false (g c) (c ∷ filter g cs) (filter g cs) t))
]
  where
    none : (b : Bool) → (b && false) ≡ false
    none true = refl
    none false = refl

filter-all : (f : Concept → Bool) (cs : List Concept) → ((d : Concept) → f d ≡ true) → filter f cs ≡ cs
filter-all f [] e = refl
filter-all f (c ∷ cs) e = cond-true (f c) (c ∷ filter f cs) (filter f cs) (e c) ∙ ap (λ l. c ∷ l) (filter-all f cs e)

all-lacking : (xs cs : List Concept) → with_all xs cs ≡ xs ++ lacking xs (each_once cs)
unfolding lacking
all-lacking xs [] = sym (append-nil xs)
all-lacking xs (c ∷ cs) = elim (cases_Bool (has xs c)) [
  | inl t ↦ ap (λ l. with_all l cs) (one-there xs c t) ∙ all-lacking xs cs ∙ ap (λ l. xs ++ l) (
      filter-both (λ d. not (has xs d)) (λ d. not (is_same c d)) (λ d. not (has xs d)) (each_once cs) (covered xs c t)
      ∙ sym (cond-false (not (has xs c)) (c ∷ lacking xs (filter (λ d. not (is_same c d)) (each_once cs))) (lacking xs (filter (λ d. not (is_same c d)) (each_once cs))) (not_from_true (has xs c) t)))
  | inr f ↦ ap (λ l. with_all l cs) (one-new xs c f) ∙ all-lacking (xs ++ c ∷ []) cs
      ∙ ap (λ l. (xs ++ c ∷ []) ++ l) (filter-both (λ d. not (has xs d)) (λ d. not (is_same c d)) (λ d. not (has (xs ++ c ∷ []) d)) (each_once cs) (parted xs c))
      ∙ append_assoc xs (c ∷ []) (lacking xs (filter (λ d. not (is_same c d)) (each_once cs)))
      ∙ ap (λ l. xs ++ l) (sym (cond-true (not (has xs c)) (c ∷ lacking xs (filter (λ d. not (is_same c d)) (each_once cs))) (lacking xs (filter (λ d. not (is_same c d)) (each_once cs))) (not_from_false (has xs c) f)))
]
  where
    -- what is not in the list is not the one of it
    covered : (xs : List Concept) (c : Concept) → has xs c ≡ true → (d : Concept) → not (has xs d) ≡ (not (has xs d) && not (is_same c d))
    covered xs c t d = elim (cases_Bool (is_same c d)) [
      | inl s ↦ ap not (subst (λ e. has xs e ≡ true) (is_same-is c d s) t) ∙ sym (ap (λ b. not b && not (is_same c d)) (subst (λ e. has xs e ≡ true) (is_same-is c d s) t))
      | inr s ↦ sym (ap (λ b. not (has xs d) && not b) s ∙ whole (not (has xs d)))
    ]
      where
        whole : (b : Bool) → (b && true) ≡ b
        whole true = refl
        whole false = refl

    parted : (xs : List Concept) (c d : Concept) → not (has (xs ++ c ∷ []) d) ≡ (not (has xs d) && not (is_same c d))
    parted xs c d = ap not (has-append xs (c ∷ []) d) ∙ split (has xs d) (is_same c d)
      where
        split : (a b : Bool) → not (a || (b || false)) ≡ (not a && not b)
        split true b = refl
        split false true = refl
        split false false = refl

pub all-once : (cs : List Concept) → with_all [] cs ≡ each_once cs
unfolding lacking
all-once cs = all-lacking [] cs ∙ filter-all (λ d. not (has [] d)) (each_once cs) (λ d. refl)

-- ---- the numbers

place-behind : (xs ys : List Concept) (d : Concept) → has xs d ≡ true → place_of (xs ++ ys) d ≡ place_of xs d
place-behind [] ys d h = absurd (false≢true h)
place-behind (x ∷ xs) ys d h = elim (cases_Bool (is_same x d)) [
  | inl t ↦ cond-true (is_same x d) 0 (suc (place_of (xs ++ ys) d)) t ∙ sym (cond-true (is_same x d) 0 (suc (place_of xs d)) t)
  | inr f ↦ cond-false (is_same x d) 0 (suc (place_of (xs ++ ys) d)) f ∙ ap suc (place-behind xs ys d (sym (ap (λ b. b || has xs d) f) ∙ h)) ∙ sym (cond-false (is_same x d) 0 (suc (place_of xs d)) f)
]

place-next : (xs : List Concept) (c : Concept) → has xs c ≡ false → place_of (xs ++ c ∷ []) c ≡ length xs
place-next [] c f = cond-true (is_same c c) 0 (suc 0) (is_same-refl c)
place-next (x ∷ xs) c f =
    let both = or_parts (is_same x c) (has xs c) f in
    cond-false (is_same x c) 0 (suc (place_of (xs ++ c ∷ []) c)) both.0 ∙ ap suc (place-next xs c both.1)

number-other : (xs : List Concept) (c d : Concept) → is_same c d ≡ false → number_of xs d ≡ number_of (xs ++ c ∷ []) d
number-other xs c d apart =
    let same : has (xs ++ c ∷ []) d ≡ has xs d = has-append xs (c ∷ []) d ∙ ap (λ b. has xs d || (b || false)) apart ∙ plain (has xs d) in
    elim (cases_Bool (has xs d)) [
      | inl t ↦ cond-true (has xs d) (Some (place_of xs d)) None t ∙ ap Some (sym (place-behind xs (c ∷ []) d t))
          ∙ sym (cond-true (has (xs ++ c ∷ []) d) (Some (place_of (xs ++ c ∷ []) d)) None (same ∙ t))
      | inr f ↦ cond-false (has xs d) (Some (place_of xs d)) None f ∙ sym (cond-false (has (xs ++ c ∷ []) d) (Some (place_of (xs ++ c ∷ []) d)) None (same ∙ f))
    ]
  where
    plain : (b : Bool) → (b || false) ≡ b
    plain true = refl
    plain false = refl

number-next : (xs : List Concept) (c : Concept) → has xs c ≡ false → Some (length xs) ≡ number_of (xs ++ c ∷ []) c
number-next xs c f =
    sym (cond-true (has (xs ++ c ∷ []) c) (Some (place_of (xs ++ c ∷ []) c)) None (has-append xs (c ∷ []) c ∙ or_right (has xs c) (has (c ∷ []) c) (or_left (is_same c c) false (is_same-refl c)))
    ∙ ap Some (place-next xs c f))

numbers-others : (xs ts : List Concept) (c : Concept) → has ts c ≡ false → map (number_of xs) ts ≡ map (number_of (xs ++ c ∷ [])) ts
numbers-others xs [] c h = refl
numbers-others xs (t ∷ ts) c h =
    let both = or_parts (is_same t c) (has ts c) h in
    ap₂ (λ o l. o ∷ l) (number-other xs c t (is_same-sym c t ∙ both.0)) (numbers-others xs ts c both.1)

-- one concept more gets the next number, and the others keep theirs
pub numbers-next : (xs ts : List Concept) (c : Concept) (r : ℕ) → are_distinct ts ≡ true → slice_get ts r ≡ Some c → has xs c ≡ false
    → slice_set (map (number_of xs) ts) r (Some (length xs)) ≡ map (number_of (xs ++ c ∷ [])) ts
numbers-next xs [] c r u at f = cc
numbers-next xs (t ∷ ts) c zero u at f =
    let both = and_parts (not (has ts t)) (are_distinct ts) u in
    let is : t ≡ c = same_Some t c at in
    ap₂ (λ o l. o ∷ l) (number-next xs c f ∙ ap (number_of (xs ++ c ∷ [])) (sym is)) (numbers-others xs ts c (subst (λ e. has ts e ≡ false) is (not-true (has ts t) both.0)))
numbers-next xs (t ∷ ts) c (suc r) u at f =
    let both = and_parts (not (has ts t)) (are_distinct ts) u in
    let apart : is_same c t ≡ false = false_from_ne_true (is_same c t) (λ s. false≢true (sym (not-true (has ts t) both.0) ∙ subst (λ e. has ts e ≡ true) (is_same-is c t s) (has-get ts r c at))) in
    ap₂ (λ o l. o ∷ l) (number-other xs c t apart) (numbers-next xs ts c r both.1 at f)

pub numbers-none : (ts : List Concept) → replicate (length ts) None ≡ map (number_of []) ts
numbers-none [] = refl
numbers-none (t ∷ ts) = ap (λ l. None ∷ l) (numbers-none ts)
