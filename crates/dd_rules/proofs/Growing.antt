-- Lists of rows that grow, and the concepts that they stand for.
use Rattle.std.proofs.Common.{◌≡◌, ◌∙◌, ℕ, zero, suc, ◌+◌, ◌<◌, ◌≤◌, ◌||◌, Bool, true, false, not, cond, List, [], ◌∷◌, ◌++◌, length, get_or, fold, refl, sym, ap, ap₂, subst, arith, inl, inr, append_assoc, length-append, Some, None, slice_get, position, ◌⊎◌}
use Rattle.std.specs.List.{list_any}
use Rattle.std.proofs.lemmas.List.{append-nil, get_or_append_left}
use Rattle.std.proofs.lemmas.List.Quantifiers.{position-Some}
use Rattle.std.proofs.lemmas.Option.{slice_get-get_or, slice_get_within, same_Some}
use Rattle.std.proofs.lemmas.Bool.{false≢true, or_parts, and_from, and_parts, cond-true, cond-false, not-true, not_from_false, false_from_ne_true}
use Rattle.indexmap.specs.IndexSet.{insert_key}
use Rattle.dd_concept.specs.declared.concept.Concept.{Concept}
use Rattle.dd_concept.specs.declared.concept.Concept.TheOpen.{Concept-F}
use Rattle.dd_concept.specs.declared.concept.Concept.TheVariants as concept
use Rattle.dd_concept.specs.declared.concept.Concept.TheViews.{out-Concept, outs-Top, outs-Bottom, outs-Name, outs-Not, outs-And, outs-Or, outs-HasSome, outs-HasAll}
use Rattle.dd_concept.specs.Same.{is_same, has}
use Rattle.dd_concept.proofs.SameIs.{is_same-sym}
use Rattle.dd_concept.proofs.Sets.{has-append}
use Rattle.dd_rules.specs.Closure.{are_distinct}
use Rattle.dd_rules.specs.Compiled.{concept_at}
use Rattle.dd_rules.specs.Numbers.{place_of, number_of}
use Rattle.dd_rules.specs.Trees.{concept_of, with_row, trees, IsWithin, IsRows, Appends}
use Rattle.dd_rules.specs.declared.row.Row.{Row}
use Rattle.dd_rules.specs.declared.row.Row.TheVariants as row
use Rattle.dd_rules.proofs.Numbered.{has-get, get-place, place-get}

-- ---- lists that grow

pub Appends-refl : (xs : List Concept) → Appends xs xs
Appends-refl xs = record { more = []; appended = sym (append-nil xs) }

pub Appends-trans : (xs ys zs : List Concept) → Appends xs ys → Appends ys zs → Appends xs zs
Appends-trans xs ys zs h k = record {
  more = h.more ++ k.more;
  appended = k.appended ∙ ap (λ l. l ++ k.more) h.appended ∙ append_assoc xs h.more k.more;
}

get_front : (xs ys : List Concept) (i : ℕ) (c : Concept) → slice_get xs i ≡ Some c → slice_get (xs ++ ys) i ≡ Some c
get_front [] ys i c h = cc
get_front (x ∷ xs) ys zero c h = h
get_front (x ∷ xs) ys (suc i) c h = get_front xs ys i c h

pub get-Appends : (xs zs : List Concept) (i : ℕ) (c : Concept) → Appends xs zs → slice_get xs i ≡ Some c → slice_get zs i ≡ Some c
get-Appends xs zs i c h at = ap (λ l. slice_get l i) h.appended ∙ get_front xs h.more i c at

get_next : (xs ys : List Concept) (c : Concept) → slice_get (xs ++ c ∷ ys) (length xs) ≡ Some c
get_next [] ys c = refl
get_next (x ∷ xs) ys c = get_next xs ys c

get_push : {X : Type 0} (xs : List X) (y : X) (i : ℕ) (z : X) → slice_get (xs ++ y ∷ []) i ≡ Some z → (slice_get xs i ≡ Some z) ⊎ ((i ≡ length xs) × (y ≡ z))
get_push [] y zero z h = inr (refl, same_Some y z h)
get_push [] y (suc i) z h = cc
get_push (x ∷ xs) y zero z h = inl h
get_push (x ∷ xs) y (suc i) z h = elim (get_push xs y i z h) [ inl old ↦ inl old | inr new ↦ inr (ap suc new.0, new.1) ]

-- ---- a row's concept does not change while concepts are appended

pub concept_of-append : (cs more : List Concept) (r : Row) → IsWithin r (length cs) → concept_of (cs ++ more) r ≡ concept_of cs r
concept_of-append cs more row.Top h = refl
concept_of-append cs more row.Bottom h = refl
concept_of-append cs more (row.Name a) h = refl
concept_of-append cs more (row.Not l) h = ap concept.Not (get_or_append_left cs more concept.Top l h)
concept_of-append cs more (row.And l k) h = ap₂ concept.And (get_or_append_left cs more concept.Top l h.0) (get_or_append_left cs more concept.Top k h.1)
concept_of-append cs more (row.Or l k) h = ap₂ concept.Or (get_or_append_left cs more concept.Top l h.0) (get_or_append_left cs more concept.Top k h.1)
concept_of-append cs more (row.HasSome s l) h = ap (concept.HasSome s) (get_or_append_left cs more concept.Top l h)
concept_of-append cs more (row.HasAll s l) h = ap (concept.HasAll s) (get_or_append_left cs more concept.Top l h)

pub concept_of-Appends : (cs zs : List Concept) (r : Row) → Appends cs zs → IsWithin r (length cs) → concept_of zs r ≡ concept_of cs r
concept_of-Appends cs zs r h within = ap (λ l. concept_of l r) h.appended ∙ concept_of-append cs h.more r within

pub within-more : (r : Row) (i k : ℕ) → IsWithin r i → i ≤ k → IsWithin r k
within-more row.Top i k w le = tt
within-more row.Bottom i k w le = tt
within-more (row.Name a) i k w le = tt
within-more (row.Not l) i k w le = omega arith
within-more (row.And l r) i k w le = (let low = w.0 in omega arith, let high = w.1 in omega arith)
within-more (row.Or l r) i k w le = (let low = w.0 in omega arith, let high = w.1 in omega arith)
within-more (row.HasSome s l) i k w le = omega arith
within-more (row.HasAll s l) i k w le = omega arith

-- ---- the concepts of rows

abbrev onto : List Concept → List Row → List Concept
onto cs rows = fold with_row cs rows

onto-appends : (cs : List Concept) (rows : List Row) → Appends cs (onto cs rows)
onto-appends cs [] = Appends-refl cs
onto-appends cs (r ∷ rs) = Appends-trans cs (with_row cs r) (onto (with_row cs r) rs) (record { more = concept_of cs r ∷ []; appended = refl }) (onto-appends (with_row cs r) rs)

length-onto : (cs : List Concept) (rows : List Row) → length (onto cs rows) ≡ length cs + length rows
length-onto cs [] = omega arith
length-onto cs (r ∷ rs) = length-onto (with_row cs r) rs ∙ (omega (arith, length-append cs (concept_of cs r ∷ [])))

pub length-trees : (rows : List Row) → length (trees rows) ≡ length rows
length-trees rows = omega (arith, length-onto [] rows)

pub trees-push : (rows : List Row) (r : Row) → trees (rows ++ r ∷ []) ≡ trees rows ++ concept_of (trees rows) r ∷ []
trees-push rows r = push [] rows r
  where
    push : (cs : List Concept) (rows : List Row) (r : Row) → onto cs (rows ++ r ∷ []) ≡ with_row (onto cs rows) r
    push cs [] r = refl
    push cs (m ∷ ms) r = push (with_row cs m) ms r

onto-at : (cs : List Concept) (rows : List Row) (i : ℕ) (r : Row) → slice_get rows i ≡ Some r → IsWithin r (length cs + i) → slice_get (onto cs rows) (length cs + i) ≡ Some (concept_of (onto cs rows) r)
onto-at cs [] i r h within = cc
onto-at cs (m ∷ ms) zero r h within =
    let same : m ≡ r = same_Some m r h in
    let e : length cs + zero ≡ length cs = omega arith in
    let rest = onto-appends (with_row cs m) ms in
    let here : slice_get (onto (with_row cs m) ms) (length cs) ≡ Some (concept_of cs m) = get-Appends (with_row cs m) (onto (with_row cs m) ms) (length cs) (concept_of cs m) rest (get_next cs [] (concept_of cs m)) in
    let low : IsWithin m (length cs) = subst (λ x. IsWithin m x) e (subst (λ x. IsWithin x (length cs + zero)) (sym same) within) in
    let kept : concept_of (onto (with_row cs m) ms) m ≡ concept_of cs m = concept_of-Appends cs (onto (with_row cs m) ms) m (onto-appends cs (m ∷ ms)) low in
    ap (slice_get (onto (with_row cs m) ms)) e ∙ here ∙ ap Some (sym kept ∙ ap (concept_of (onto (with_row cs m) ms)) same)
onto-at cs (m ∷ ms) (suc i) r h within =
    let e : length cs + suc i ≡ length (with_row cs m) + i = omega (arith, length-append cs (concept_of cs m ∷ [])) in
    ap (slice_get (onto (with_row cs m) ms)) e ∙ onto-at (with_row cs m) ms i r h (subst (IsWithin r) e within)

-- a row's concept stands at the row's number
pub trees-at : (rows : List Row) (i : ℕ) (r : Row) → IsRows rows → slice_get rows i ≡ Some r → slice_get (trees rows) i ≡ Some (concept_of (trees rows) r)
trees-at rows i r h at =
    let e : 0 + i ≡ i = omega arith in
    subst (λ j. slice_get (trees rows) j ≡ Some (concept_of (trees rows) r)) e (onto-at [] rows i r at (subst (IsWithin r) (sym e) (h.behind i r at)))

-- what stands in the list is the concept of its row
pub record IsAt (rows : List Row) (i : ℕ) (c : Concept) : Type 0 where
  pub its : Row
  pub at : slice_get rows i ≡ Some its
  pub within : IsWithin its (length (trees rows))
  pub is : c ≡ concept_of (trees rows) its

pub row-of : (rows : List Row) (i : ℕ) (c : Concept) → IsRows rows → slice_get (trees rows) i ≡ Some c → IsAt rows i c
row-of rows i c h at =
    let low : i < length rows = omega (arith, slice_get_within (trees rows) i c at, length-trees rows) in
    let r_at : slice_get rows i ≡ Some (get_or rows i row.Top) = slice_get-get_or rows i row.Top low in
    record {
      its = get_or rows i row.Top;
      at = r_at;
      within = within-more (get_or rows i row.Top) i (length (trees rows)) (h.behind i (get_or rows i row.Top) r_at) (omega (arith, low, length-trees rows));
      is = same_Some c (concept_of (trees rows) (get_or rows i row.Top)) (sym at ∙ trees-at rows i (get_or rows i row.Top) h r_at);
    }

-- ---- among distinct concepts different rows stand for different concepts

row_form : List Concept → Concept-F Concept → Row
row_form cs Concept-F.Top = row.Top
row_form cs Concept-F.Bottom = row.Bottom
row_form cs (Concept-F.Name a) = row.Name a
row_form cs (Concept-F.Not c) = row.Not (place_of cs c)
row_form cs (Concept-F.And c d) = row.And (place_of cs c) (place_of cs d)
row_form cs (Concept-F.Or c d) = row.Or (place_of cs c) (place_of cs d)
row_form cs (Concept-F.HasSome s c) = row.HasSome s (place_of cs c)
row_form cs (Concept-F.HasAll s c) = row.HasAll s (place_of cs c)

pub place-at : (cs : List Concept) (n : ℕ) → are_distinct cs ≡ true → n < length cs → place_of cs (concept_at cs n) ≡ n
place-at cs n u low = place-get cs n (concept_at cs n) u (slice_get-get_or cs n concept.Top low)

row-back : (cs : List Concept) (r : Row) → are_distinct cs ≡ true → IsWithin r (length cs) → row_form cs (out-Concept (concept_of cs r)) ≡ r
unfolding row_form
row-back cs row.Top u w = ap (row_form cs) outs-Top
row-back cs row.Bottom u w = ap (row_form cs) outs-Bottom
row-back cs (row.Name a) u w = ap (row_form cs) (outs-Name a)
row-back cs (row.Not l) u w = ap (row_form cs) (outs-Not (concept_at cs l)) ∙ ap row.Not (place-at cs l u w)
row-back cs (row.And l k) u w = ap (row_form cs) (outs-And (concept_at cs l) (concept_at cs k)) ∙ ap₂ row.And (place-at cs l u w.0) (place-at cs k u w.1)
row-back cs (row.Or l k) u w = ap (row_form cs) (outs-Or (concept_at cs l) (concept_at cs k)) ∙ ap₂ row.Or (place-at cs l u w.0) (place-at cs k u w.1)
row-back cs (row.HasSome s l) u w = ap (row_form cs) (outs-HasSome s (concept_at cs l)) ∙ ap (row.HasSome s) (place-at cs l u w)
row-back cs (row.HasAll s l) u w = ap (row_form cs) (outs-HasAll s (concept_at cs l)) ∙ ap (row.HasAll s) (place-at cs l u w)

pub row-same : (cs : List Concept) (r m : Row) → are_distinct cs ≡ true → IsWithin r (length cs) → IsWithin m (length cs) → concept_of cs r ≡ concept_of cs m → r ≡ m
row-same cs r m u w v e = sym (row-back cs r u w) ∙ ap (λ c. row_form cs (out-Concept c)) e ∙ row-back cs m u v

-- a row whose concept is there is there
pub row-there : (rows : List Row) (r : Row) → IsRows rows → IsWithin r (length rows) → has (trees rows) (concept_of (trees rows) r) ≡ true
    → slice_get rows (place_of (trees rows) (concept_of (trees rows) r)) ≡ Some r
row-there rows r h within t =
    let i = place_of (trees rows) (concept_of (trees rows) r) in
    let found = row-of rows i (concept_of (trees rows) r) h (get-place (trees rows) (concept_of (trees rows) r) t) in
    let same : r ≡ found.its = row-same (trees rows) r found.its h.distinct (subst (IsWithin r) (sym (length-trees rows)) within) found.within found.is in
    found.at ∙ ap Some (sym same)

-- ---- one more row

pub rows-none : IsRows []
rows-none = record { few = omega arith; behind = λ i r h. cc; distinct = refl }

distinct-push : (cs : List Concept) (c : Concept) → are_distinct cs ≡ true → has cs c ≡ false → are_distinct (cs ++ c ∷ []) ≡ true
distinct-push [] c u h = refl
distinct-push (d ∷ ds) c u h =
    let both = and_parts (not (has ds d)) (are_distinct ds) u in
    let apart = or_parts (is_same d c) (has ds c) h in
    and_from (not (has (ds ++ c ∷ []) d)) (are_distinct (ds ++ c ∷ []))
    (not_from_false (has (ds ++ c ∷ []) d) (has-append ds (c ∷ []) d ∙ ap₂ (λ a b. a || (b || false)) (not-true (has ds d) both.0) (is_same-sym c d ∙ apart.0)))
    (distinct-push ds c both.1 apart.1)

pub rows-push : (rows : List Row) (r : Row) → IsRows rows → IsWithin r (length rows) → length rows < 4294967295 → ((i : ℕ) → slice_get rows i ≡ Some r → ⊥) → IsRows (rows ++ r ∷ [])
rows-push rows r h within room new = record {
  few = omega (arith, length-append rows (r ∷ []));
  behind = λ i m at. elim (get_push rows r i m at) [
    | inl old ↦ h.behind i m old
    | inr e ↦ subst (λ k. IsWithin m k) (sym e.0) (subst (λ k. IsWithin k (length rows)) e.1 within)
  ];
  distinct = ap are_distinct (trees-push rows r) ∙ distinct-push (trees rows) (concept_of (trees rows) r) h.distinct
      (false_from_ne_true (has (trees rows) (concept_of (trees rows) r))
      (λ t. new (place_of (trees rows) (concept_of (trees rows) r)) (row-there rows r h within t)));
}

-- ---- the set of rows
module _ (eq : Row → Row → Bool) (eq_true : (a b : Row) → eq a b ≡ true → a ≡ b) (eq_same : (a : Row) → eq a a ≡ true) where
  absent : (rows : List Row) (r : Row) → list_any (eq r) rows ≡ false → (i : ℕ) → slice_get rows i ≡ Some r → ⊥
  absent [] r h i at = cc
  absent (m ∷ ms) r h zero at = false≢true (sym (or_parts (eq r m) (list_any (eq r) ms) h).0 ∙ ap (eq r) (same_Some m r at) ∙ eq_same r)
  absent (m ∷ ms) r h (suc i) at = absent ms r (or_parts (eq r m) (list_any (eq r) ms) h).1 i at

  pub rows-insert : (rows new : List Row) (r : Row) → new ≡ insert_key eq rows r → IsRows rows → IsWithin r (length rows) → length rows < 4294967295 → IsRows new
  rows-insert rows new r is h within room =
      subst IsRows (sym is) (
      elim (list_any (eq r) rows) as (λ b. list_any (eq r) rows ≡ b → IsRows (cond b rows (rows ++ r ∷ []))) [
        | true ↦ λ _. h
        | false ↦ λ e. rows-push rows r h within room (absent rows r e)
      ] refl)

  pub insert-grows : (rows new : List Row) (r : Row) → new ≡ insert_key eq rows r → Appends (trees rows) (trees new)
  insert-grows rows new r is =
      subst (λ l. Appends (trees rows) (trees l)) (sym is) (
      elim (list_any (eq r) rows) as (λ b. Appends (trees rows) (trees (cond b rows (rows ++ r ∷ [])))) [
        | true ↦ Appends-refl (trees rows)
        | false ↦ record { more = concept_of (trees rows) r ∷ []; appended = trees-push rows r }
      ])

  pub found-insert : (rows new : List Row) (r : Row) (i : ℕ) → new ≡ insert_key eq rows r → IsRows rows → IsWithin r (length rows) → length rows < 4294967295
      → (k : Row) × (slice_get new i ≡ Some k) × (eq r k ≡ true) → slice_get (trees new) i ≡ Some (concept_of (trees rows) r)
  found-insert rows new r i is h within room stored =
      let at : slice_get new i ≡ Some r = stored.1 ∙ ap Some (sym (eq_true r stored.0 stored.2)) in
      let low : IsWithin r (length (trees rows)) = subst (IsWithin r) (sym (length-trees rows)) within in
      trees-at new i r (rows-insert rows new r is h within room) at ∙ ap Some (concept_of-Appends (trees rows) (trees new) r (insert-grows rows new r is) low)

  -- ---- looking up

  pub placed : (rows : List Row) (r : Row) (i : ℕ) → IsRows rows → Some i ≡ position (eq r) rows → Some i ≡ number_of (trees rows) (concept_of (trees rows) r)
  placed rows r i h is =
      let found = position-Some (eq r) rows i r (sym is) in
      let at : slice_get rows i ≡ Some r = slice_get-get_or rows i r found.0 ∙ ap Some (sym (eq_true r (get_or rows i r) found.1)) in
      let there : slice_get (trees rows) i ≡ Some (concept_of (trees rows) r) = trees-at rows i r h at in
      sym (cond-true (has (trees rows) (concept_of (trees rows) r)) (Some (place_of (trees rows) (concept_of (trees rows) r))) None (has-get (trees rows) i (concept_of (trees rows) r) there)
      ∙ ap Some (place-get (trees rows) i (concept_of (trees rows) r) h.distinct there))

  pub not_placed : (rows : List Row) (r : Row) → IsRows rows → IsWithin r (length rows) → list_any (eq r) rows ≡ false → None ≡ number_of (trees rows) (concept_of (trees rows) r)
  not_placed rows r h within none =
      sym (cond-false (has (trees rows) (concept_of (trees rows) r)) (Some (place_of (trees rows) (concept_of (trees rows) r))) None
      (false_from_ne_true (has (trees rows) (concept_of (trees rows) r)) (λ t. absent rows r none (place_of (trees rows) (concept_of (trees rows) r)) (row-there rows r h within t))))
