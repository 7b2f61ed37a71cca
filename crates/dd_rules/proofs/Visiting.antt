-- The walk over the rows: what it knows stays true.
use Rattle.std.proofs.Common.{◌≡◌, ◌∙◌, ℕ, zero, suc, ◌<◌, Bool, true, false, List, [], ◌∷◌, ◌++◌, length, get_or, map, refl, sym, ap, subst, arith, inl, inr, ◌⊎◌, Some, None, Option, slice_get, slice_set, replicate}
use Rattle.std.specs.Option.{is_some, option_map}
use Rattle.std.proofs.lemmas.List.{map-append, length-map, length-set}
use Rattle.std.proofs.lemmas.Option.{same_Some, slice_get-get_or, slice_get-map, slice_get_read}
use Rattle.std.proofs.lemmas.Bool.{false≢true, cases_Bool, cond-true, cond-false, false_from_ne_true}
use Rattle.dd_concept.specs.declared.concept.Concept.{Concept}
use Rattle.dd_concept.specs.declared.concept.Concept.TheVariants as concept
use Rattle.dd_concept.specs.Same.{has, is_within}
use Rattle.dd_concept.specs.Parts.{parts_in_order}
use Rattle.dd_rules.specs.Closure.{are_distinct}
use Rattle.dd_rules.specs.Compiled.{concept_at}
use Rattle.dd_rules.specs.Numbers.{number_of, place_of}
use Rattle.dd_rules.specs.Trees.{concept_of, trees, IsRows}
use Rattle.dd_rules.specs.Walks.{with_one, with_all, concepts_in, parts_below, IsWalkOf}
use Rattle.dd_rules.specs.declared.row.Row.{Row}
use Rattle.dd_rules.specs.declared.row.Row.TheVariants as row
use Rattle.dd_rules.proofs.Growing.{length-trees, trees-at}
use Rattle.dd_rules.proofs.Numbering.{one-new, all-append, all-within, numbers-next, numbers-none, within-one}
use Rattle.dd_rules.proofs.Parts.{parts-Top, parts-Bottom, parts-Name, parts-Not, parts-And, parts-Or, parts-HasSome, parts-HasAll}

pub at-get : (cs : List Concept) (n : ℕ) → n < length cs → slice_get cs n ≡ Some (concept_at cs n)
at-get cs n h = slice_get-get_or cs n concept.Top h

pub numbers-length : (ts : List Concept) (order : List ℕ) (numbers : List (Option ℕ)) (done : List Bool) → IsWalkOf ts order numbers done → length numbers ≡ length ts
numbers-length ts order numbers done h = ap length h.numbers_are ∙ length-map ts (number_of (concepts_in ts order))

-- the number at a row is that of its concept
pub number-read : (xs ts : List Concept) (numbers : List (Option ℕ)) (n : ℕ) (o : Option ℕ) → numbers ≡ map (number_of xs) ts → n < length ts
    → o ≡ get_or numbers n o → o ≡ number_of xs (concept_at ts n)
number-read xs ts numbers n o is low read =
    let at : slice_get numbers n ≡ Some o = slice_get_read numbers (length numbers) n o refl (omega (arith, low, ap length is, length-map ts (number_of xs))) read in
    let there : slice_get (map (number_of xs) ts) n ≡ Some (number_of xs (concept_at ts n)) = slice_get-map (number_of xs) ts n ∙ ap (option_map (number_of xs)) (at-get ts n low) in
    same_Some o (number_of xs (concept_at ts n)) (sym at ∙ ap (λ l. slice_get l n) is ∙ there)

pub number-has : (xs : List Concept) (c : Concept) → is_some (number_of xs c) ≡ true → has xs c ≡ true
number-has xs c h = elim (cases_Bool (has xs c)) [
  | inl t ↦ t
  | inr f ↦ absurd (false≢true (sym (ap is_some (cond-false (has xs c) (Some (place_of xs c)) None f)) ∙ h))
]

pub number-lacks : (xs : List Concept) (c : Concept) → is_some (number_of xs c) ≡ false → has xs c ≡ false
number-lacks xs c h = false_from_ne_true (has xs c) (λ t. false≢true (sym h ∙ ap is_some (cond-true (has xs c) (Some (place_of xs c)) None t)))

-- ---- the beginning

false-nowhere : (k i : ℕ) → slice_get (replicate k false) i ≡ Some true → ⊥
false-nowhere zero i h = cc
false-nowhere (suc k) zero h = false≢true (same_Some false true h)
false-nowhere (suc k) (suc i) h = false-nowhere k i h

length-falses : (k : ℕ) → length (replicate k false) ≡ k
length-falses zero = refl
length-falses (suc k) = ap suc (length-falses k)

pub walk-none : (ts : List Concept) (k : ℕ) → k ≡ length ts → IsWalkOf ts [] (replicate k None) (replicate k false)
walk-none ts k e = record {
  numbers_are = ap (λ n. replicate n None) e ∙ numbers-none ts;
  sized = length-falses k ∙ e;
  done_are = λ i h. absurd (false-nowhere k i h);
  within = λ k n h. absurd (nothing k n h);
}
  where
    nothing : (k n : ℕ) → slice_get [] k ≡ Some n → ⊥
    nothing k n h = cc

-- ---- one number more

module _ (ts : List Concept) (order : List ℕ) (numbers : List (Option ℕ)) (done : List Bool) (n : ℕ) where
  pub marked-order : has (concepts_in ts order) (concept_at ts n) ≡ false → concepts_in ts (order ++ n ∷ []) ≡ with_one (concepts_in ts order) (concept_at ts n)
  marked-order f = map-append (concept_at ts) order (n ∷ []) ∙ sym (one-new (concepts_in ts order) (concept_at ts n) f)

  pub marked : IsWalkOf ts order numbers done → are_distinct ts ≡ true → n < length ts → has (concepts_in ts order) (concept_at ts n) ≡ false
      → IsWalkOf ts (order ++ n ∷ []) (slice_set numbers n (Some (length order))) done
  marked h u low f =
      let xs = concepts_in ts order in
      let more : concepts_in ts (order ++ n ∷ []) ≡ xs ++ concept_at ts n ∷ [] = map-append (concept_at ts) order (n ∷ []) in
      let next : slice_set (map (number_of xs) ts) n (Some (length order)) ≡ map (number_of (xs ++ concept_at ts n ∷ [])) ts =
      ap (λ k. slice_set (map (number_of xs) ts) n (Some k)) (sym (length-map order (concept_at ts))) ∙ numbers-next xs ts (concept_at ts n) n u (at-get ts n low) f in
      record {
        numbers_are = ap (λ l. slice_set l n (Some (length order))) h.numbers_are ∙ next ∙ ap (λ l. map (number_of l) ts) (sym more);
        sized = h.sized;
        done_are = λ i d. ap (is_within (parts_in_order (concept_at ts i))) (more ∙ sym (one-new xs (concept_at ts n) f)) ∙ within-one (parts_in_order (concept_at ts i)) xs (concept_at ts n) (h.done_are i d);
        within = λ k m e. elim (pushed order n k m e) [ inl old ↦ h.within k m old | inr new ↦ subst (λ x. x < length ts) new low ];
      }
    where
      pushed : (xs : List ℕ) (y i z : ℕ) → slice_get (xs ++ y ∷ []) i ≡ Some z → (slice_get xs i ≡ Some z) ⊎ (y ≡ z)
      pushed [] y zero z h = inr (same_Some y z h)
      pushed [] y (suc i) z h = cc
      pushed (x ∷ xs) y zero z h = inl h
      pushed (x ∷ xs) y (suc i) z h = pushed xs y i z h

-- ---- a row that is done

get_set : (xs : List Bool) (n i : ℕ) (b : Bool) → slice_get (slice_set xs n true) i ≡ Some b → (i ≡ n) ⊎ (slice_get xs i ≡ Some b)
get_set [] n i b h = inr h
get_set (x ∷ xs) zero zero b h = inl refl
get_set (x ∷ xs) zero (suc i) b h = inr h
get_set (x ∷ xs) (suc n) zero b h = inr h
get_set (x ∷ xs) (suc n) (suc i) b h = elim (get_set xs n i b h) [ inl e ↦ inl (ap suc e) | inr k ↦ inr k ]

pub finished : (ts : List Concept) (order : List ℕ) (numbers : List (Option ℕ)) (done : List Bool) (n : ℕ) → IsWalkOf ts order numbers done
    → is_within (parts_in_order (concept_at ts n)) (concepts_in ts order) ≡ true → IsWalkOf ts order numbers (slice_set done n true)
finished ts order numbers done n h w = record {
  numbers_are = h.numbers_are;
  sized = length-set done n true ∙ h.sized;
  done_are = λ i d. elim (get_set done n i true d) [ inl e ↦ subst (λ j. is_within (parts_in_order (concept_at ts j)) (concepts_in ts order) ≡ true) (sym e) w | inr k ↦ h.done_are i k ];
  within = h.within;
}

-- ---- a row by its parts

parts-of : (ts : List Concept) (r : Row) → parts_in_order (concept_of ts r) ≡ concept_of ts r ∷ parts_below ts r
parts-of ts row.Top = parts-Top
parts-of ts row.Bottom = parts-Bottom
parts-of ts (row.Name a) = parts-Name a
parts-of ts (row.Not l) = parts-Not (concept_at ts l)
parts-of ts (row.And l k) = parts-And (concept_at ts l) (concept_at ts k)
parts-of ts (row.Or l k) = parts-Or (concept_at ts l) (concept_at ts k)
parts-of ts (row.HasSome s l) = parts-HasSome s (concept_at ts l)
parts-of ts (row.HasAll s l) = parts-HasAll s (concept_at ts l)

pub row-is : (rows : List Row) (n : ℕ) (r : Row) → IsRows rows → n < length rows → slice_get rows n ≡ Some r → concept_at (trees rows) n ≡ concept_of (trees rows) r
row-is rows n r h low at =
    same_Some (concept_at (trees rows) n) (concept_of (trees rows) r)
    (sym (at-get (trees rows) n (omega (arith, low, length-trees rows))) ∙ trees-at rows n r h at)

-- a row is visited by its concept and then its parts
pub visited : (rows : List Row) (n : ℕ) (r : Row) (xs ys zs : List Concept) → IsRows rows → n < length rows → slice_get rows n ≡ Some r
    → ys ≡ with_one xs (concept_at (trees rows) n) → zs ≡ with_all ys (parts_below (trees rows) r) → zs ≡ with_all xs (parts_in_order (concept_at (trees rows) n))
visited rows n r xs ys zs h low at first rest =
    let is = row-is rows n r h low at in
    rest ∙ ap (λ l. with_all l (parts_below (trees rows) r)) (first ∙ ap (with_one xs) is) ∙ ap (with_all xs) (sym (parts-of (trees rows) r) ∙ ap parts_in_order (sym is))

pub visited-within : (xs cs zs : List Concept) → zs ≡ with_all xs cs → is_within cs zs ≡ true
visited-within xs cs zs is = ap (is_within cs) is ∙ all-within xs cs

pub two-parts : (xs ys zs cs ds : List Concept) → ys ≡ with_all xs cs → zs ≡ with_all ys ds → zs ≡ with_all xs (cs ++ ds)
two-parts xs ys zs cs ds first rest = rest ∙ ap (λ l. with_all l ds) first ∙ sym (all-append xs cs ds)
