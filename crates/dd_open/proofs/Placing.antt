-- The places of positions, where one position is added or looked up.
use Rattle.std.proofs.Common.{◌≡◌, ◌∙◌, ◌<◌, ◌-◌, ◌++◌, sym, ap, subst, ℕ, true, false, List, [], ◌∷◌, length, get_or, slice_get, slice_set, Some, arith}
use Rattle.std.proofs.lemmas.Bool.{false≢true}
use Rattle.std.proofs.lemmas.List.{length-append}
use Rattle.std.proofs.lemmas.Option.{slice_get_within, slice_get-get_or, get_or_from_slice_get}
use Rattle.dd_set.specs.Marked.{is_among, with_arrival}
use Rattle.dd_set.proofs.Arrivals.{with_arrival-there, with_arrival-new, place_among, among-at}
use Rattle.dd_graph.proofs.Lists.{get_push, get_push_new, get_set_same, get_set_other, place_at}
use Rattle.dd_open.specs.Places.{ArePlaces}

among-get : (ns : List ℕ) (k q : ℕ) → slice_get ns k ≡ Some q → is_among q ns ≡ true
among-get ns k q e = ap (λ n. is_among n ns) (sym (get_or_from_slice_get ns k q 0 e)) ∙ among-at ns k (slice_get_within ns k q e)

pub last-place : (ns : List ℕ) (n : ℕ) → is_among n ns ≡ false → length (with_arrival ns n) - 1 ≡ length ns
last-place ns n new = ap (λ l. length l - 1) (with_arrival-new ns n new) ∙ (let e = length-append ns (n ∷ []) in omega (arith, e))

pub placed-more : (ns places : List ℕ) (n place : ℕ) → ArePlaces ns places → is_among n ns ≡ false → n < length places → place ≡ length ns
    → ArePlaces (with_arrival ns n) (slice_set places n place)
placed-more ns places n place placed new lt is k q e =
    let there = place_at places n lt in
    get_push (λ j p. slice_get (slice_set places n place) p ≡ Some j) ns n
    (λ j p f. get_set_other places n p place (λ same. false≢true (sym new ∙ subst (λ m. is_among m ns ≡ true) same (among-get ns j p f))) ∙ placed j p f)
    (get_set_same places n place there.0 there.1 ∙ ap Some is) k q (subst (λ l. slice_get l k ≡ Some q) (with_arrival-new ns n new) e)

pub place-new : (ns : List ℕ) (n place : ℕ) → is_among n ns ≡ false → place ≡ length ns → slice_get (with_arrival ns n) place ≡ Some n
place-new ns n place new is = ap (λ l. slice_get l place) (with_arrival-new ns n new) ∙ ap (slice_get (ns ++ n ∷ [])) is ∙ get_push_new ns n

-- a place that is read
pub place-old : (ns places : List ℕ) (n place : ℕ) → ArePlaces ns places → is_among n ns ≡ true → get_or places n place ≡ place → slice_get (with_arrival ns n) place ≡ Some n
place-old ns places n place placed there read =
    let at = place_among n ns there in
    let stands : slice_get ns at.0 ≡ Some n = slice_get-get_or ns at.0 0 at.1 ∙ ap Some at.2 in
    let is : at.0 ≡ place = sym (get_or_from_slice_get places n at.0 place (placed at.0 n stands)) ∙ read in
    ap (λ l. slice_get l place) (with_arrival-there ns n there) ∙ ap (slice_get ns) (sym is) ∙ stands
