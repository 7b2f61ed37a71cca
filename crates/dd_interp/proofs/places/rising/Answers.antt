use Rattle.std.proofs.Common.{◌∙◌, ap, sym, subst, nat_eq}
use Rattle.std.specs.List.Sorted.{IsNonDecreasing}
use Rattle.std.proofs.lemmas.List.Sorted.{IsNonDecreasingBy-from_sort, list_any-IsPermutation}
use Rattle.dd_interp.specs.Places.{is_listed}
use Rattle.dd_interp.proofs.Results.{if_ok}
use Rattle.dd_interp.proofs.places.rising.Goals as goal

pub distinct-requires : goal.distinct-requires
distinct-requires c = subst IsNonDecreasing (sym c.as_slice.ensures.value) (IsNonDecreasingBy-from_sort (λ x. x) _ c.sort_unstable.ensures.sorted)

pub returns-clause-same : goal.returns-clause-same
returns-clause-same c = if_ok c.distinct.result (λ v h x. h x ∙ ap (λ l. is_listed l x) c.as_slice.ensures.value
    ∙ sym (list_any-IsPermutation (λ y. nat_eq y x) _ _ c.sort_unstable.ensures.permutation) ∙ ap (λ l. is_listed l x) c.in_ok-sorted.ensures.items) c.distinct.ensures.same
