use Rattle.std.proofs.Common.{rules}
use Rattle.std.proofs.lemmas.List.Sorted.{IsNonDecreasingBy-from_sort_by_key}
use Rattle.dd_interp.proofs.SeenAt.{names-sorted}
use Rattle.dd_interp.proofs.seen.seen_names.Goals as goal

pub returns-clause-seen : goal.returns-clause-seen
returns-clause-seen c = names-sorted c.args.elements.now c.args.names.now _ _ c.sort_unstable_by_key.ensures.permutation c.in_ok-seen.ensures

pub returns-clause-grouped : goal.returns-clause-grouped
returns-clause-grouped c = IsNonDecreasingBy-from_sort_by_key (λ p. p.0) _ c.sort_unstable_by_key.ensures.sorted (λ a r q k. search rules)
