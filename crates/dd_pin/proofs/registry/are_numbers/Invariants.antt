use Rattle.std.proofs.Common.{◌≡◌, true, get_or, length, nat_lt, []}
use Rattle.std.specs.List.{list_all, range_with_len}
use Rattle.dd_pin.proofs.registry.are_numbers.Given as goal

abbrev pub invariant-loop-peer : goal.invariant-loop-peer
invariant-loop-peer l = list_all (λ k. nat_lt (get_or l.numbers k 0) (length (get_or l.versions k []))) (range_with_len 0 l.peer) ≡ true
