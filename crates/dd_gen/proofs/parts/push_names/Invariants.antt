-- The names so far are written.
use Rattle.std.proofs.Common.{◌≡◌, ◌++◌, map}
use Rattle.std.specs.List.{range_with_len}
use Rattle.dd_gen.specs.Made.{peer_name}
use Rattle.dd_gen.specs.Written.{quoted, with_commas}
use Rattle.dd_gen.proofs.parts.push_names.Given as goal

abbrev pub invariant-loop-i : goal.invariant-loop-i
invariant-loop-i l = l.out.items ≡ l.fn.out.items ++ with_commas (map (λ i. quoted (peer_name i)) (range_with_len 0 l.i))
