-- The asks at the peers so far are there.
use Rattle.std.proofs.Common.{◌≡◌, ◌++◌, map}
use Rattle.std.specs.List.{range_with_len}
use Rattle.dd_gen.specs.Made.{ask_line}
use Rattle.dd_gen.proofs.lines.push_asks.Given as goal

abbrev pub invariant-loop-i : goal.invariant-loop-i
invariant-loop-i l = map (λ line. line.items) l.lines.items ≡ map (λ line. line.items) l.fn.lines.items ++ map (ask_line l.left l.right) (range_with_len 0 l.i)
