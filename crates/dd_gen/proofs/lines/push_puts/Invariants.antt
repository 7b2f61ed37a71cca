-- The puts of the peers so far are there.
use Rattle.std.proofs.Common.{◌≡◌, ◌++◌, map}
use Rattle.std.specs.List.{range_with_len}
use Rattle.dd_gen.specs.Made.{put_line}
use Rattle.dd_gen.proofs.lines.push_puts.Given as goal

abbrev pub invariant-loop-i : goal.invariant-loop-i
invariant-loop-i l = map (λ line. line.items) l.lines.items ≡ map (λ line. line.items) l.fn.lines.items ++ map (put_line l.seed l.peers l.size) (range_with_len 0 l.i)
