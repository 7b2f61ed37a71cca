-- The lines so far.
use Rattle.std.proofs.Common.{◌≡◌, ◌++◌, take, map, length}
use Rattle.dd_board.specs.Moved.{moved_line}
use Rattle.dd_board.proofs.closing.append.Given as goal

abbrev pub invariant-loop-line : goal.invariant-loop-line
invariant-loop-line l = l.lines ≡ l.initial.lines ++ map (moved_line l.view (length l.initial.lines)) (take l.line-index l.own)
