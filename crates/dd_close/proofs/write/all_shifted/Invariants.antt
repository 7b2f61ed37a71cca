use Rattle.std.proofs.Common.{◌≡◌, ◌+◌, length, map, take}
use Rattle.dd_close.proofs.write.all_shifted.Given as goal

abbrev pub invariant-loop-line : goal.invariant-loop-line
invariant-loop-line l = l.shifted_lines ≡ map (λ m. length l.view + m) (take l.line-index l.lines)
