use Rattle.std.proofs.Common.{◌≡◌, true}
use Rattle.dd_world.specs.Tests.{all_below, passes}
use Rattle.dd_world.proofs.included.are_all_passed.Given as goal

abbrev pub invariant-loop-x : goal.invariant-loop-x
invariant-loop-x l = all_below l.x (passes l.w l.peer l.left l.right) ≡ true
