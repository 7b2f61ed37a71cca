use Rattle.std.proofs.Common.{◌≡◌, true}
use Rattle.dd_world.specs.Tests.{all_below, keeps_onto}
use Rattle.dd_world.proofs.rules.all_meet_onto.Given as goal

abbrev pub invariant-loop-x : goal.invariant-loop-x
invariant-loop-x l = all_below l.x (keeps_onto l.w l.peer l.rule) ≡ true
