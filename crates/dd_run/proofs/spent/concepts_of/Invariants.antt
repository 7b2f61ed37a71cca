-- The concepts so far.
use Rattle.std.proofs.Common.{◌≡◌, take}
use Rattle.dd_run.proofs.spent.concepts_of.Given as goal

abbrev pub invariant-loop-n : goal.invariant-loop-n
invariant-loop-n l = l.concepts ≡ take l.n l.compiled.concepts
