-- The total is that of the interpretations so far.
use Rattle.std.proofs.Common.{◌≡◌, sum_by, take}
use Rattle.dd_answer.specs.Weight.{capped, content_of}
use Rattle.dd_answer.proofs.measure.weight_of_locals.Given as goal

abbrev pub invariant-loop-local : goal.invariant-loop-local
invariant-loop-local l = l.total ≡ capped (sum_by content_of (take l.local-index l.locals))
