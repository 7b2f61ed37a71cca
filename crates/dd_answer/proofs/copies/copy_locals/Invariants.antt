-- The copies are those of the items so far.
use Rattle.std.proofs.Common.{◌≡◌, take}
use Rattle.dd_answer.proofs.copies.copy_locals.Given as goal

abbrev pub invariant-loop-local : goal.invariant-loop-local
invariant-loop-local l = l.copies ≡ take l.local-index l.locals
