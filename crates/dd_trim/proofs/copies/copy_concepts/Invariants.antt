-- The copies are those of the concepts so far.
use Rattle.std.proofs.Common.{◌≡◌, take}
use Rattle.dd_trim.proofs.copies.copy_concepts.Given as goal

abbrev pub invariant-loop-c : goal.invariant-loop-c
invariant-loop-c l = l.copies ≡ take l.c-index l.concepts
