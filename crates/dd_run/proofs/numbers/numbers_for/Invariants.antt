-- The label has the numbers of the concepts so far.
use Rattle.std.proofs.Common.{◌≡◌, length, take}
use Rattle.dd_run.specs.Numbers.{AreNumbersOf}
use Rattle.dd_run.proofs.numbers.numbers_for.Given as goal

abbrev pub invariant-loop-c : goal.invariant-loop-c
invariant-loop-c l = (l.label.width ≡ length l.compiled.concepts)
    × AreNumbersOf l.compiled.concepts (take l.c-index l.concepts) l.label.words
