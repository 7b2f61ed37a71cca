-- Only wanted tasks are marked, and each round marks more.
use Rattle.std.proofs.Common.{count_by}
use Rattle.dd_board.specs.Flags.{is_unmarked}
use Rattle.dd_board.proofs.Marked.{IsRooted}
use Rattle.dd_board.proofs.flags.renew_wanted.Given as goal

abbrev pub invariant-loop : goal.invariant-loop
invariant-loop l = IsRooted l.fn.tasks l.tasks

abbrev pub decreases-loop : goal.decreases-loop
decreases-loop l = count_by is_unmarked l.tasks
