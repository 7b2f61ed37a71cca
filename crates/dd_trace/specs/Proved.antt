-- For private clauses alone: how many lines there are up to the one that proves a task.
use Rattle.std.specs.Prelude.{ℕ, ◌+◌}
use Rattle.dd_board.specs.declared.event.TaskState.{TaskState}
use Rattle.dd_board.specs.declared.event.TaskState.TheVariants as state

abbrev pub lines_to : TaskState → ℕ
lines_to state.Unknown = 0
lines_to (state.Open at raised seen) = 0
lines_to (state.Proved line) = line + 1
