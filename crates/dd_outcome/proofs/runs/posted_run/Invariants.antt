-- One of the events that are still to come posts a run.
use Rattle.std.proofs.Common.{◌≡◌, drop, true}
use Rattle.std.specs.List.{list_any}
use Rattle.dd_board.specs.Standing.{is_spent}
use Rattle.dd_outcome.proofs.runs.posted_run.Given as goal

abbrev pub invariant-loop-event : goal.invariant-loop-event
invariant-loop-event l = list_any is_spent (drop l.event-index l.journal) ≡ true
