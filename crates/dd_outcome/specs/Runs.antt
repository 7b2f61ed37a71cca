-- For private clauses alone: the run that a journal has.
use Rattle.std.specs.Prelude.{◌≡◌, List, Option, None, Some}
use Rattle.dd_concept.specs.declared.concept.Concept.{Concept}
use Rattle.dd_task.specs.declared.verdict.SpentRun.{SpentRun}
use Rattle.dd_answer.specs.declared.answer.Answer.{Answer}
use Rattle.dd_answer.specs.declared.answer.Answer.TheVariants as answer
use Rattle.dd_board.specs.declared.event.Event.{Event}
use Rattle.dd_board.specs.declared.event.Event.TheVariants as event
use Rattle.dd_outcome.specs.Answers.{IsPostedRun}

-- the run of the event, where it posts one
abbrev pub run_of : Event → Option SpentRun
run_of (event.Take t w n s) = None
run_of (event.Closed t n c) = None
run_of (event.Opened t n m x) = None
run_of (event.Spent t n run) = Some run
run_of (event.Give t n) = None

-- a run that was posted is answered, or want of memory
abbrev pub TellsRun : List Event → Answer → Type 0
TellsRun journal (answer.Yes lines) = ⊥
TellsRun journal (answer.No w) = ⊥
TellsRun journal (answer.RunSpent run) = IsPostedRun journal run
TellsRun journal (answer.VerdictsSpent n) = ⊥
TellsRun journal answer.Memory = Unit {0}

-- the answer is this run, or want of memory
abbrev pub IsRunOrMemory : SpentRun → Answer → Type 0
IsRunOrMemory run (answer.Yes lines) = ⊥
IsRunOrMemory run (answer.No w) = ⊥
IsRunOrMemory run (answer.RunSpent copy) = copy ≡ run
IsRunOrMemory run (answer.VerdictsSpent n) = ⊥
IsRunOrMemory run answer.Memory = Unit {0}
