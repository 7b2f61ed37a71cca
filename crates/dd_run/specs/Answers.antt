-- When the answer to the query of a peer that is alone is right.
use Rattle.std.specs.Prelude.{List, [], All}
use Rattle.dd_answer.specs.declared.answer.Answer.{Answer}
use Rattle.dd_answer.specs.declared.answer.Answer.TheVariants as answer
use Rattle.dd_task.specs.declared.job.Job.{Job}
use Rattle.dd_task.specs.declared.job.Key.TheVariants.{Root}
use Rattle.dd_task.specs.declared.line.Line.{Line}
use Rattle.dd_task.specs.Derives.{Derives}
use Rattle.dd_task.specs.Goals.{goal_for}
use Rattle.dd_task.specs.Verdicts.{IsRightClosed, IsRightSpent}
use Rattle.dd_world.specs.declared.world.World.{World}
use Rattle.dd_world.specs.World.{IsCounter}
use Rattle.dd_run.specs.Given.{AllComeFromGiven, IsWrittenInGiven}

-- The lines derive the query. They are those of a closed verdict on its goal, so they are of its peer, in the concepts of the
-- closure, and cut on no others than targets of its onto rules. These concepts come from what the job gives.
pub record IsRightYes (job : Job) (lines : List Line) : Type 0 where
  pub derives : Derives job.pinned job.query lines
  pub closed : IsRightClosed job (goal_for job Root) [] lines
  pub given : All (λ (line : Line). AllComeFromGiven job line.label) lines

-- the world is a countermodel, written with names and roles that the job gives
pub record IsRightNo (job : Job) (w : World) : Type 0 where
  pub counter : IsCounter job.pinned job.query w
  pub given : All (IsWrittenInGiven job) w.locals

-- Yes: the lines derive the query. No: the world is a countermodel of it. A spent run is right for the query's goal, without
-- propagations. Want of memory says nothing, and verdicts are never spent.
abbrev pub IsRightAnswer : Job → Answer → Type 0
IsRightAnswer job (answer.Yes lines) = IsRightYes job lines
IsRightAnswer job (answer.No w) = IsRightNo job w
IsRightAnswer job (answer.RunSpent run) = IsRightSpent job (goal_for job Root) [] run
IsRightAnswer job (answer.VerdictsSpent n) = ⊥
IsRightAnswer job answer.Memory = Unit {0}
