-- What may be answered to a job, with its evidence.
use Rattle.std.specs.Prelude.{◌≡◌, ℕ, true, false, List, [], ◌∷◌, All, Some, slice_get}
use Rattle.dd_concept.specs.declared.concept.Concept.{Concept}
use Rattle.dd_concept.specs.declared.concept.Concept.TheVariants.{Name}
use Rattle.dd_interp.specs.declared.interp.Interp.{Interp}
use Rattle.dd_peer.specs.Relevant.{is_in}
use Rattle.dd_world.specs.declared.world.World.{World}
use Rattle.dd_world.specs.World.{IsCounter}
use Rattle.dd_task.specs.declared.job.Job.{Job}
use Rattle.dd_task.specs.declared.line.Line.{Line}
use Rattle.dd_task.specs.declared.line.Why.{Why}
use Rattle.dd_task.specs.declared.line.Why.TheVariants as why
use Rattle.dd_task.specs.declared.verdict.SpentRun.{SpentRun}
use Rattle.dd_task.specs.Derives.{Derives}
use Rattle.dd_answer.specs.declared.answer.Answer.{Answer}
use Rattle.dd_answer.specs.declared.answer.Answer.TheVariants as answer
use Rattle.dd_board.specs.declared.event.Event.{Event}
use Rattle.dd_board.specs.declared.event.Event.TheVariants.{Spent}
use Rattle.dd_board.specs.declared.event.Outcome.{Outcome}
use Rattle.dd_board.specs.declared.event.Outcome.TheVariants as outcome
use Rattle.dd_board.specs.View.{SessionView}
use Rattle.dd_board.specs.Standing.{IsOutcome}
use Rattle.dd_board.specs.Legal.{IsLegal, empty_start}
use Rattle.dd_run.specs.Given.{AllComeFromGiven, IsWrittenInGiven}

-- what a reason writes down besides numbers: the name of a clash, and the concept of a cut
abbrev pub written_by : Why → List Concept
written_by (why.Clash a) = Name a ∷ []
written_by (why.Cut on left right) = on ∷ []
written_by _ = []

-- The lines derive the query. Each is of a relevant peer, and all that is written in it comes from what the job gives.
pub record IsYes (job : Job) (lines : List Line) : Type 0 where
  pub derives : Derives job.pinned job.query lines
  pub relevant : All (λ (line : Line). is_in job.relevant line.peer ≡ true) lines
  pub labels : All (λ (line : Line). AllComeFromGiven job line.label) lines
  pub reasons : All (λ (line : Line). AllComeFromGiven job (written_by line.why)) lines

-- The world is a countermodel of the query. Peers that are not relevant have no elements, and all names and roles are given.
pub record IsNo (job : Job) (w : World) : Type 0 where
  pub counter : IsCounter job.pinned job.query w
  pub empty : (i : ℕ) (local : Interp) → slice_get w.locals i ≡ Some local → is_in job.relevant i ≡ false → local.size ≡ 0
  pub given : All (IsWrittenInGiven job) w.locals

-- a session of the job that began with nothing and came to this outcome by allowed events
pub record EndsWith (job : Job) (o : Outcome) (v : SessionView) : Type 0 where
  pub same_job : v.job ≡ job
  pub from_nothing : v.start ≡ empty_start job.pinned
  pub legal : IsLegal v
  pub ends : IsOutcome v o

-- the run was posted
pub record IsPostedRun (journal : List Event) (run : SpentRun) : Type 0 where
  pub event : ℕ
  pub task : ℕ
  pub number : ℕ
  pub at : slice_get journal event ≡ Some (Spent task number run)

-- in such a session a run used up its expansions, and this is the run
pub record IsRunSpent (job : Job) (run : SpentRun) : Type 0 where
  pub session : SessionView
  pub ended : EndsWith job outcome.SpentRun session
  pub posted : IsPostedRun session.journal run

-- such a session took all verdicts that the job allows, which are n
pub record AreVerdictsSpent (job : Job) (n : ℕ) : Type 0 where
  pub session : SessionView
  pub ended : EndsWith job outcome.SpentVerdicts session
  pub all : n ≡ job.budget.verdicts

-- by the kind of the answer; want of memory says nothing
abbrev pub Answers : Job → Answer → Type 0
Answers job (answer.Yes lines) = IsYes job lines
Answers job (answer.No w) = IsNo job w
Answers job (answer.RunSpent run) = IsRunSpent job run
Answers job (answer.VerdictsSpent n) = AreVerdictsSpent job n
Answers job answer.Memory = Unit {0}
