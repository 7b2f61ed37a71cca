-- How many verdicts a session can take.
use Rattle.std.specs.Prelude.{◌≡◌, ℕ, ◌+◌, ◌*◌, ◌^◌, ◌≤◌, ◌==◌, Bool, false, length, count_by, sum_by, Some, slice_get}
use Rattle.dd_peer.specs.declared.version.Pinned.{Pinned}
use Rattle.dd_task.specs.declared.job.Job.{Job}
use Rattle.dd_task.specs.Rules.{into_rules, onto_rules}
use Rattle.dd_task.specs.Goals.{peer_of}
use Rattle.dd_board.specs.declared.event.Event.{Event}
use Rattle.dd_board.specs.declared.event.Event.TheVariants as event
use Rattle.dd_board.specs.View.{Task, SessionView}
use Rattle.dd_board.specs.Fit.{IsPlaced}
use Rattle.dd_board.specs.Standing.{posts}
use Rattle.dd_board.specs.Legal.{IsLegal}

-- how many different keys can ask peer h by the rules that peer i keeps from it
abbrev pub demands_between : Pinned → ℕ → ℕ → ℕ
demands_between p h i = length (onto_rules p h i) * 2 ^ length (into_rules p h i)

-- how many different keys the elements of peer i can raise, and how many different keys can ask peer i
abbrev pub demands_of_peer : Job → ℕ → ℕ
demands_of_peer job i = sum_by (λ h. demands_between job.pinned h i) job.relevant

abbrev pub demands_on_peer : Job → ℕ → ℕ
demands_on_peer job i = sum_by (λ j. demands_between job.pinned i j) job.relevant

-- the bound on the posts of a session
abbrev pub enough_verdicts : Job → ℕ
enough_verdicts job = sum_by (λ i. (1 + demands_on_peer job i) * (1 + demands_of_peer job i)) job.relevant

-- does the event post a verdict on task t
abbrev pub is_post_on : ℕ → Event → Bool
is_post_on t (event.Take u w n s) = false
is_post_on t (event.Closed u n c) = u == t
is_post_on t (event.Opened u n m x) = u == t
is_post_on t (event.Spent u n run) = u == t
is_post_on t (event.Give u n) = false

-- a task whose goal is at peer i has at most one post more than there are keys that elements of i can raise, and the session has
-- at most the bound
pub record IsBounded (v : SessionView) : Type 0 where
  pub each : (t : ℕ) (task : Task) → slice_get v.tasks t ≡ Some task → count_by (is_post_on t) v.journal ≤ 1 + demands_of_peer v.job (peer_of v.job task.key)
  pub all : posts v ≤ enough_verdicts v.job

-- so it is in every legal session whose rules and peers fit each other
abbrev pub LegalIsBounded : Type 0
LegalIsBounded = (v : SessionView) → IsLegal v → IsPlaced v.job → IsBounded v
