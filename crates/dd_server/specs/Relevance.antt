-- What an answer rests on: the versions of the peers that are relevant to its question.
use Rattle.std.specs.Prelude.{◌≡◌, ℕ, ◌↔◌, true, List, length, slice_get}
use Rattle.dd_peer.specs.Relevant.{AreRelevant, is_in}
use Rattle.dd_world.specs.World.{Follows}
use Rattle.dd_world.specs.declared.world.World.{World}
use Rattle.dd_task.specs.declared.job.Job.{Job}
use Rattle.dd_task.specs.declared.line.Line.{Line}
use Rattle.dd_answer.specs.declared.answer.Answer.TheVariants.{Yes, No}
use Rattle.dd_outcome.specs.Answers.{Answers}

-- Two jobs ask the same question under pinned sets of as many peers, list the same peers, and have the versions of these in common.
-- The other versions, and the budgets, may differ.
pub record AskTheSame (a b : Job) : Type 0 where
  pub query : b.query ≡ a.query
  pub peers : length b.pinned.peers ≡ length a.pinned.peers
  pub relevant : b.relevant ≡ a.relevant
  pub versions : (i : ℕ) → is_in a.relevant i ≡ true → slice_get b.pinned.peers i ≡ slice_get a.pinned.peers i

-- the same peers are relevant to both, the query follows under both or under none, and the yes and no that one may be answered are
-- those of the other
pub record AreAnsweredAlike (a b : Job) : Type 0 where
  pub relevant : AreRelevant b.pinned b.query.peer b.relevant
  pub follows : Follows a.pinned a.query ↔ Follows b.pinned b.query
  pub yes_alike : (lines : List Line) → Answers a (Yes lines) ↔ Answers b (Yes lines)
  pub no_alike : (w : World) → Answers a (No w) ↔ Answers b (No w)
