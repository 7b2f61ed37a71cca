-- Laws of a session's definitions.
use Rattle.dd_peer.specs.Relevant.{AreRelevant}
use Rattle.dd_task.specs.declared.job.Job.{Job}
use Rattle.dd_server.specs.Relevance.{AskTheSame, AreAnsweredAlike}

-- What is answered rests on the versions of the relevant peers alone.
abbrev pub RelevantVersions : Type 0
RelevantVersions = (a b : Job) → AreRelevant a.pinned a.query.peer a.relevant → AskTheSame a b → AreAnsweredAlike a b
