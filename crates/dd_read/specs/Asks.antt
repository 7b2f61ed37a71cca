-- The job for an ask, and the tests that an ask has to pass once its texts were read: its budget, and then the closures of the
-- peers that bear on it.
use Rattle.std.specs.Prelude.{◌≡◌, ℕ, ◌&&◌, Bool, true, nat_le, List, [], ◌∷◌, length, if◌then◌else◌, Option, None, Some, unwrap_or, Ok}
use Rattle.dd_peer.specs.Relevant.{AreRelevant}
use Rattle.dd_peer.specs.declared.version.Query.{Query}
use Rattle.dd_run.specs.Fit.{closure_for}
use Rattle.dd_task.specs.declared.job.Budget.{Budget}
use Rattle.dd_task.specs.declared.job.Job.{Job}
use Rattle.dd_wire.specs.Refusal.{Tested, ◌>>=◌, demand_none, closure_full}
use Rattle.dd_read.specs.State.{State, present_versions}
use Rattle.dd_read.specs.declared.options.Options.{Options}

-- the budget of an ask; what it does not say is that of the options
abbrev pub budget_of : Options → Option ℕ → Option ℕ → Budget
budget_of options expansions verdicts = record { expansions = unwrap_or expansions options.expansions; verdicts = unwrap_or verdicts options.verdicts }

-- the job for a query with this budget under the present pin, where these are the peers that bear on it
abbrev pub job_at : State → Query → Budget → List ℕ → Job
job_at state query budget relevant = record { pinned = present_versions state; query = query; relevant = relevant; budget = budget }

-- these are the peers that bear on it: no other list is
abbrev pub IsJobAt : State → Query → Budget → Job → Type 0
IsJobAt state query budget job = (relevant : List ℕ) × AreRelevant (present_versions state) query.peer relevant × (job ≡ job_at state query budget relevant)

-- ---- the tests

-- the most labels that a run for an ask may put, and the most verdicts that an ask may take
abbrev pub most_expansions : ℕ
most_expansions = 200000

abbrev pub most_verdicts : ℕ
most_verdicts = 20000

-- is a number from 1 up to this one
abbrev pub is_up_to : ℕ → ℕ → Bool
is_up_to most n = nat_le 1 n && nat_le n most

-- may an ask have this budget
abbrev pub is_budget : Budget → Bool
is_budget b = is_up_to most_expansions b.expansions && is_up_to most_verdicts b.verdicts

-- how many concepts a closure may have
abbrev pub most_concepts : ℕ
most_concepts = 4096

-- the number of concepts in the closure of the first of these peers where these are too many
abbrev pub first_full : Job → List ℕ → Option ℕ
first_full job [] = None
first_full job (i ∷ is) = let count = length (closure_for job i) in if nat_le count most_concepts then first_full job is else Some count

-- the closures of the peers that bear on the job are not too large; these peers rise, so the least one is told of
abbrev pub closures_pass : Job → Tested Bool
closures_pass job = demand_none closure_full (first_full job job.relevant) >>= (λ none. Ok true)
