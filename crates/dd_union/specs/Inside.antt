-- Names and roles that stand in the closure of a peer.
use Rattle.std.specs.Prelude.{◌≡◌, ℕ, Bool, true, List, All}
use Rattle.std.specs.List.{list_any}
use Rattle.dd_concept.specs.declared.concept.Concept.{Concept}
use Rattle.dd_concept.specs.Names.{names_in, roles_in}
use Rattle.dd_interp.specs.declared.interp.Interp.{Interp}
use Rattle.dd_task.specs.declared.job.Job.{Job}
use Rattle.dd_task.specs.Closure.{IsClosedOver, extra_for}
use Rattle.dd_task.specs.Keys.{is_among}
use Rattle.dd_task.specs.Rules.{axioms_of}

-- does the name stand in a concept of the list, or the role
abbrev pub has_name : List Concept → ℕ → Bool
has_name concepts a = list_any (λ c. is_among (names_in c) a) concepts

abbrev pub has_role : List Concept → ℕ → Bool
has_role concepts r = list_any (λ c. is_among (roles_in c) r) concepts

-- it stands in the closure of the peer for the job: in each list that is closed as the closure is
abbrev pub IsNameInClosure : Job → ℕ → ℕ → Type 0
IsNameInClosure job i a = (other : List Concept) → IsClosedOver (axioms_of job.pinned i) (extra_for job i) other → has_name other a ≡ true

abbrev pub IsRoleInClosure : Job → ℕ → ℕ → Type 0
IsRoleInClosure job i r = (other : List Concept) → IsClosedOver (axioms_of job.pinned i) (extra_for job i) other → has_role other r ≡ true

-- the names and the roles of the interpretation do, so they stand in relevant versions or in the query
pub record IsWrittenInClosure (job : Job) (i : ℕ) (m : Interp) : Type 0 where
  pub names : All (λ p. IsNameInClosure job i p.0) m.names
  pub roles : All (λ t. IsRoleInClosure job i t.0) m.roles
