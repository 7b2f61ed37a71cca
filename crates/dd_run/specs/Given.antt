-- What a job gives: the concepts of its relevant peers' versions and of its query. All that is answered is written with these.
use Rattle.std.specs.Prelude.{ℕ, ◌≡◌, Bool, true, List, [], ◌∷◌, ◌++◌, All, Contains, flat_map}
use Rattle.std.specs.List.{list_any}
use Rattle.dd_concept.specs.declared.concept.Axiom.{Axiom}
use Rattle.dd_concept.specs.declared.concept.Concept.{Concept}
use Rattle.dd_concept.specs.Names.{names_in, roles_in}
use Rattle.dd_concept.specs.Normal.{IsSmallFor}
use Rattle.dd_concept.specs.Same.{has}
use Rattle.dd_interp.specs.declared.interp.Interp.{Interp}
use Rattle.dd_peer.specs.declared.version.Pinned.{Pinned}
use Rattle.dd_peer.specs.declared.version.Rule.{Rule}
use Rattle.dd_task.specs.declared.job.Job.{Job}
use Rattle.dd_task.specs.Keys.{is_among}
use Rattle.dd_task.specs.Rules.{axioms_of, all_into, all_onto}
use Rattle.dd_run.specs.Fit.{closure_for}

-- both sides of an axiom, and both of a rule
abbrev pub sides_in : Axiom → List Concept
sides_in a = a.left ∷ a.right ∷ []

abbrev pub sides_by : Rule → List Concept
sides_by r = r.source ∷ r.target ∷ []

-- the concepts of a peer's version, as they stand there
abbrev pub given_by : Pinned → ℕ → List Concept
given_by p i = flat_map sides_in (axioms_of p i) ++ flat_map sides_by (all_into p i ++ all_onto p i)

-- those of the versions of the relevant peers, and of the query
abbrev pub given_of : Job → List Concept
given_of job = flat_map (given_by job.pinned) job.relevant ++ (job.query.left ∷ job.query.right ∷ [])

-- The concept comes from one that is given: its names and its roles stand in that one, and it is within the limits of
-- certificates where that one is within those of requests.
pub record ComesFromGiven (job : Job) (c : Concept) : Type 0 where
  pub source : Concept
  pub given : has (given_of job) source ≡ true
  pub names : (a : ℕ) → is_among (names_in c) a ≡ true → is_among (names_in source) a ≡ true
  pub roles : (r : ℕ) → is_among (roles_in c) r ≡ true → is_among (roles_in source) r ≡ true
  pub small : IsSmallFor source c

-- all concepts of the label do
abbrev pub AllComeFromGiven : Job → List Concept → Type 0
AllComeFromGiven job label = (c : Concept) → has label c ≡ true → ComesFromGiven job c

-- does the name stand in a concept that is given, or the role
abbrev pub is_given_name : Job → ℕ → Bool
is_given_name job a = list_any (λ c. is_among (names_in c) a) (given_of job)

abbrev pub is_given_role : Job → ℕ → Bool
is_given_role job r = list_any (λ c. is_among (roles_in c) r) (given_of job)

-- the names and the roles of the interpretation do
pub record IsWrittenInGiven (job : Job) (m : Interp) : Type 0 where
  pub names : All (λ p. is_given_name job p.0 ≡ true) m.names
  pub roles : All (λ t. is_given_role job t.0 ≡ true) m.roles

-- each concept of a relevant peer's closure comes from one that is given
abbrev pub ClosuresComeFromGiven : Type 0
ClosuresComeFromGiven = (job : Job) (i : ℕ) → Contains job.relevant i → (c : Concept) → has (closure_for job i) c ≡ true → ComesFromGiven job c
