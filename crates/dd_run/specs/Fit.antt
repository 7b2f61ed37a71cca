-- What a run may be asked.
use Rattle.std.specs.Prelude.{ℕ, ◌≡◌, ◌<◌, ◌≤◌, true, List, [], ◌∷◌, All, Contains, length}
use Rattle.dd_concept.specs.declared.concept.Concept.{Concept}
use Rattle.dd_concept.specs.Same.{is_within}
use Rattle.dd_close.specs.Fits.{IsPropInto, HasSmallTarget}
use Rattle.dd_peer.specs.declared.version.PeerVersion.{PeerVersion}
use Rattle.dd_peer.specs.declared.version.Pinned.{Pinned}
use Rattle.dd_rules.specs.Closure.{closure_of}
use Rattle.dd_task.specs.declared.job.Goal.{Goal}
use Rattle.dd_task.specs.declared.job.Job.{Job}
use Rattle.dd_task.specs.declared.job.Key.{Key}
use Rattle.dd_task.specs.declared.job.Key.TheVariants.{Root, Asked}
use Rattle.dd_task.specs.declared.line.Prop.{Prop}
use Rattle.dd_task.specs.Closure.{extra_for}
use Rattle.dd_task.specs.Goals.{goal_for, peer_of}
use Rattle.dd_task.specs.Rules.{axioms_of, all_onto}

-- the closure of peer i for the job, each concept once, in the order of first occurrence
abbrev pub closure_for : Job → ℕ → List Concept
closure_for job i = closure_of (axioms_of job.pinned i) (extra_for job i)

-- it has no more concepts than a run can number
abbrev pub HasFewConcepts : Job → ℕ → Type 0
HasFewConcepts job i = length (closure_for job i) ≤ 4096

-- the concepts of the goal are among those that a run numbers
pub record IsFitGoal (job : Job) (goal : Goal) : Type 0 where
  pub few : HasFewConcepts job goal.peer
  pub inside : is_within goal.label (closure_for job goal.peer) ≡ true

-- the peer that keeps the rules of the key is relevant
abbrev pub IsKeptByRelevant : Job → Key → Type 0
IsKeptByRelevant job Root = Unit {0}
IsKeptByRelevant job (Asked h i o set) = Contains job.relevant i

-- in each job: the goal of such a key may be asked, where the closure of its peer has few enough concepts
abbrev pub GoalsOfKeysAreFit : Type 0
GoalsOfKeysAreFit = (job : Job) (key : Key) → IsKeptByRelevant job key → HasFewConcepts job (peer_of job key) → IsFitGoal job (goal_for job key)

-- The peer is declared. Each propagation of the view is into it, from another peer, and its rules are there, in order. The targets
-- of the onto rules that the peer keeps are within the limits of requests.
pub record IsFitView (p : Pinned) (i : ℕ) (view : List Prop) : Type 0 where
  pub declared : i < length p.peers
  pub each : All (IsPropInto p i) view
  pub targets : All HasSmallTarget (all_onto p i)

-- there is one peer, which is asked and relevant, and which keeps no onto rules; so its elements need nothing of other peers
pub record IsAlone (job : Job) : Type 0 where
  pub version : PeerVersion
  pub only : job.pinned.peers ≡ version ∷ []
  pub asked : job.query.peer ≡ 0
  pub relevant : job.relevant ≡ 0 ∷ []
  pub no_onto : version.onto ≡ []
