-- Jobs whose rules and peers fit each other, and what then holds of the tasks of their sessions.
use Rattle.std.specs.Prelude.{ℕ, ◌≡◌, ◌≢◌, ◌<◌, true, List, All, length, Some, slice_get}
use Rattle.dd_peer.specs.declared.version.Pinned.{Pinned}
use Rattle.dd_peer.specs.declared.version.PeerVersion.{PeerVersion}
use Rattle.dd_peer.specs.declared.version.Rule.{Rule}
use Rattle.dd_peer.specs.Rules.{rules_of}
use Rattle.dd_peer.specs.Relevant.{AreDeclared, AreRelevant, is_in}
use Rattle.dd_task.specs.declared.job.Job.{Job}
use Rattle.dd_task.specs.declared.job.Key.{Key}
use Rattle.dd_task.specs.declared.job.Key.TheVariants.{Asked}
use Rattle.dd_task.specs.declared.line.Prop.{Prop}
use Rattle.dd_task.specs.Goals.{peer_of}
use Rattle.dd_task.specs.Lines.{is_rising}
use Rattle.dd_task.specs.Rules.{into_rules, onto_rules}

-- each rule comes from another peer, which is declared; the query's peer is declared; the relevant peers are listed
pub record IsPlaced (job : Job) : Type 0 where
  pub asked : job.query.peer < length job.pinned.peers
  pub declared : AreDeclared job.pinned
  pub apart : (i : ℕ) (v : PeerVersion) → slice_get job.pinned.peers i ≡ Some v → All (λ (r : Rule). r.from ≢ i) (rules_of v)
  pub relevant : AreRelevant job.pinned job.query.peer job.relevant

-- the onto rule of the pair is there, and so are the into rules of the set, which stand in order
pub record AreThere (p : Pinned) (h i o : ℕ) (set : List ℕ) : Type 0 where
  pub onto : o < length (onto_rules p h i)
  pub into : All (λ k. k < length (into_rules p h i)) set
  pub rising : is_rising set ≡ true

-- so it is with the rules that the propagation into peer i names
abbrev pub HasRules : Pinned → ℕ → Prop → Type 0
HasRules p i prop = AreThere p prop.from i prop.onto prop.into_set

-- the same, and the propagation comes from another peer, which is declared
pub record IsPropFrom (p : Pinned) (i : ℕ) (prop : Prop) : Type 0 where
  pub other : prop.from ≢ i
  pub declared : prop.from < length p.peers
  pub by : HasRules p i prop

-- where the key is not the root's, its rules are there and its peer `to` is relevant
abbrev pub IsFitKey : Job → Key → Type 0
IsFitKey job key = (h i o : ℕ) (set : List ℕ) → key ≡ Asked h i o set → (is_in job.relevant i ≡ true) × AreThere job.pinned h i o set

-- a task with this key, seen with these propagations into its goal's peer
pub record IsFitTask (job : Job) (key : Key) (view : List Prop) : Type 0 where
  pub asks : IsFitKey job key
  pub relevant : is_in job.relevant (peer_of job key) ≡ true
  pub declared : peer_of job key < length job.pinned.peers
  pub view_by : All (IsPropFrom job.pinned (peer_of job key)) view
