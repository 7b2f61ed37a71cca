-- For private clauses: lines as they are written down.
use Rattle.std.specs.Prelude.{ℕ, ◌≡◌, ◌++◌, true, List, map, take, slice_get, All, Some}
use Rattle.dd_concept.specs.Same.{is_within}
use Rattle.dd_graph.specs.View.{GraphView, concepts_in}
use Rattle.dd_peer.specs.declared.version.Pinned.{Pinned}
use Rattle.dd_peer.specs.declared.version.PeerVersion.{PeerVersion}
use Rattle.dd_task.specs.Claims.{Claim, claim_of}
use Rattle.dd_task.specs.declared.line.Line.{Line}
use Rattle.dd_task.specs.declared.line.Prop.{Prop}
use Rattle.dd_task.specs.declared.line.Why.{Why}
use Rattle.dd_task.specs.Goals.{claims_of_view}
use Rattle.dd_task.specs.Lines.{AreRightAfter, gives_reason}
use Rattle.dd_task.specs.Rules.{all_onto}
use Rattle.dd_task.specs.Verdicts.{cites_view, cuts_target}

-- what the line with these words claims
abbrev pub claim_at : GraphView → ℕ → List ℕ → Claim
claim_at v peer words = record { peer = peer; label = concepts_in v words }

-- the claims before the line with this number: those of the view, and of the lines before it
abbrev pub claims_before : Pinned → ℕ → List Prop → GraphView → List (List ℕ) → ℕ → List Claim
claims_before p peer view v labels k = claims_of_view p peer view ++ map (claim_at v peer) (take k labels)

-- the reason is right for the line with this number and this label
pub record IsWhy (p : Pinned) (peer : ℕ) (view : List Prop) (version : PeerVersion) (v : GraphView) (labels : List (List ℕ)) (k : ℕ) (l : List ℕ) (w : Why) : Type 0 where
  pub right : gives_reason p (claims_before p peer view v labels k) peer version (concepts_in v l) w ≡ true
  pub cuts : cuts_target (all_onto p peer) w ≡ true
  pub bridges : cites_view view w ≡ true

-- the first lines are written down
pub record AreWritten (p : Pinned) (peer : ℕ) (view : List Prop) (v : GraphView) (labels : List (List ℕ)) (k : ℕ) (lines : List Line) : Type 0 where
  pub claims : map claim_of lines ≡ map (claim_at v peer) (take k labels)
  pub right : AreRightAfter p (claims_of_view p peer view) lines
  pub own : All (λ (line : Line). line.peer ≡ peer) lines
  pub inside : All (λ (line : Line). is_within line.label v.closure.concepts ≡ true) lines
  pub cuts : All (λ (line : Line). cuts_target (all_onto p peer) line.why ≡ true) lines
  pub bridges : All (λ (line : Line). cites_view view line.why ≡ true) lines

-- the version is that of the peer
pub record IsVersionOf (p : Pinned) (peer : ℕ) (version : PeerVersion) : Type 0 where
  pub is_it : slice_get p.peers peer ≡ Some version

-- the line is that of the peer with this number
pub record IsLineOf (p : Pinned) (peer : ℕ) (view : List Prop) (version : PeerVersion) (v : GraphView) (labels : List (List ℕ)) (k : ℕ) (line : Line) : Type 0 where
  pub words : List ℕ
  pub there : slice_get labels k ≡ Some words
  pub own : line.peer ≡ peer
  pub label : line.label ≡ concepts_in v words
  pub why_is : IsWhy p peer view version v labels k words line.why
