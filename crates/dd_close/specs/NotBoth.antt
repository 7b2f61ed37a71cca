-- Lines that show that no element has a label, and models with such an element.
use Rattle.std.specs.Prelude.{ℕ, ◌≢◌, ◌<◌, List, All}
use Rattle.dd_concept.specs.declared.concept.Concept.{Concept}
use Rattle.dd_interp.specs.declared.interp.Interp.{Interp}
use Rattle.dd_interp.specs.Labels.{HasLabel}
use Rattle.dd_interp.specs.Satisfies.{IsShaped, SatisfiesAxioms}
use Rattle.dd_peer.specs.declared.version.Pinned.{Pinned}
use Rattle.dd_task.specs.declared.line.Line.{Line}
use Rattle.dd_task.specs.declared.line.Prop.{Prop}
use Rattle.dd_task.specs.Rules.{axioms_of}
use Rattle.dd_task.specs.Targets.{SatisfiesProp}
use Rattle.dd_task.specs.Verdicts.{IsRightClosedBy}

-- a model of the peer's axioms and of the propagations, in which the element x has the label
pub record IsModelWith (p : Pinned) (peer : ℕ) (view : List Prop) (m : Interp) (x : ℕ) (label : List Concept) : Type 0 where
  pub shaped : IsShaped m
  pub axioms : SatisfiesAxioms m (axioms_of p peer)
  pub props : All (SatisfiesProp p peer m) view
  pub element : x < m.size
  pub has_it : HasLabel m x label

-- For one label and one list of propagations, all from other peers, there are not both: the lines of a right Closed verdict,
-- and a model with an element that has the label.
abbrev pub NotBoth : Type 0
NotBoth = (p : Pinned) (peer : ℕ) (view : List Prop) (closure label : List Concept) (lines : List Line) (m : Interp) (x : ℕ)
    → All (λ (t : Prop). t.from ≢ peer) view → IsRightClosedBy p peer view closure label lines → IsModelWith p peer view m x label → ⊥
