-- Lines that derive a query.
use Rattle.std.specs.Prelude.{ℕ, ◌≡◌, ◌-◌, true, List, length, slice_get, Some}
use Rattle.dd_concept.specs.declared.concept.Concept.{Concept}
use Rattle.dd_concept.specs.Same.{is_within}
use Rattle.dd_peer.specs.declared.version.Pinned.{Pinned}
use Rattle.dd_peer.specs.declared.version.Query.{Query}
use Rattle.dd_task.specs.declared.line.Line.{Line}
use Rattle.dd_task.specs.Goals.{root_label}
use Rattle.dd_task.specs.Lines.{AreRight}

-- the last line, which is there, is of this peer, and its label is within this one
pub record EndsWithin (peer : ℕ) (label : List Concept) (lines : List Line) : Type 0 where
  pub line : Line
  pub is_last : slice_get lines (length lines - 1) ≡ Some line
  pub at_peer : line.peer ≡ peer
  pub within : is_within line.label label ≡ true

-- all lines are right, and the last says that no element of the query's peer has the left concept and lacks the right one
pub record Derives (p : Pinned) (q : Query) (lines : List Line) : Type 0 where
  pub right : AreRight p lines
  pub last : EndsWithin q.peer (root_label q) lines
