-- Where lines fail to derive a query.
use Rattle.std.specs.Prelude.{ℕ, ◌≡◌, ◌<◌, ◌==◌, ◌&&◌, ◌⊎◌, Bool, true, false, List, length, map, take, slice_get, Option, None, Some, Result, Ok, Err}
use Rattle.dd_concept.specs.Same.{is_within}
use Rattle.dd_peer.specs.declared.version.Pinned.{Pinned}
use Rattle.dd_peer.specs.declared.version.Query.{Query}
use Rattle.dd_task.specs.Claims.{claim_of}
use Rattle.dd_task.specs.declared.line.Line.{Line}
use Rattle.dd_task.specs.Derives.{Derives, EndsWithin}
use Rattle.dd_task.specs.Goals.{root_label}
use Rattle.dd_task.specs.Lines.{is_there, is_right, AreRight}
use Rattle.dd_check.specs.declared.check.LineFault.{LineFault}

-- is the line with this number there, and right after those before it
abbrev pub is_right_at : Pinned → List Line → ℕ → Bool
is_right_at p lines k = is_there (slice_get lines k) (is_right p (map claim_of (take k lines)))

-- it is there and not right, and those before it are right
pub record IsFirstWrong (p : Pinned) (lines : List Line) (at : ℕ) : Type 0 where
  pub within : at < length lines
  pub wrong : is_right_at p lines at ≡ false
  pub before : (k : ℕ) → k < at → is_right_at p lines k ≡ true

-- all lines are right, but none is last, or the last does not say what the query asks; the number is that of the lines
pub record EndsElsewhere (p : Pinned) (q : Query) (lines : List Line) (at : ℕ) : Type 0 where
  pub at_end : at ≡ length lines
  pub right : AreRight p lines
  pub elsewhere : ¬ (EndsWithin q.peer (root_label q) lines)

-- the place at which the lines fail to derive the query
abbrev pub IsFault : Pinned → Query → List Line → ℕ → Type 0
IsFault p q lines at = IsFirstWrong p lines at ⊎ EndsElsewhere p q lines at

-- ---- what the parts of the check answer

abbrev pub FirstWrong : Pinned → List Line → Option ℕ → Type 0
FirstWrong p lines None = AreRight p lines
FirstWrong p lines (Some at) = IsFirstWrong p lines at

abbrev pub Judges : Pinned → Query → List Line → Result (Unit {0}) LineFault → Type 0
Judges p q lines (Ok u) = Derives p q lines
Judges p q lines (Err f) = IsFault p q lines f.at

-- is the line one of the query's peer, within what the query asks
abbrev pub says_root : Query → Line → Bool
says_root q line = (line.peer == q.peer) && is_within line.label (root_label q)
