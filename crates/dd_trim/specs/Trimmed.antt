-- Derivations without the lines that they do not need.
use Rattle.std.specs.Prelude.{◌≡◌, ℕ, ◌+◌, ◌<◌, true, List, length, slice_get, Some}
use Rattle.dd_peer.specs.declared.version.Pinned.{Pinned}
use Rattle.dd_peer.specs.declared.version.Query.{Query}
use Rattle.dd_task.specs.Derives.{Derives}
use Rattle.dd_task.specs.Keys.{is_among}
use Rattle.dd_task.specs.declared.line.Line.{Line}
use Rattle.dd_trim.specs.Cited.{cited_by, renumbered}

-- what the first lines derive, under any versions, the second ones derive as well
abbrev pub DeriveAlike : List Line → List Line → Type 0
DeriveAlike old new = (p : Pinned) (q : Query) → Derives p q old → Derives p q new

-- each of the second lines is one of the first, but for the numbers of the lines that it cites
abbrev pub AreFrom : List Line → List Line → Type 0
AreFrom old new = (n : ℕ) (line : Line) → slice_get new n ≡ Some line
    → (m : ℕ) × (source : Line) × (slice_get old m ≡ Some source) × (f : ℕ → ℕ) × (line ≡ renumbered f source)

-- each line but the last is cited by a later one, so the last one needs them all
abbrev pub AreNeeded : List Line → Type 0
AreNeeded lines = (n : ℕ) → n + 1 < length lines
    → (m : ℕ) × (line : Line) × (n < m) × (slice_get lines m ≡ Some line) × (is_among (cited_by line.why) n ≡ true)
