-- For private clauses alone: what is read of a session, and how the parts are put together.
use Rattle.std.specs.Borrow.{Bor}
use Rattle.std.specs.Prelude.{◌≡◌, ◌≢◌, ℕ, ◌+◌, ◌<◌, ◌==◌, ◌&&◌, Bool, false, if◌then◌else◌, List, [], ◌∷◌, flat_map, map, length, All, Option, None, Some, slice_get, bytes_eq, option_and_then}
use Rattle.std.specs.List.{range_with_len}
use Rattle.std.specs.Option.{option_map_or}
use Rattle.dd_concept.specs.declared.concept.Concept.{Concept}
use Rattle.dd_interp.specs.declared.interp.Interp.{Interp}
use Rattle.dd_interp.specs.Meaning.{meaning}
use Rattle.dd_interp.specs.Satisfies.{IsShaped}
use Rattle.dd_interp.specs.Union.{KeepsEach, union_of}
use Rattle.dd_peer.specs.declared.version.Pinned.{Pinned}
use Rattle.dd_task.specs.declared.job.Key.{Key}
use Rattle.dd_task.specs.declared.job.Key.TheVariants.{Root, Asked}
use Rattle.dd_task.specs.Goals.{peer_of}
use Rattle.dd_task.specs.Lines.{is_there}
use Rattle.dd_task.specs.Rules.{into_rules, onto_rules}
use Rattle.dd_task.specs.Tables.{elements_of, row_of, says, places_of}
use Rattle.dd_board.specs.declared.event.Event.{Event}
use Rattle.dd_board.specs.declared.event.Event.TheVariants as event
use Rattle.dd_board.specs.declared.event.TaskState.{TaskState}
use Rattle.dd_board.specs.declared.event.TaskState.TheVariants as state
use Rattle.dd_board.specs.View.{Task, SessionView}
use Rattle.dd_union.specs.declared.place.Place.{Place}
use Rattle.dd_union.specs.declared.rows.Rows.{Rows}
use Rattle.dd_union.specs.Union.{IsPart}

abbrev pub Link : Type 0
Link = ℕ × ℕ × ℕ × ℕ

-- ---- what a task was opened with

abbrev pub lent_opening : Bor Interp × ℕ → Interp × ℕ
lent_opening t = (t.0.now, t.1)

abbrev pub opened_by : Event → Option (Interp × ℕ)
opened_by (event.Take t w n s) = None
opened_by (event.Closed t n c) = None
opened_by (event.Opened t n m x) = Some (m, x)
opened_by (event.Spent t n run) = None
opened_by (event.Give t n) = None

abbrev pub opening_in : List Event → TaskState → Option (Interp × ℕ)
opening_in journal state.Unknown = None
opening_in journal (state.Open at raised seen) = option_and_then opened_by (slice_get journal at)
opening_in journal (state.Proved line) = None

abbrev pub raised_in : TaskState → List ℕ
raised_in state.Unknown = []
raised_in (state.Open at raised seen) = raised
raised_in (state.Proved line) = []

abbrev pub opening_at : SessionView → ℕ → Option (Interp × ℕ)
opening_at v t = option_and_then (λ (task : Task). opening_in v.journal task.state) (slice_get v.tasks t)

abbrev pub raised_at : SessionView → ℕ → List ℕ
raised_at v t = option_map_or (λ (task : Task). raised_in task.state) (slice_get v.tasks t) []

abbrev pub peer_at : SessionView → ℕ → ℕ
peer_at v t = option_map_or (λ (task : Task). peer_of v.job task.key) (slice_get v.tasks t) 0

-- the task is no part, or it is the part with this model and this element
abbrev pub IsNoPart : SessionView → ℕ → Type 0
IsNoPart v t = (i : ℕ) (m : Interp) (x : ℕ) → IsPart v t i m x → ⊥

abbrev pub IsPartBy : SessionView → ℕ → Option (Interp × ℕ) → Type 0
IsPartBy v t None = IsNoPart v t
IsPartBy v t (Some o) = IsPart v t (peer_at v t) o.0 o.1

-- ---- where parts stand

-- as many interpretations without elements
pub record AreEmpty (locals : List Interp) (count : ℕ) : Type 0 where
  pub many : length locals ≡ count
  pub each : (i : ℕ) (local : Interp) → slice_get locals i ≡ Some local → local ≡ record { size = 0; names = []; roles = [] }

-- the elements of the model were put behind those of peer i, from this number on
pub record IsPutBehind (old new : List Interp) (i : ℕ) (m : Interp) (start : ℕ) : Type 0 where
  pub local : Interp
  pub at : slice_get old i ≡ Some local
  pub starts : start ≡ local.size
  pub here : slice_get new i ≡ Some (union_of local m)
  pub others : (j : ℕ) → j ≢ i → slice_get new j ≡ slice_get old j
  pub count : length new ≡ length old
  pub kept : KeepsEach local m (union_of local m)
  pub shaped : All IsShaped new

abbrev pub PutsPart : SessionView → ℕ → List Interp → List Interp → Option Place → Type 0
PutsPart v t old new None = (new ≡ old) × IsNoPart v t
PutsPart v t old new (Some q) = (m : Interp) × (x : ℕ) × IsPart v t q.peer m x × (q.element ≡ q.start + x) × (q.size ≡ m.size) × IsPutBehind old new q.peer m q.start

-- the part stands at its place among its peer's elements
pub record IsPlacedIn (v : SessionView) (locals : List Interp) (t : ℕ) (q : Place) : Type 0 where
  pub m : Interp
  pub x : ℕ
  pub part : IsPart v t q.peer m x
  pub element : q.element ≡ q.start + x
  pub size : q.size ≡ m.size
  pub local : Interp
  pub at : slice_get locals q.peer ≡ Some local
  pub stands : (y : ℕ) → y < m.size → (q.start + y < local.size) × ((c : Concept) → meaning local c (q.start + y) ≡ meaning m c y)

-- the element b of peer i is one of a part that was placed
pub record IsCovered (v : SessionView) (places : List (Option Place)) (i b : ℕ) : Type 0 where
  pub t : ℕ
  pub place : Place
  pub at : slice_get places t ≡ Some (Some place)
  pub m : Interp
  pub x : ℕ
  pub part : IsPart v t i m x
  pub y : ℕ
  pub element : y < m.size
  pub is : b ≡ place.start + y

-- the parts among the first tasks are placed, and nothing else is
pub record ArePlaced (v : SessionView) (places : List (Option Place)) (locals : List Interp) : Type 0 where
  pub one_each : length locals ≡ length v.job.pinned.peers
  pub shaped : All IsShaped locals
  pub placed : (t : ℕ) (q : Place) → slice_get places t ≡ Some (Some q) → IsPlacedIn v locals t q
  pub missing : (t : ℕ) → slice_get places t ≡ Some None → IsNoPart v t
  pub covers : (i : ℕ) (local : Interp) (b : ℕ) → slice_get locals i ≡ Some local → b < local.size → IsCovered v places i b

-- ---- links

abbrev pub placed_at : List (Option Place) → ℕ → Option Place
placed_at places t = option_and_then (λ (o : Option Place). o) (slice_get places t)

-- the models of the tasks that have a place are interpretations
abbrev pub OpenShaped : SessionView → List (Option Place) → Type 0
OpenShaped v places = (t : ℕ) (q : Place) (o : Interp × ℕ) → placed_at places t ≡ Some q → opening_at v t ≡ Some o → IsShaped o.0

abbrev pub start_at : List (Option Place) → ℕ → ℕ
start_at places t = option_map_or (λ (q : Place). q.start) (placed_at places t) 0

-- what the rules from peer h say of each element of a model
abbrev pub rows_of : Pinned → ℕ → Interp → ℕ → Rows
rows_of p i m h = record {
  onto = map (row_of m) (onto_rules p h i);
  lacks = map (λ y. places_of false y (map (row_of m) (into_rules p h i))) (elements_of m);
}

-- does the element raise the key with this onto rule and this set
abbrev pub raises_by : Rows → ℕ → List ℕ → ℕ → Bool
raises_by rows o set y = is_there (slice_get rows.onto o) (says y) && is_there (slice_get rows.lacks y) (λ lacked. bytes_eq lacked set)

abbrev pub joined : Rows → Place → Place → ℕ → List ℕ → ℕ → List Link
joined rows from to o set y = if raises_by rows o set y then (from.peer, to.peer, from.element, to.start + y) ∷ [] else []

abbrev pub joined_by : Rows → ℕ → Place → Place → Key → List Link
joined_by rows h from to Root = []
joined_by rows h from to (Asked g i o set) =
    if (from.peer == h) && (i == to.peer) then flat_map (joined rows from to o set) (range_with_len 0 to.size) else []

abbrev pub key_joined : SessionView → Rows → ℕ → Place → ℕ → Place → List Link
key_joined v rows h to u from = option_map_or (λ (task : Task). joined_by rows h from to task.key) (slice_get v.tasks u) []

abbrev pub joined_with : SessionView → List (Option Place) → Rows → ℕ → Place → ℕ → List Link
joined_with v places rows h to u = option_map_or (key_joined v rows h to u) (placed_at places u) []

abbrev pub joined_from : SessionView → List (Option Place) → Place → Interp → List ℕ → ℕ → List Link
joined_from v places to m raised h = flat_map (joined_with v places (rows_of v.job.pinned to.peer m h) h to) raised

abbrev pub joined_part : SessionView → List (Option Place) → Place → Interp → List ℕ → List Link
joined_part v places to m raised = flat_map (joined_from v places to m raised) (range_with_len 0 (length v.job.pinned.peers))

abbrev pub joined_opening : SessionView → List (Option Place) → ℕ → Place → List Link
joined_opening v places t to = option_map_or (λ (o : Interp × ℕ). joined_part v places to o.0 (raised_at v t)) (opening_at v t) []

abbrev pub joined_at : SessionView → List (Option Place) → ℕ → List Link
joined_at v places t = option_map_or (joined_opening v places t) (placed_at places t) []

abbrev pub all_joined : SessionView → List (Option Place) → List Link
all_joined v places = flat_map (joined_at v places) (range_with_len 0 (length v.tasks))
