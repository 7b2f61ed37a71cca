-- What each event does to a session. Every event does something to every session; which are allowed is said elsewhere.
use Rattle.std.specs.Prelude.{ℕ, ◌+◌, ◌-◌, Bool, not, List, [], ◌∷◌, ◌++◌, map, filter, length, None, Some, slice_get}
use Rattle.std.specs.List.{list_any, position_or_len}
use Rattle.std.specs.Option.{option_map_or}
use Rattle.dd_concept.specs.declared.concept.Concept.{Concept}
use Rattle.dd_interp.specs.declared.interp.Interp.{Interp}
use Rattle.dd_peer.specs.declared.version.Pinned.{Pinned}
use Rattle.dd_task.specs.declared.job.Key.{Key}
use Rattle.dd_task.specs.declared.job.Key.TheVariants.{Root, Asked}
use Rattle.dd_task.specs.declared.line.Line.{Line}
use Rattle.dd_task.specs.declared.line.Prop.{Prop}
use Rattle.dd_task.specs.Keys.{is_same_key}
use Rattle.dd_task.specs.Goals.{peer_of, no_source_of}
use Rattle.dd_task.specs.Demands.{raised_by}
use Rattle.dd_concept.specs.Same.{has}
use Rattle.dd_board.specs.declared.event.Event.{Event}
use Rattle.dd_board.specs.declared.event.Event.TheVariants as event
use Rattle.dd_board.specs.declared.event.TaskState.TheVariants as state
use Rattle.dd_board.specs.View.{Holder, Task, SessionView, change_at}

-- a task that nobody holds and of which nothing is known
abbrev pub new_task : Key → Task
new_task key = record { key = key; holder = None; state = state.Unknown }

-- ---- what an event does to its task

abbrev pub taken : ℕ → ℕ → Task → Task
taken number seen task = record task { holder = Some (record { number = number; seen = seen }) }

abbrev pub given_back : Task → Task
given_back task = record task { holder = None }

abbrev pub proved_by : ℕ → Task → Task
proved_by line task = record task { holder = None; state = state.Proved line }

-- the model was made under the propagations that the take saw
abbrev pub opened_by : ℕ → List ℕ → Task → Task
opened_by at raised task =
    record task { holder = None; state = state.Open at raised (option_map_or (λ (h : Holder). h.seen) task.holder 0) }

-- ---- an open verdict: tasks for the raised keys that have none

abbrev pub has_key : List Task → Key → Bool
has_key tasks key = list_any (λ (task : Task). is_same_key task.key key) tasks

abbrev pub with_keys : List Task → List Key → List Task
with_keys tasks keys = tasks ++ map new_task (filter (λ key. not (has_key tasks key)) keys)

-- the number of the task with the key
abbrev pub number_of : List Task → Key → ℕ
number_of tasks key = position_or_len (λ (task : Task). is_same_key task.key key) tasks

-- the keys that a model for the task raises
abbrev pub keys_for : SessionView → Interp → Task → List Key
keys_for v m task = raised_by v.job.pinned (peer_of v.job task.key) m

abbrev pub raised_keys : SessionView → ℕ → Interp → List Key
raised_keys v t m = option_map_or (keys_for v m) (slice_get v.tasks t) []

-- ---- a closed verdict: a propagation for the proved key

-- the into rules of the set that the line needed: those whose complemented source is in its label
abbrev pub needed : Pinned → ℕ → ℕ → List Concept → List ℕ → List ℕ
needed p h i label set = filter (λ k. list_any (has label) (no_source_of p h i k)) set

abbrev pub with_prop : Pinned → List Concept → ℕ → List (List Prop) → Key → List (List Prop)
with_prop p label line props Root = props
with_prop p label line props (Asked h i o set) =
    change_at (λ list. list ++ record { from = h; onto = o; into_set = needed p h i label set; line = line } ∷ []) props i

-- the label of the last line
abbrev pub last_label : List Line → List Concept
last_label lines = option_map_or (λ (line : Line). line.label) (slice_get lines (length lines - 1)) []

abbrev pub props_after : SessionView → ℕ → List Line → List (List Prop)
props_after v t lines =
    option_map_or (λ (task : Task). with_prop v.job.pinned (last_label lines) (length v.lines + length lines - 1) v.props task.key)
    (slice_get v.tasks t) v.props

-- ---- the session after the event, where `lines` are the lines that a closed verdict brings
abbrev pub apply : SessionView → Event → List Line → SessionView
apply v (event.Take t worker number seen) lines = record v {
  tasks = change_at (taken number seen) v.tasks t;
  journal = v.journal ++ event.Take t worker number seen ∷ [];
  next = v.next + 1;
}
apply v (event.Closed t number count) lines = record v {
  tasks = change_at (proved_by (length v.lines + length lines - 1)) v.tasks t;
  lines = v.lines ++ lines;
  props = props_after v t lines;
  journal = v.journal ++ event.Closed t number count ∷ [];
}
apply v (event.Opened t number m x) lines = record v {
  tasks = change_at (opened_by (length v.journal) (map (number_of (with_keys v.tasks (raised_keys v t m))) (raised_keys v t m)))
      (with_keys v.tasks (raised_keys v t m)) t;
  journal = v.journal ++ event.Opened t number m x ∷ [];
}
apply v (event.Spent t number run) lines = record v {
  tasks = change_at given_back v.tasks t;
  journal = v.journal ++ event.Spent t number run ∷ [];
}
apply v (event.Give t number) lines = record v {
  tasks = change_at given_back v.tasks t;
  journal = v.journal ++ event.Give t number ∷ [];
}
