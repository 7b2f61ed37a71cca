-- What giving all tickets back does.
use Rattle.std.specs.Prelude.{ℕ, List, [], fold, length, map, slice_get, option_and_then}
use Rattle.std.specs.List.{range_with_len}
use Rattle.std.specs.Option.{option_map_or}
use Rattle.dd_board.specs.declared.event.Event.TheVariants as event
use Rattle.dd_board.specs.View.{Holder, Task, SessionView}
use Rattle.dd_board.specs.Steps.{apply}

-- task t is given back, where it is held
abbrev pub give_held : SessionView → ℕ → SessionView
give_held s t = option_map_or (λ (h : Holder). apply s (event.Give t h.number) []) (option_and_then (λ (task : Task). task.holder) (slice_get s.tasks t)) s

-- each task that is held is given back, rising
abbrev pub released : SessionView → SessionView
released s = fold give_held s (range_with_len 0 (length s.tasks))

abbrev pub all_released : List SessionView → List SessionView
all_released board = map released board
