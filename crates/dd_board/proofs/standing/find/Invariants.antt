-- No session so far has a task that may be taken.
use Rattle.std.proofs.Common.{map}
use Rattle.dd_board.specs.Sessions.{session_view}
use Rattle.dd_board.specs.Stands.{IsSearched}
use Rattle.dd_board.proofs.standing.find.Given as goal

abbrev pub invariant-loop-n : goal.invariant-loop-n
invariant-loop-n l = IsSearched (map session_view l.sessions) l.n l.busy
