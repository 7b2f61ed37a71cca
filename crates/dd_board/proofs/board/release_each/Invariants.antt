-- The first sessions were released.
use Rattle.std.proofs.Common.{◌≡◌, map, length}
use Rattle.dd_board.specs.Sessions.{session_view, AreKept}
use Rattle.dd_board.proofs.Releasing.{first_released}
use Rattle.dd_board.proofs.board.release_each.Given as goal

abbrev pub invariant-loop-n : goal.invariant-loop-n
invariant-loop-n l = record {
  view : map session_view l.sessions.items ≡ first_released l.n (map session_view l.initial.sessions.items);
  kept : AreKept l.sessions.items;
  few : length l.sessions.items ≡ length l.initial.sessions.items;
}
