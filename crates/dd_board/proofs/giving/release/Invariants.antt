-- The first tasks were given back.
use Rattle.std.proofs.Common.{◌≡◌}
use Rattle.dd_board.specs.Sessions.{session_view, IsKept}
use Rattle.dd_board.proofs.Releasing.{released_to}
use Rattle.dd_board.proofs.giving.release.Given as goal

abbrev pub invariant-loop-t : goal.invariant-loop-t
invariant-loop-t l = record {
  view : session_view l.s ≡ released_to l.t (session_view l.initial.s);
  kept : IsKept l.s;
}
