use Rattle.std.proofs.Common.{sym, subst, map, List}
use Rattle.dd_board.specs.declared.session.Session.{Session}
use Rattle.dd_board.specs.declared.standing.Found.TheVariants as found
use Rattle.dd_board.specs.Sessions.{AreKept, session_view}
use Rattle.dd_board.specs.Stands.{IsFound}
use Rattle.dd_board.proofs.board.Board.take.Goals as goal

pub find-requires-clause-kept : goal.find-requires-clause-kept
find-requires-clause-kept c = subst AreKept (sym c.as_slice.ensures.value) c.self.inside.kept

pub take_at-requires-clause-found : goal.take_at-requires-clause-found
take_at-requires-clause-found c = subst (λ (xs : List Session). IsFound (map session_view xs) (found.Due c.in-Due.n c.in-Due.t)) c.as_slice.ensures.value c.in-Due.ensures
