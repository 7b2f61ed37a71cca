use Rattle.std.proofs.Common.{sym, subst}
use Rattle.dd_board.specs.Sessions.{AreKept}
use Rattle.dd_board.proofs.board.Board.posts.Goals as goal

pub posts_of-requires-clause-kept : goal.posts_of-requires-clause-kept
posts_of-requires-clause-kept c = subst AreKept (sym c.as_slice.ensures.value) c.self.inside.kept
