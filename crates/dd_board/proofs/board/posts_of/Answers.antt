use Rattle.std.proofs.Common.{◌+◌, refl, arith, length}
use Rattle.std.proofs.lemmas.Option.{slice_get_read}
use Rattle.dd_board.proofs.Boarding.{posts-next, posts-fit}
use Rattle.dd_board.proofs.board.posts_of.Goals as goal

pub loop-s-preserved : goal.loop-s-preserved
loop-s-preserved c = posts-next c.args.sessions.now c.loop-s.s-index c.loop-s.posts c.s-item.result c.requires.kept
    (slice_get_read c.args.sessions.now (length c.args.sessions.now) c.loop-s.s-index c.s-item.result refl (omega (arith, c.loop-s-test.true, c.loop-s.auto)) c.s-item.is) c.loop-s.invariant

pub overflow_add-posts : goal.overflow_add-posts
overflow_add-posts c =
    let next = posts-next c.args.sessions.now c.loop-s.s-index c.loop-s.posts c.s-item.result c.requires.kept
    (slice_get_read c.args.sessions.now (length c.args.sessions.now) c.loop-s.s-index c.s-item.result refl (omega (arith, c.loop-s-test.true, c.loop-s.auto)) c.s-item.is) c.loop-s.invariant in
    let fits = posts-fit c.args.sessions.now (c.loop-s.s-index + 1) (c.loop-s.posts + c.s-item.result.posts) c.requires.kept c.requires.few next in
    omega (arith, fits)
