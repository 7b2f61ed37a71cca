use Rattle.std.proofs.Common.{refl, arith, length}
use Rattle.std.proofs.lemmas.Option.{slice_get_read}
use Rattle.dd_board.proofs.Boarding.{taken-low, set-same, set-kept}
use Rattle.dd_board.proofs.Postings.{closed-may, closed-key, closed-event}
use Rattle.dd_board.proofs.board.closed_at.Goals as goal

pub post_closed-requires-clause-kept : goal.post_closed-requires-clause-kept
post_closed-requires-clause-kept c = c.requires.kept c.session.result c.index_mut.result.now
    (slice_get_read c.args.sessions.now.items (length c.args.sessions.now.items) c.session.result c.index_mut.result.now refl
    (let low = taken-low c.args.sessions.now.items c.args.t.now c.requires.taken in omega (arith, low, c.session.ensures)) c.index_mut.ensures.value)

pub post_closed-requires-clause-key : goal.post_closed-requires-clause-key
post_closed-requires-clause-key c = closed-key c.args.sessions.now.items c.args.t.now c.goal-asks.ensures.asks c.requires.taken c.requires.going c.session.result c.task.result c.number.result c.session.ensures c.task.ensures c.number.ensures c.index_mut.result.now
    (slice_get_read c.args.sessions.now.items (length c.args.sessions.now.items) c.session.result c.index_mut.result.now refl
    (let low = taken-low c.args.sessions.now.items c.args.t.now c.requires.taken in omega (arith, low, c.session.ensures)) c.index_mut.ensures.value) c.key.result.now c.key.ensures

pub post_closed-requires-clause-may : goal.post_closed-requires-clause-may
post_closed-requires-clause-may c = closed-may c.args.sessions.now.items c.args.t.now c.goal-asks.ensures.asks c.requires.taken c.requires.going c.session.result c.task.result c.number.result c.session.ensures c.task.ensures c.number.ensures c.index_mut.result.now
    (slice_get_read c.args.sessions.now.items (length c.args.sessions.now.items) c.session.result c.index_mut.result.now refl
    (let low = taken-low c.args.sessions.now.items c.args.t.now c.requires.taken in omega (arith, low, c.session.ensures)) c.index_mut.ensures.value) c.view.result.now c.view.ensures.value c.args.own.now c.requires.right

pub returns-in-Ok-clause-event : goal.returns-in-Ok-clause-event
returns-in-Ok-clause-event c = closed-event c.args.sessions.now.items c.args.t.now c.goal-asks.ensures.asks c.requires.taken c.requires.going c.session.result c.task.result c.number.result c.session.ensures c.task.ensures c.number.ensures c.index_mut.result.now
    (slice_get_read c.args.sessions.now.items (length c.args.sessions.now.items) c.session.result c.index_mut.result.now refl
    (let low = taken-low c.args.sessions.now.items c.args.t.now c.requires.taken in omega (arith, low, c.session.ensures)) c.index_mut.ensures.value) c.post_closed.new.s c.view.result.now c.view.ensures.value c.args.own.now c.requires.right c.in-Ok.ensures.after

pub returns-in-Ok-clause-kept : goal.returns-in-Ok-clause-kept
returns-in-Ok-clause-kept c = set-kept c.args.sessions.now.items c.session.result c.post_closed.new.s c.requires.kept c.post_closed.ensures.kept

pub returns-in-Err-clause-same : goal.returns-in-Err-clause-same
returns-in-Err-clause-same c = set-same c.args.sessions.now.items c.session.result c.index_mut.result.now c.post_closed.new.s
    (slice_get_read c.args.sessions.now.items (length c.args.sessions.now.items) c.session.result c.index_mut.result.now refl
    (let low = taken-low c.args.sessions.now.items c.args.t.now c.requires.taken in omega (arith, low, c.session.ensures)) c.index_mut.ensures.value) c.in-Err.ensures.same

pub returns-in-Err-clause-kept : goal.returns-in-Err-clause-kept
returns-in-Err-clause-kept c = set-kept c.args.sessions.now.items c.session.result c.post_closed.new.s c.requires.kept c.post_closed.ensures.kept
