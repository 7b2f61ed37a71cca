use Rattle.std.proofs.Common.{refl, arith, length}
use Rattle.std.proofs.lemmas.Option.{slice_get_read}
use Rattle.dd_board.proofs.Boarding.{taken-low, set-kept}
use Rattle.dd_board.proofs.Postings.{spent-may, spent-event}
use Rattle.dd_board.proofs.board.spent_at.Goals as goal

pub post_spent-requires-clause-kept : goal.post_spent-requires-clause-kept
post_spent-requires-clause-kept c = c.requires.kept c.session.result c.index_mut.result.now
    (slice_get_read c.args.sessions.now.items (length c.args.sessions.now.items) c.session.result c.index_mut.result.now refl
    (let low = taken-low c.args.sessions.now.items c.args.t.now c.requires.taken in omega (arith, low, c.session.ensures)) c.index_mut.ensures.value)

pub post_spent-requires-clause-may : goal.post_spent-requires-clause-may
post_spent-requires-clause-may c = spent-may c.args.sessions.now.items c.args.t.now c.goal-asks.ensures.asks c.requires.taken c.requires.going c.session.result c.task.result c.number.result c.session.ensures c.task.ensures c.number.ensures c.index_mut.result.now
    (slice_get_read c.args.sessions.now.items (length c.args.sessions.now.items) c.session.result c.index_mut.result.now refl
    (let low = taken-low c.args.sessions.now.items c.args.t.now c.requires.taken in omega (arith, low, c.session.ensures)) c.index_mut.ensures.value) c.args.run c.requires.right

pub returns-clause-event : goal.returns-clause-event
returns-clause-event c = spent-event c.args.sessions.now.items c.args.t.now c.goal-asks.ensures.asks c.requires.taken c.requires.going c.session.result c.task.result c.number.result c.session.ensures c.task.ensures c.number.ensures c.index_mut.result.now
    (slice_get_read c.args.sessions.now.items (length c.args.sessions.now.items) c.session.result c.index_mut.result.now refl
    (let low = taken-low c.args.sessions.now.items c.args.t.now c.requires.taken in omega (arith, low, c.session.ensures)) c.index_mut.ensures.value) c.post_spent.new.s c.args.run c.requires.right c.post_spent.ensures.after

pub returns-clause-kept : goal.returns-clause-kept
returns-clause-kept c = set-kept c.args.sessions.now.items c.session.result c.post_spent.new.s c.requires.kept c.post_spent.ensures.kept
