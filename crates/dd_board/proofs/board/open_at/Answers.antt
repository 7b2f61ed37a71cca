use Rattle.std.proofs.Common.{ap, refl, arith, length}
use Rattle.std.proofs.lemmas.Option.{slice_get_read}
use Rattle.dd_task.specs.declared.job.Goal.{Goal}
use Rattle.dd_board.proofs.Boarding.{taken-low, set-same, set-kept}
use Rattle.dd_board.proofs.Postings.{open-may, open-saw, open-peer, open-event}
use Rattle.dd_board.proofs.board.open_at.Goals as goal

pub post_open-requires-clause-kept : goal.post_open-requires-clause-kept
post_open-requires-clause-kept c = c.requires.kept c.session.result c.index_mut.result.now
    (slice_get_read c.args.sessions.now.items (length c.args.sessions.now.items) c.session.result c.index_mut.result.now refl
    (let low = taken-low c.args.sessions.now.items c.args.t.now c.requires.taken in omega (arith, low, c.session.ensures)) c.index_mut.ensures.value)

pub post_open-requires-clause-may : goal.post_open-requires-clause-may
post_open-requires-clause-may c = open-may c.args.sessions.now.items c.args.t.now c.goal.ensures.asks c.requires.taken c.requires.going c.session.result c.task.result c.number.result c.session.ensures c.task.ensures c.number.ensures c.index_mut.result.now
    (slice_get_read c.args.sessions.now.items (length c.args.sessions.now.items) c.session.result c.index_mut.result.now refl
    (let low = taken-low c.args.sessions.now.items c.args.t.now c.requires.taken in omega (arith, low, c.session.ensures)) c.index_mut.ensures.value) c.args.model c.args.at c.requires.right

pub post_open-requires-clause-seen : goal.post_open-requires-clause-seen
post_open-requires-clause-seen c = open-saw c.args.sessions.now.items c.args.t.now c.goal.ensures.asks c.requires.taken c.requires.going c.session.result c.task.result c.number.result c.session.ensures c.task.ensures c.number.ensures c.index_mut.result.now
    (slice_get_read c.args.sessions.now.items (length c.args.sessions.now.items) c.session.result c.index_mut.result.now refl
    (let low = taken-low c.args.sessions.now.items c.args.t.now c.requires.taken in omega (arith, low, c.session.ensures)) c.index_mut.ensures.value) (length c.view.result.now) (ap length c.view.ensures.value)

pub post_open-requires-clause-peer : goal.post_open-requires-clause-peer
post_open-requires-clause-peer c = open-peer c.args.sessions.now.items c.args.t.now c.goal.ensures.asks c.requires.taken c.requires.going c.session.result c.task.result c.number.result c.session.ensures c.task.ensures c.number.ensures c.index_mut.result.now
    (slice_get_read c.args.sessions.now.items (length c.args.sessions.now.items) c.session.result c.index_mut.result.now refl
    (let low = taken-low c.args.sessions.now.items c.args.t.now c.requires.taken in omega (arith, low, c.session.ensures)) c.index_mut.ensures.value) c.goal.result.now.peer (ap (λ (g : Goal). g.peer) c.goal.ensures.value)

pub returns-in-Ok-clause-event : goal.returns-in-Ok-clause-event
returns-in-Ok-clause-event c = open-event c.args.sessions.now.items c.args.t.now c.goal.ensures.asks c.requires.taken c.requires.going c.session.result c.task.result c.number.result c.session.ensures c.task.ensures c.number.ensures c.index_mut.result.now
    (slice_get_read c.args.sessions.now.items (length c.args.sessions.now.items) c.session.result c.index_mut.result.now refl
    (let low = taken-low c.args.sessions.now.items c.args.t.now c.requires.taken in omega (arith, low, c.session.ensures)) c.index_mut.ensures.value) c.post_open.new.s c.args.model c.args.at c.requires.right c.in-Ok.ensures.after

pub returns-in-Ok-clause-kept : goal.returns-in-Ok-clause-kept
returns-in-Ok-clause-kept c = set-kept c.args.sessions.now.items c.session.result c.post_open.new.s c.requires.kept c.post_open.ensures.kept

pub returns-in-Err-clause-same : goal.returns-in-Err-clause-same
returns-in-Err-clause-same c = set-same c.args.sessions.now.items c.session.result c.index_mut.result.now c.post_open.new.s
    (slice_get_read c.args.sessions.now.items (length c.args.sessions.now.items) c.session.result c.index_mut.result.now refl
    (let low = taken-low c.args.sessions.now.items c.args.t.now c.requires.taken in omega (arith, low, c.session.ensures)) c.index_mut.ensures.value) c.in-Err.ensures.same

pub returns-in-Err-clause-kept : goal.returns-in-Err-clause-kept
returns-in-Err-clause-kept c = set-kept c.args.sessions.now.items c.session.result c.post_open.new.s c.requires.kept c.post_open.ensures.kept

pub overflow_cast-seen : goal.overflow_cast-seen
overflow_cast-seen c = omega (arith, c.view.ensures.few, ap length c.view.ensures.value)

pub index_mut-requires : goal.index_mut-requires
index_mut-requires c = let low = taken-low c.args.sessions.now.items c.args.t.now c.requires.taken in omega (arith, low, c.session.ensures)
