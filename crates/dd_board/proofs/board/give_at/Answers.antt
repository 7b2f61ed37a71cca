use Rattle.std.proofs.Common.{refl, arith, length}
use Rattle.std.proofs.lemmas.Option.{slice_get_read}
use Rattle.dd_board.proofs.Boarding.{taken-low, taken-held, given-event, set-kept}
use Rattle.dd_board.proofs.board.give_at.Goals as goal

pub give-requires-clause-kept : goal.give-requires-clause-kept
give-requires-clause-kept c = c.requires.kept c.session.result c.index_mut.result.now
    (slice_get_read c.args.sessions.now.items (length c.args.sessions.now.items) c.session.result c.index_mut.result.now refl
    (let low = taken-low c.args.sessions.now.items c.args.t.now c.requires.taken in omega (arith, low, c.session.ensures)) c.index_mut.ensures.value)

pub give-requires-clause-held : goal.give-requires-clause-held
give-requires-clause-held c = taken-held c.args.sessions.now.items c.args.t.now c.requires.taken c.session.result c.task.result c.number.result c.session.ensures c.task.ensures c.number.ensures
    c.index_mut.result.now
    (slice_get_read c.args.sessions.now.items (length c.args.sessions.now.items) c.session.result c.index_mut.result.now refl
    (let low = taken-low c.args.sessions.now.items c.args.t.now c.requires.taken in omega (arith, low, c.session.ensures)) c.index_mut.ensures.value)

pub returns-clause-given : goal.returns-clause-given
returns-clause-given c = given-event c.args.sessions.now.items c.args.t.now c.requires.taken c.session.result c.task.result c.number.result c.session.ensures c.task.ensures c.number.ensures
    c.index_mut.result.now
    (slice_get_read c.args.sessions.now.items (length c.args.sessions.now.items) c.session.result c.index_mut.result.now refl
    (let low = taken-low c.args.sessions.now.items c.args.t.now c.requires.taken in omega (arith, low, c.session.ensures)) c.index_mut.ensures.value)
    c.give.new.s c.give.ensures.after

pub returns-clause-kept : goal.returns-clause-kept
returns-clause-kept c = set-kept c.args.sessions.now.items c.session.result c.give.new.s c.requires.kept c.give.ensures.kept
