use Rattle.std.proofs.Common.{refl, length}
use Rattle.std.proofs.lemmas.Option.{slice_get_read}
use Rattle.dd_board.proofs.Boarding.{found-low, found-next, drawn, set-same, set-kept}
use Rattle.dd_board.proofs.board.take_at.Goals as goal

pub take_next-requires-clause-kept : goal.take_next-requires-clause-kept
take_next-requires-clause-kept c = c.requires.kept c.args.n c.index_mut.result.now
    (slice_get_read c.args.sessions.now.items (length c.args.sessions.now.items) c.args.n c.index_mut.result.now refl (found-low c.args.sessions.now.items c.args.n c.args.t c.requires.found) c.index_mut.ensures.value)

pub take_next-requires-clause-going : goal.take_next-requires-clause-going
take_next-requires-clause-going c = (found-next c.args.sessions.now.items c.args.n c.args.t c.requires.found c.index_mut.result.now
    (slice_get_read c.args.sessions.now.items (length c.args.sessions.now.items) c.args.n c.index_mut.result.now refl (found-low c.args.sessions.now.items c.args.n c.args.t c.requires.found) c.index_mut.ensures.value)).0

pub take_next-requires-clause-next : goal.take_next-requires-clause-next
take_next-requires-clause-next c = (found-next c.args.sessions.now.items c.args.n c.args.t c.requires.found c.index_mut.result.now
    (slice_get_read c.args.sessions.now.items (length c.args.sessions.now.items) c.args.n c.index_mut.result.now refl (found-low c.args.sessions.now.items c.args.n c.args.t c.requires.found) c.index_mut.ensures.value)).1

pub returns-in-Ok-clause-drawn : goal.returns-in-Ok-clause-drawn
returns-in-Ok-clause-drawn c = drawn c.args.sessions.now.items c.args.n c.args.t c.requires.found c.index_mut.result.now
    (slice_get_read c.args.sessions.now.items (length c.args.sessions.now.items) c.args.n c.index_mut.result.now refl (found-low c.args.sessions.now.items c.args.n c.args.t c.requires.found) c.index_mut.ensures.value)
    c.take_next.new.s c.args.worker c.in-Ok.ticket c.in-Ok.ensures.taken

pub returns-in-Ok-clause-kept : goal.returns-in-Ok-clause-kept
returns-in-Ok-clause-kept c = set-kept c.args.sessions.now.items c.args.n c.take_next.new.s c.requires.kept c.take_next.ensures.kept

pub returns-in-Err-clause-same : goal.returns-in-Err-clause-same
returns-in-Err-clause-same c = set-same c.args.sessions.now.items c.args.n c.index_mut.result.now c.take_next.new.s
    (slice_get_read c.args.sessions.now.items (length c.args.sessions.now.items) c.args.n c.index_mut.result.now refl (found-low c.args.sessions.now.items c.args.n c.args.t c.requires.found) c.index_mut.ensures.value)
    c.in-Err.ensures.same

pub returns-in-Err-clause-kept : goal.returns-in-Err-clause-kept
returns-in-Err-clause-kept c = set-kept c.args.sessions.now.items c.args.n c.take_next.new.s c.requires.kept c.take_next.ensures.kept
