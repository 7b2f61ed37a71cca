use Rattle.std.proofs.Common.{◌<◌, ap, sym, subst, arith, length, vec_capacity}
use Rattle.dd_task.specs.Demands.{raised_by}
use Rattle.dd_board.specs.declared.session.Session.{Session}
use Rattle.dd_board.specs.declared.event.Event.TheVariants as event
use Rattle.dd_board.specs.declared.event.TaskState.TheVariants as state
use Rattle.dd_board.specs.Settling.{IsPosted}
use Rattle.dd_board.proofs.Backs.{some-held, has-room}
use Rattle.dd_board.proofs.Settled.{open-kept, open-after, out-later}
use Rattle.dd_board.proofs.posting.post_open.Goals as goal

pub settle-requires-clause-out : goal.settle-requires-clause-out
settle-requires-clause-out c = out-later c.args.s.now c.raised_by_model.new.s c.args.task c.args.number (raised_by c.args.s.now.job.pinned c.args.peer c.args.model) c.requires.may.by
    (ap (λ (x : Session). x.tasks) c.in-Ok.ensures.tasks)

pub settle-requires-clause-held : goal.settle-requires-clause-held
settle-requires-clause-held c = let some = some-held c.args.s.now c.requires.kept c.args.task c.args.number c.requires.may.by in let same = ap (λ (x : Session). x.held) c.in-Ok.ensures.tasks in omega (arith, some, same)

pub settle-requires-clause-room : goal.settle-requires-clause-room
settle-requires-clause-room c = subst (λ (x : Session). length x.journal.items < vec_capacity x.journal) (sym c.in-Ok.ensures.tasks)
    (has-room c.args.s.now c.requires.kept c.args.task c.args.number c.requires.may.by)

pub returns-clause-after : goal.returns-clause-after
returns-clause-after c = open-after c.args.s.now c.settle.new.s c.args.task c.args.number c.args.seen c.args.peer c.args.model c.args.at c.len-event.result c.in-Ok.raised c.requires.may.by
    (c.requires.seen c.requires.may.by) (c.requires.peer c.requires.may.by) (let same = ap (λ (x : Session). length x.journal.items) c.in-Ok.ensures.tasks in omega (arith, c.len-event.ensures, same)) c.in-Ok.ensures.raised
    (subst (λ (x : Session). IsPosted x c.settle.new.s c.args.task (state.Open c.len-event.result c.in-Ok.raised c.args.seen) (event.Opened c.args.task c.args.number c.args.model c.args.at)) c.in-Ok.ensures.tasks c.settle.ensures)

pub returns-clause-kept : goal.returns-clause-kept
returns-clause-kept c = open-kept c.args.s.now c.raised_by_model.new.s c.settle.new.s c.args.task c.args.number c.args.seen c.len-event.result c.args.at c.args.model c.in-Ok.raised
    (raised_by c.args.s.now.job.pinned c.args.peer c.args.model) c.requires.kept c.settle.ensures c.in-Ok.ensures.tasks c.in-Ok.ensures.few c.requires.may (returns-clause-after c)
