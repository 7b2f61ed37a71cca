use Rattle.std.proofs.Common.{◌∙◌, ap, ap₂, refl, arith, map, List, None, ◌-◌}
use Rattle.dd_board.specs.declared.event.Event.{Event}
use Rattle.dd_board.specs.View.{Task}
use Rattle.dd_board.specs.Sessions.{session_view, task_of, with_holder}
use Rattle.dd_board.specs.Steps.{given_back}
use Rattle.dd_board.proofs.Slots.{map-changed}
use Rattle.dd_board.proofs.Backs.{some-held, low-task, has-room, give-kept}
use Rattle.dd_board.proofs.giving.give.Goals as goal

pub set_holder-requires : goal.set_holder-requires
set_holder-requires c = low-task c.args.s.now c.requires.kept c.args.task c.args.number c.requires.held

pub overflow_sub-s : goal.overflow_sub-s
overflow_sub-s c = some-held c.args.s.now c.requires.kept c.args.task c.args.number c.requires.held

pub note-requires : goal.note-requires
note-requires c = has-room c.args.s.now c.requires.kept c.args.task c.args.number c.requires.held

pub returns-clause-after : goal.returns-clause-after
returns-clause-after c = ap₂ (λ (ts : List Task) (j : List Event). record (session_view c.args.s.now) { tasks = ts; journal = j })
    (ap (map task_of) c.set_holder.ensures ∙ map-changed task_of (with_holder None) given_back (λ x. refl) c.args.s.now.tasks c.args.task)
    c.note.ensures.items

pub returns-clause-kept : goal.returns-clause-kept
returns-clause-kept c = give-kept c.args.s.now c.requires.kept c.args.task c.args.number c.requires.held (record c.args.s.now {
  tasks = c.set_holder.new.tasks;
  journal = c.note.new.journal;
  held = c.args.s.now.held - 1;
}) refl refl refl refl c.set_holder.ensures c.note.ensures.items c.note.ensures.capacity
    (let some = some-held c.args.s.now c.requires.kept c.args.task c.args.number c.requires.held in omega (arith, some)) (returns-clause-after c) refl refl
