use Rattle.std.proofs.Common.{◌∙◌, ◌+◌, ap, ap₂, refl, map, List, Some}
use Rattle.dd_board.specs.declared.event.Event.{Event}
use Rattle.dd_board.specs.View.{Task}
use Rattle.dd_board.specs.Steps.{taken}
use Rattle.dd_board.specs.Sessions.{session_view, task_of, with_holder}
use Rattle.dd_board.proofs.Slots.{map-changed}
use Rattle.dd_board.proofs.Drawing.{hold-kept}
use Rattle.dd_board.proofs.taking.hold.Goals as goal

pub returns-clause-after : goal.returns-clause-after
returns-clause-after c = ap₂ (λ (ts : List Task) (j : List Event). record (session_view c.args.s.now) { tasks = ts; journal = j; next = c.args.s.now.next + 1 })
    (ap (map task_of) c.set_holder.ensures ∙ map-changed task_of (with_holder (Some (record { number = c.args.s.now.next; seen = c.args.seen }))) (taken c.args.s.now.next c.args.seen) (λ x. refl) c.args.s.now.tasks c.args.t)
    c.note.ensures.items

pub returns-clause-kept : goal.returns-clause-kept
returns-clause-kept c = hold-kept c.args.s.now c.requires.kept c.args.t c.requires.next c.requires.room c.requires.going c.args.worker c.args.seen (c.requires.sees c.requires.next)
    (record { number = c.args.s.now.next; seen = c.args.seen }) (record c.args.s.now {
      tasks = c.set_holder.new.tasks;
      journal = c.note.new.journal;
      next = c.args.s.now.next + 1;
      held = c.args.s.now.held + 1;
    }) refl refl refl c.set_holder.ensures c.note.ensures.items c.note.ensures.capacity refl (returns-clause-after c) refl refl
