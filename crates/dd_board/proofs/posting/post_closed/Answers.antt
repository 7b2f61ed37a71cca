use Rattle.std.proofs.Common.{◌∙◌, ◌+◌, ◌-◌, ap, ap₂, sym, subst, refl, length, map, List}
use Rattle.dd_task.specs.declared.line.Line.{Line}
use Rattle.dd_task.specs.declared.line.Prop.{Prop}
use Rattle.dd_task.specs.declared.job.Job.{Job}
use Rattle.dd_board.specs.Steps.{last_label, with_prop}
use Rattle.dd_board.specs.Moved.{moved_line}
use Rattle.dd_board.specs.Sessions.{IsKept}
use Rattle.dd_board.proofs.Backs.{some-held, low-task, has-room, posts-low}
use Rattle.dd_board.proofs.Settled.{closed-kept, close-after, out-slot}
use Rattle.dd_board.proofs.posting.post_closed.Goals as goal

pub settle-requires-clause-low : goal.settle-requires-clause-low
settle-requires-clause-low c = low-task c.args.s.now c.requires.kept c.args.task c.args.number c.requires.may.by

pub settle-requires-clause-out : goal.settle-requires-clause-out
settle-requires-clause-out c = out-slot c.args.s.now c.args.task c.args.number c.requires.may.by

pub settle-requires-clause-held : goal.settle-requires-clause-held
settle-requires-clause-held c = some-held c.args.s.now c.requires.kept c.args.task c.args.number c.requires.may.by

pub settle-requires-clause-posts : goal.settle-requires-clause-posts
settle-requires-clause-posts c = posts-low c.args.s.now c.requires.kept

pub settle-requires-clause-room : goal.settle-requires-clause-room
settle-requires-clause-room c = has-room c.args.s.now c.requires.kept c.args.task c.args.number c.requires.may.by

pub returns-in_err-extend-clause-kept : goal.returns-in_err-extend-clause-kept
returns-in_err-extend-clause-kept c = subst IsKept (ap₂ (λ (ls : List Line) (ps : List (List Prop)). record c.args.s.now { lines = ls; props = ps }) (sym c.in_err-extend.ensures.same_lines) (sym c.in_err-extend.ensures.same_props)) c.requires.kept

pub returns-clause-after : goal.returns-clause-after
returns-clause-after c = close-after c.args.s.now c.settle.new.s c.args.task c.args.number c.last_number-line.result c.args.key.now c.args.view.now c.args.own.now c.extend.new.lines c.extend.new.props
    c.requires.key c.in_ok-extend.ensures.lines
    (c.in_ok-extend.ensures.props ∙ ap (λ (j : Job). with_prop j.pinned (last_label c.args.own.now) (length c.args.s.now.lines + length c.args.own.now - 1) c.args.s.now.props c.args.key.now) c.get.ensures)
    c.last_number-line.ensures c.settle.ensures

pub returns-clause-kept : goal.returns-clause-kept
returns-clause-kept c = closed-kept c.args.s.now (record c.args.s.now { lines = c.extend.new.lines; props = c.extend.new.props }) c.settle.new.s c.args.task c.args.number c.last_number-line.result
    (length c.args.own.now) c.args.own.now (map (moved_line c.args.view.now (length c.args.s.now.lines)) c.args.own.now) c.requires.kept c.settle.ensures refl refl refl refl refl refl c.in_ok-extend.ensures.few c.requires.may
    (returns-clause-after c)
