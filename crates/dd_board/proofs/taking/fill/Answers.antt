use Rattle.std.proofs.Common.{◌∙◌, ap, sym, arith}
use Rattle.dd_task.specs.declared.job.Job.{Job}
use Rattle.dd_task.specs.Goals.{goal_for}
use Rattle.dd_board.specs.Sessions.{session_view}
use Rattle.dd_board.proofs.Fitting.{fit-ticket}
use Rattle.dd_board.proofs.taking.fill.Goals as goal

pub invariant_of-result : goal.invariant_of-result
invariant_of-result c = (
  c.requires.goal ∙ ap (λ (j : Job). goal_for j c.args.key) (sym c.in_ok-share.ensures),
  (
    omega (arith, c.if-len.false, c.len.ensures),
    (
      fit-ticket (session_view c.args.s.now) c.requires.kept.legal c.args.t c.requires.slot.task c.in_ok-share.field-0 c.args.key c.args.view c.requires.slot.at c.requires.slot.same
          c.in_ok-share.ensures c.requires.view,
      tt,
    ),
  ),
)
