use Rattle.std.proofs.Common.{◌∙◌, sym, ap, arith}
use Rattle.dd_task.specs.declared.job.Job.{Job}
use Rattle.dd_board.specs.Sessions.{session_view}
use Rattle.dd_board.proofs.Sitting.{over-spent, going-on}
use Rattle.dd_board.proofs.standing.stand_of.Goals as goal

pub returns-then-s-get : goal.returns-then-s-get
returns-then-s-get c = over-spent (session_view c.args.s.now) c.in-Some.next (sym c.has_proved_root.ensures ∙ c.if-has_proved_root.false)
    (sym c.requires.spent ∙ c.if-s.false) c.in-Some.ensures
    (omega (arith, c.if-s-get.true, ap (λ (j : Job). j.budget.verdicts) c.get.ensures, c.requires.posts_counted))

pub returns : goal.returns
returns c = going-on (session_view c.args.s.now) c.in-Some.next (sym c.has_proved_root.ensures ∙ c.if-has_proved_root.false)
    (sym c.requires.spent ∙ c.if-s.false) c.in-Some.ensures
    (omega (arith, c.if-s-get.false, ap (λ (j : Job). j.budget.verdicts) c.get.ensures, c.requires.posts_counted))
