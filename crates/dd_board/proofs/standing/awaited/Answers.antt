use Rattle.std.proofs.Common.{◌∙◌, sym, ap, position}
use Rattle.dd_board.specs.Sessions.{may_be_taken, is_awaited}
use Rattle.dd_board.proofs.Sitting.{first-next, one-out, all-quiet}
use Rattle.dd_board.proofs.standing.awaited.Goals as goal

pub returns-in-Some : goal.returns-in-Some
returns-in-Some c = first-next c.args.s.now c.requires c.in-Some.t (sym (c.first_due.ensures ∙ ap (position may_be_taken) c.as_slice.ensures) ∙ c.in-Some.is)

pub returns-in-Some-first_out : goal.returns-in-Some-first_out
returns-in-Some-first_out c = one-out c.args.s.now c.requires (sym (c.first_due.ensures ∙ ap (position may_be_taken) c.as_slice.ensures) ∙ c.in_default.is)
    c.in-Some-first_out.t (sym (c.first_out.ensures ∙ ap (position is_awaited) c.as_slice-2.ensures) ∙ c.in-Some-first_out.is)

pub returns-in-None : goal.returns-in-None
returns-in-None c = all-quiet c.args.s.now c.requires (sym (c.first_due.ensures ∙ ap (position may_be_taken) c.as_slice.ensures) ∙ c.in_default.is)
    (sym (c.first_out.ensures ∙ ap (position is_awaited) c.as_slice-2.ensures) ∙ c.in-None.is)
