use Rattle.std.proofs.Common.{◌<◌, subst, sym}
use Rattle.dd_work.specs.Settled.{HasNothingHeld}
use Rattle.dd_work.specs.Turns.{left}
use Rattle.dd_work.proofs.Extending.{extend-both, extend-same, still-fit}
use Rattle.dd_work.proofs.Taking.{drawn-by, settled-by, take-extends, take-left, take-out}
use Rattle.dd_work.proofs.settle.turn.Goals as goal

pub returns-in_err-ticket-clause-extends : goal.returns-in_err-ticket-clause-extends
returns-in_err-ticket-clause-extends c = extend-same c.args.board.now c.take.new.self c.in_err-ticket.ensures.kept

pub returns-in_err-ticket-clause-free : goal.returns-in_err-ticket-clause-free
returns-in_err-ticket-clause-free c = subst HasNothingHeld (sym c.in_err-ticket.ensures.kept) c.requires.free

pub answer-requires-clause-fit : goal.answer-requires-clause-fit
answer-requires-clause-fit c =
    still-fit c.args.board.now c.take.new.self (take-extends c.args.board.now c.take.new.self 0 c.in-Ticket.ticket (drawn-by c.args.board.now c.take.new.self 0 c.in_ok-ticket.field-0 c.in-Ticket.ticket c.in-Ticket.is c.in_ok-ticket.ensures.took)) c.requires.fit

pub answer-requires-clause-out : goal.answer-requires-clause-out
answer-requires-clause-out c =
    take-out c.args.board.now c.take.new.self 0 c.in-Ticket.ticket (drawn-by c.args.board.now c.take.new.self 0 c.in_ok-ticket.field-0 c.in-Ticket.ticket c.in-Ticket.is c.in_ok-ticket.ensures.took) c.goal-goal.ensures.asks c.requires.free

pub returns-in_err-answer-in-Ticket-clause-extends : goal.returns-in_err-answer-in-Ticket-clause-extends
returns-in_err-answer-in-Ticket-clause-extends c =
    extend-both c.args.board.now c.take.new.self c.answer.new.board (take-extends c.args.board.now c.take.new.self 0 c.in-Ticket.ticket (drawn-by c.args.board.now c.take.new.self 0 c.in_ok-ticket.field-0 c.in-Ticket.ticket c.in-Ticket.is c.in_ok-ticket.ensures.took))
    c.answer.ensures.extends

pub returns-in_ok-answer-in-Ticket-clause-extends : goal.returns-in_ok-answer-in-Ticket-clause-extends
returns-in_ok-answer-in-Ticket-clause-extends c =
    extend-both c.args.board.now c.take.new.self c.answer.new.board (take-extends c.args.board.now c.take.new.self 0 c.in-Ticket.ticket (drawn-by c.args.board.now c.take.new.self 0 c.in_ok-ticket.field-0 c.in-Ticket.ticket c.in-Ticket.is c.in_ok-ticket.ensures.took))
    c.answer.ensures.extends

pub returns-in_ok-answer-in-Ticket-clause-fewer : goal.returns-in_ok-answer-in-Ticket-clause-fewer
returns-in_ok-answer-in-Ticket-clause-fewer c _ =
    subst (λ n. left c.answer.new.board < n) (take-left c.args.board.now c.take.new.self 0 c.in-Ticket.ticket (drawn-by c.args.board.now c.take.new.self 0 c.in_ok-ticket.field-0 c.in-Ticket.ticket c.in-Ticket.is c.in_ok-ticket.ensures.took))
    c.in_ok-answer-in-Ticket.ensures.fewer

pub returns-in-Settled-clause-extends : goal.returns-in-Settled-clause-extends
returns-in-Settled-clause-extends c =
    extend-same c.args.board.now c.take.new.self
    (settled-by c.args.board.now c.take.new.self 0 c.in_ok-ticket.field-0 c.in-Settled.is c.in_ok-ticket.ensures.took).0
