use Rattle.std.proofs.Common.{◌∙◌, sym}
use Rattle.dd_board.proofs.Slots.{item-at}
use Rattle.dd_board.proofs.Releasing.{give-free, give-out, held-so}
use Rattle.dd_board.proofs.giving.give_if_held.Goals as goal

pub give-requires-clause-held : goal.give-requires-clause-held
give-requires-clause-held c = let slot = item-at c.args.s.now.tasks c.args.t c.requires.low in
    held-so c.args.s.now c.args.t slot.0 slot.1 c.in-Some.h (sym (c.holder_at.ensures slot.0 slot.1) ∙ c.in-Some.is)

pub returns-in-Some-clause-given : goal.returns-in-Some-clause-given
returns-in-Some-clause-given c = let slot = item-at c.args.s.now.tasks c.args.t c.requires.low in
    c.give.ensures.after ∙ give-out c.args.s.now c.args.t slot.0 slot.1 c.in-Some.h (sym (c.holder_at.ensures slot.0 slot.1) ∙ c.in-Some.is)

pub returns-in_default-clause-given : goal.returns-in_default-clause-given
returns-in_default-clause-given c = let slot = item-at c.args.s.now.tasks c.args.t c.requires.low in
    give-free c.args.s.now c.args.t slot.0 slot.1 (sym (c.holder_at.ensures slot.0 slot.1) ∙ c.in_default.is)
