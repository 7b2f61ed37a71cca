use Rattle.dd_work.proofs.Posting.{give-extends, give-free}
use Rattle.dd_work.proofs.settle.give_back.Goals as goal

pub returns-clause-extends : goal.returns-clause-extends
returns-clause-extends c = give-extends c.args.board.now c.give_back.new.self c.args.ticket c.give_back.result c.give_back.ensures

pub returns-clause-free : goal.returns-clause-free
returns-clause-free c = give-free c.args.board.now c.give_back.new.self c.args.ticket c.give_back.result c.requires.out c.give_back.ensures
