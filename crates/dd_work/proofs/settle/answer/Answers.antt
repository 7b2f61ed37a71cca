use Rattle.dd_work.proofs.Extending.{job-fit}
use Rattle.dd_work.proofs.settle.answer.Goals as goal

pub run-requires : goal.run-requires
run-requires c = job-fit c.args.board.now c.args.ticket c.requires.fit c.requires.out.taken
