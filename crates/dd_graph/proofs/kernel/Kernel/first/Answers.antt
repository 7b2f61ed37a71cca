use Rattle.dd_graph.proofs.Stepping.{done-goes, done-less}
use Rattle.dd_graph.proofs.kernel.Kernel.first.Goals as goal

pub returns-in-None-clause-goes : goal.returns-in-None-clause-goes
returns-in-None-clause-goes c = done-goes c.args.self.now c.note_done.new.self c.args.id c.args.label.now.words c.requires.fresh c.requires.begun c.note_done.ensures

pub returns-in-None-clause-less : goal.returns-in-None-clause-less
returns-in-None-clause-less c = done-less c.args.self.now c.note_done.new.self c.args.id c.args.label.now.words c.requires.fresh c.requires.begun c.note_done.ensures
