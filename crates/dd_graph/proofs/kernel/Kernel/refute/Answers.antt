use Rattle.std.proofs.Common.{[], ◌∷◌}
use Rattle.dd_graph.proofs.Stepping.{refuted-goes, refuted-less}
use Rattle.dd_graph.proofs.kernel.Kernel.refute.Goals as goal

pub returns-clause-goes : goal.returns-clause-goes
returns-clause-goes c =
    refuted-goes c.args.self.now c.note_refuted.new.self c.args.id c.args.label.now.words c.requires.fresh c.requires.begun ((c.args.n, c.args.at) ∷ []) c.args.self.now.closed c.note_refuted.ensures

pub returns-clause-less : goal.returns-clause-less
returns-clause-less c =
    refuted-less c.args.self.now c.note_refuted.new.self c.args.id c.args.label.now.words c.requires.fresh c.requires.begun ((c.args.n, c.args.at) ∷ []) c.args.self.now.closed c.note_refuted.ensures
