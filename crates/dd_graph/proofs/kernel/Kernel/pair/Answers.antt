use Rattle.std.proofs.Common.{◌≡◌, ◌∙◌, ap, sym, not, false, true, Some}
use Rattle.dd_set.specs.Words.{Label, has}
use Rattle.dd_graph.proofs.Stepping.{done-clear, paired-goes, paired-less, full-goes, full-less}
use Rattle.dd_graph.proofs.kernel.Kernel.pair.Goals as goal

pub returns-in-None-clause-goes : goal.returns-in-None-clause-goes
returns-in-None-clause-goes c = full-goes c.args.self.now c.note_full.new.self c.args.id c.args.upto c.count-width.result c.requires.done c.requires.begun c.count-width.ensures c.note_full.ensures

pub returns-in-None-clause-less : goal.returns-in-None-clause-less
returns-in-None-clause-less c = full-less c.args.self.now c.note_full.new.self c.args.id c.args.upto c.count-width.result c.requires.done c.requires.begun c.count-width.ensures c.note_full.ensures

pub successor-requires-clause-clear : goal.successor-requires-clause-clear
successor-requires-clause-clear c = done-clear c.args.self.now c.args.id c.args.upto c.requires.done c.in-Ok.label.words (c.label.ensures.words ∙ ap (λ (x : Label). Some x.words) (sym c.in-Ok.ensures))

pub returns-in-Ok-note_pair-clause-goes : goal.returns-in-Ok-note_pair-clause-goes
returns-in-Ok-note_pair-clause-goes c = paired-goes c.args.self.now c.successor.new.self c.note_pair.new.self c.args.id c.args.upto c.requires.done c.in_ok-at-in-Some.ensures.puts c.in-Some.n c.in_ok-at-in-Some.at c.in-Some.ensures.some.0 c.in-Some.ensures.within c.in-Ok-note_pair.ensures.ok

pub returns-in-Ok-note_pair-clause-less : goal.returns-in-Ok-note_pair-clause-less
returns-in-Ok-note_pair-clause-less c = paired-less c.args.self.now c.successor.new.self c.note_pair.new.self c.args.id c.args.upto c.requires.done c.in_ok-at-in-Some.ensures.puts c.in-Some.n c.in_ok-at-in-Some.at c.in-Some.ensures.some.0 c.in-Some.ensures.within c.in-Ok-note_pair.ensures.ok
