use Rattle.std.proofs.Common.{◌≡◌, ◌∙◌, ap, sym, Some, slice_get}
use Rattle.dd_set.specs.Words.{Label, has}
use Rattle.dd_graph.proofs.Unfinished.{unfinished, flagged-clear}
use Rattle.dd_graph.proofs.kernel.Kernel.expand.Goals as goal

pub choose-requires-clause-clear : goal.choose-requires-clause-clear
choose-requires-clause-clear c =
    let h = unfinished c.args.self.now c.args.id c.requires.unfinished in
    flagged-clear c.args.self.now c.args.id c.in-Ok.label.words h
    (sym (c.is_clear.ensures h.entry (ap (λ es. slice_get es c.args.id) c.deref-3.ensures.value ∙ h.here)) ∙ c.if-is_clear.true)
    (c.label.ensures.words ∙ ap (λ (x : Label). Some x.words) (sym c.in-Ok.ensures))
