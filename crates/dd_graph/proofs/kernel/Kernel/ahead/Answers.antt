use Rattle.std.proofs.Common.{◌≡◌, ◌∙◌, ap, sym, Some, slice_get}
use Rattle.dd_set.specs.Words.{Label}
use Rattle.dd_graph.proofs.Unfinished.{unfinished, flagged-clear, fresh-unfinished}
use Rattle.dd_graph.proofs.kernel.Kernel.ahead.Goals as goal

pub successor-requires-clause-clear : goal.successor-requires-clause-clear
successor-requires-clause-clear c =
    let h = unfinished c.args.self.now c.args.id c.requires.unfinished in
    flagged-clear c.args.self.now c.args.id c.in-Ok.label.words h
    (sym (c.is_clear.ensures h.entry (ap (λ es. slice_get es c.args.id) c.deref-else-not-is_fresh.ensures.value ∙ h.here)) ∙ c.if-not-is_clear.false)
    (c.label.ensures.words ∙ ap (λ (x : Label). Some x.words) (sym c.in-Ok.ensures))

pub returns-clause-unfinished : goal.returns-clause-unfinished
returns-clause-unfinished c =
    let h = unfinished c.args.self.now c.args.id c.requires.unfinished in
    let puts = c.in_ok-at.ensures.puts in
    fresh-unfinished c.successor.new.self c.args.id h.entry (puts.goes.marks c.args.id h.marked) (puts.entries c.args.id h.entry h.here) h.unsettled
    (c.is_fresh.ensures c.if-not-is_fresh.false h.entry (ap (λ es. slice_get es c.args.id) c.deref.ensures.value ∙ h.here))
