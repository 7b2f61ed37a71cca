use Rattle.std.proofs.Common.{◌∙◌, ◌<◌, ◌||◌, ap, sym, subst, All, length}
use Rattle.dd_graph.specs.View.{rules_at, view_of}
use Rattle.dd_set.specs.Words.{has}
use Rattle.dd_close.specs.Drafts.{is_number}
use Rattle.dd_close.specs.Parts.{ArePartsOf}
use Rattle.dd_close.proofs.Choices.{choice-reason, cites-there}
use Rattle.dd_close.proofs.choose.new_choice.Goals as goal

pub parts_of-requires-clause-there : goal.parts_of-requires-clause-there
parts_of-requires-clause-there c = subst (All (λ m. m < length c.args.book.now.table.list)) (sym c.as_slice.ensures)
    (cites-there (rules_at (view_of c.args.g.now)) c.args.book.now.table.list (has c.args.set.now.words) c.args.step c.args.cites c.requires.many c.requires.cited)

pub note-requires-clause-reason : goal.note-requires-clause-reason
note-requires-clause-reason c = choice-reason (rules_at (view_of c.args.g.now)) c.args.book.now.table.list (has c.args.set.now.words) (has c.in_ok-label.label.words)
    (has c.add_premise.new.label.words) c.args.step c.args.cites c.requires.posed
    (subst (λ ns. ArePartsOf c.args.book.now.table.list ns (has c.args.set.now.words) (has c.in_ok-label.label.words)) c.as_slice.ensures c.in_ok-label.ensures.parts)
    (λ k. c.add_premise.ensures.with k ∙ ap (λ o. is_number o k || has c.in_ok-label.label.words k) c.premise_of.ensures)
    c.requires.step c.requires.many c.requires.cited
