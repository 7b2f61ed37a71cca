use Rattle.std.proofs.Common.{◌∙◌, ap, refl, sym}
use Rattle.dd_graph.specs.View.{view_of}
use Rattle.dd_close.proofs.Books.{makes-found, makes-new}
use Rattle.dd_close.proofs.draft.note.Goals as goal

pub returns-in_ok-push : goal.returns-in_ok-push
returns-in_ok-push c = makes-new (view_of c.args._g.now) c.args.book.now (record { table = c.intern.new.self; reasons = c.push.new.self }) c.args.label.now.words c.in_ok-at.at
    c.requires.book (ap (λ t. t.width) c.in_ok-at.ensures.labels) (ap (λ t. t.list) c.in_ok-at.ensures.labels) c.in_ok-at.ensures.found c.args.reason
    (sym c.if-fresh.true ∙ c.in_ok-at.ensures.fresh) c.in_ok-push.ensures.items c.requires.reason

pub returns-else-fresh : goal.returns-else-fresh
returns-else-fresh c = makes-found (view_of c.args._g.now) c.args.book.now (record { table = c.intern.new.self; reasons = c.args.book.now.reasons }) c.args.label.now.words c.in_ok-at.at
    c.requires.book (ap (λ t. t.width) c.in_ok-at.ensures.labels) (ap (λ t. t.list) c.in_ok-at.ensures.labels) c.in_ok-at.ensures.found
    (sym c.if-fresh.false ∙ c.in_ok-at.ensures.fresh) refl
