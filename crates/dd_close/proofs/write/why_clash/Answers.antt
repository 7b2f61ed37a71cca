use Rattle.std.proofs.Common.{◌≡◌, subst, true}
use Rattle.dd_graph.specs.View.{rules_at, view_of}
use Rattle.dd_rules.specs.Forced.{is_clash}
use Rattle.dd_set.specs.Words.{has}
use Rattle.dd_close.proofs.Reasons.{is-bottom, is-clash}
use Rattle.dd_close.proofs.write.why_clash.Goals as goal

pub returns-in-Bottom : goal.returns-in-Bottom
returns-in-Bottom c = is-bottom c.args._p.now c.args._peer c.args.view.now c.args._version.now (view_of c.args.g.now) c.known.ensures.graph c.known.ensures.distinct c.known.ensures.closed c.requires.fits c.requires.version c.args.book.now.table.list c.args._line c.args.label.now.words
    (subst (λ x. is_clash (rules_at (view_of c.args.g.now)) (has c.args.label.now.words) x ≡ true) c.in-Bottom.is c.requires.by)

pub returns-in-Name : goal.returns-in-Name
returns-in-Name c = is-clash c.args._p.now c.args._peer c.args.view.now c.args._version.now (view_of c.args.g.now) c.known.ensures.graph c.known.ensures.distinct c.known.ensures.closed c.requires.fits c.requires.version c.args.book.now.table.list c.args._line c.args.label.now.words
    c.in-Name.name (subst (λ x. is_clash (rules_at (view_of c.args.g.now)) (has c.args.label.now.words) x ≡ true) c.in-Name.is c.requires.by)
