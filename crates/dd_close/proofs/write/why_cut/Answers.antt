use Rattle.std.proofs.Common.{◌∙◌, ap, sym, slice_get, ℕ, List}
use Rattle.dd_graph.specs.View.{view_of}
use Rattle.dd_close.proofs.Reasons.{is-cut, onto-low, prop-low}
use Rattle.dd_close.proofs.write.why_cut.Goals as goal

pub prop_at-requires : goal.prop_at-requires
prop_at-requires c =
    let at = ap (λ (ps : List (ℕ × ℕ × List ℕ)). slice_get ps c.in-Some.j) (sym (c.as_slice.ensures ∙ ap (λ p. p.list) c.props.ensures)) ∙ c.in-Some.ensures.1 in
    prop-low c.args._p.now c.args._peer c.args.view.now c.args._version.now (view_of c.args.g.now) c.known.ensures.graph c.known.ensures.distinct c.known.ensures.closed c.requires.fits c.requires.version c.args.book.now.table.list c.args._line c.args.label.now.words
    c.in-Some.j c.in-Some.ensures.0 at

pub onto_rule-rule-requires-clause-there : goal.onto_rule-rule-requires-clause-there
onto_rule-rule-requires-clause-there c = onto-low c.args._p.now c.args._peer c.args.view.now c.args._version.now (view_of c.args.g.now) c.known.ensures.graph c.known.ensures.distinct c.known.ensures.closed c.requires.fits c.requires.version c.args.book.now.table.list c.args._line c.args.label.now.words
    c.in-Some.j c.prop_at.result.now c.prop_at.ensures

pub returns : goal.returns
returns c =
    let at = ap (λ (ps : List (ℕ × ℕ × List ℕ)). slice_get ps c.in-Some.j) (sym (c.as_slice.ensures ∙ ap (λ p. p.list) c.props.ensures)) ∙ c.in-Some.ensures.1 in
    is-cut c.args._p.now c.args._peer c.args.view.now c.args._version.now (view_of c.args.g.now) c.known.ensures.graph c.known.ensures.distinct c.known.ensures.closed c.requires.fits c.requires.version c.args.book.now.table.list c.args._line c.args.label.now.words
    c.args.on c.args.left c.args.right c.in-Some.j c.in_ok-yes.yes c.in_ok-no.no c.in-Some.ensures.0 c.prop_at.result.now c.onto_rule-rule.result.now c.in_ok-on.on at c.in-Some.ensures.2
    c.prop_at.ensures c.onto_rule-rule.ensures c.in_ok-on.ensures c.in_ok-yes.ensures c.in_ok-no.ensures c.requires.by
