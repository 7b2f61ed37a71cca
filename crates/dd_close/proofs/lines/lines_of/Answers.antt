use Rattle.std.proofs.Common.{◌∙◌, sym, subst}
use Rattle.dd_graph.specs.View.{view_of}
use Rattle.dd_graph.proofs.Lists.{ok_map, same_Some}
use Rattle.dd_rules.specs.Least.{Implies}
use Rattle.dd_set.specs.Words.{has}
use Rattle.dd_close.proofs.Finishing.{written-end}
use Rattle.dd_close.proofs.lines.lines_of.Goals as goal

pub returns : goal.returns
returns c =
    let v = view_of c.args.g.now in
    let drafted = c.in_ok-last.ensures in
    ok_map c.write_lines.result _ _ c.write_lines.ensures (λ lines w l at.
    written-end c.args.p.now c.args.peer c.args.view.now c.peer_version-version.result.now v c.draft.new.book.table.list c.known.ensures.distinct c.known.ensures.closed c.in_ok-last.last lines.items
    drafted.within.label l w drafted.within.there (subst (λ x. Implies (has drafted.within.label) (has x)) (same_Some drafted.label l (sym drafted.at ∙ at)) drafted.within.within))
