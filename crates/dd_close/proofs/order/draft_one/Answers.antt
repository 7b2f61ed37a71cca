use Rattle.std.proofs.Common.{◌∙◌, ◌<◌, ap, refl, sym, subst, Some, slice_index_or, slice_set}
use Rattle.std.proofs.lemmas.Option.{slice_get-get_or}
use Rattle.dd_graph.specs.View.{view_of}
use Rattle.dd_close.proofs.Ordering.{drafts-idle, drafts-next, ranked-there}
use Rattle.dd_close.proofs.order.draft_one.Goals as goal

pub returns-in_ok-line-clause-drafts : goal.returns-in_ok-line-clause-drafts
returns-in_ok-line-clause-drafts c =
    let v = view_of c.args.g.now in
    let id = slice_index_or c.args.order.now c.args.rank 0 in
    let ranked = c.has_rank.ensures.0 c.if-has_rank.true ∙ ap Some c.in_ok-bound.ensures in
    drafts-next v c.known.ensures.graph c.args.order.now c.requires.order c.args.rank id (slice_get-get_or c.args.order.now c.args.rank 0 c.requires.within) c.args.book.now c.line_at.new.book
    c.args.lines.now (slice_set c.args.lines.now id c.in_ok-line.line) c.in_ok-line.line c.requires.drafts ranked
    (subst (λ n. id < n) (sym c.requires.len) (ranked-there v c.known.ensures.graph id c.args.rank ranked)) refl c.in_ok-line.ensures

pub returns-else-has_rank-clause-drafts : goal.returns-else-has_rank-clause-drafts
returns-else-has_rank-clause-drafts c =
    let v = view_of c.args.g.now in
    let id = slice_index_or c.args.order.now c.args.rank 0 in
    drafts-idle v c.known.ensures.graph c.args.order.now c.requires.order c.args.rank id (slice_get-get_or c.args.order.now c.args.rank 0 c.requires.within) c.args.book.now c.args.lines.now c.requires.drafts
    (λ r. cc (c.if-has_rank.false, c.has_rank.ensures.1 (r ∙ ap Some (sym c.in_ok-bound.ensures))))
