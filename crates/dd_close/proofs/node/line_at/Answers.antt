use Rattle.std.proofs.Common.{◌∙◌, ap, refl, sym, length, slice_get, Some, List, ℕ}
use Rattle.std.specs.List.{list_any}
use Rattle.dd_graph.specs.Right.{is_below}
use Rattle.std.proofs.lemmas.Bool.{false≢true}
use Rattle.dd_graph.specs.declared.node.Node.TheVariants as node
use Rattle.dd_graph.specs.View.{rank_of, view_of}
use Rattle.dd_graph.proofs.Lists.{ok_map}
use Rattle.dd_set.specs.Words.{has}
use Rattle.dd_close.proofs.Lefts.{clash-everywhere}
use Rattle.dd_close.proofs.Nodes.{larger-line, node-closes, node-says, split-lines}
use Rattle.dd_close.proofs.node.line_at.Goals as goal

pub unreachable-requires : goal.unreachable-requires
unreachable-requires c =
    let v = view_of c.args.g.now in
    let at = ap (λ ls. slice_get ls c.args.id) (sym c.table.ensures.labels) ∙ c.label.ensures.words in
    false≢true (node-closes v c.known.ensures.graph c.args.id c.args.rank c.label.result.words at c.requires.ranked node.Fresh (sym c.in-Fresh.is ∙ c.node.ensures))

pub clash_line-requires-clause-there : goal.clash_line-requires-clause-there
clash_line-requires-clause-there c =
    let v = view_of c.args.g.now in
    let at = ap (λ ls. slice_get ls c.args.id) (sym c.table.ensures.labels) ∙ c.label.ensures.words in
    clash-everywhere v c.known.ensures.distinct c.known.ensures.closed.parts (has c.label.result.words) c.in-Clash.clash
    ((node-says v c.known.ensures.graph c.args.id c.args.rank c.label.result.words at c.requires.ranked (node.Clash c.in-Clash.clash) (sym c.in-Clash.is ∙ c.node.ensures)).clash c.in-Clash.clash refl)

pub returns-in-Clash : goal.returns-in-Clash
returns-in-Clash c =
    let v = view_of c.args.g.now in
    ok_map c.clash_line.result _ _ c.clash_line.ensures
    (λ m h l at. h (has l) ((node-says v c.known.ensures.graph c.args.id c.args.rank l at c.requires.ranked (node.Clash c.in-Clash.clash) (sym c.in-Clash.is ∙ c.node.ensures)).clash c.in-Clash.clash refl))

pub larger_line-requires-clause-least : goal.larger_line-requires-clause-least
larger_line-requires-clause-least c =
    let v = view_of c.args.g.now in
    let at = ap (λ ls. slice_get ls c.args.id) (sym c.table.ensures.labels) ∙ c.label.ensures.words ∙ ap (λ b. Some b.words) (sym c.in_ok-set.ensures) in
    ((node-says v c.known.ensures.graph c.args.id c.args.rank c.in_ok-set.set.words at c.requires.ranked (node.Larger c.in-Larger.to) (sym c.in-Larger.is ∙ c.node.ensures)).larger c.in-Larger.to refl).0

pub larger_line-requires-clause-line : goal.larger_line-requires-clause-line
larger_line-requires-clause-line c =
    let v = view_of c.args.g.now in
    let at = ap (λ ls. slice_get ls c.args.id) (sym c.table.ensures.labels) ∙ c.label.ensures.words in
    larger-line v c.known.ensures.graph c.args.id c.args.rank c.label.result.words at c.requires.ranked c.args.book.now c.args.lines.now c.requires.lines c.in-Larger.to (sym c.in-Larger.is ∙ c.node.ensures)

pub split_line-requires-clause-calls : goal.split_line-requires-clause-calls
split_line-requires-clause-calls c =
    let v = view_of c.args.g.now in
    let at = ap (λ ls. slice_get ls c.args.id) (sym c.table.ensures.labels) ∙ c.label.ensures.words ∙ ap (λ b. Some b.words) (sym c.in_ok-set.ensures) in
    (node-says v c.known.ensures.graph c.args.id c.args.rank c.in_ok-set.set.words at c.requires.ranked (node.Split c.in-Split.step c.in-Split.to) (sym c.in-Split.is ∙ c.node.ensures)).calls c.in-Split.step c.in-Split.to refl

pub split_line-requires-clause-many : goal.split_line-requires-clause-many
split_line-requires-clause-many c =
    let v = view_of c.args.g.now in
    let at = ap (λ ls. slice_get ls c.args.id) (sym c.table.ensures.labels) ∙ c.label.ensures.words in
    ap length c.as_slice.ensures
    ∙ (node-says v c.known.ensures.graph c.args.id c.args.rank c.label.result.words at c.requires.ranked (node.Split c.in-Split.step c.in-Split.to) (sym c.in-Split.is ∙ c.node.ensures)).as_many c.in-Split.step c.in-Split.to refl

pub split_line-requires-clause-least : goal.split_line-requires-clause-least
split_line-requires-clause-least c i k t e f =
    let v = view_of c.args.g.now in
    let at = ap (λ ls. slice_get ls c.args.id) (sym c.table.ensures.labels) ∙ c.label.ensures.words ∙ ap (λ b. Some b.words) (sym c.in_ok-set.ensures) in
    (node-says v c.known.ensures.graph c.args.id c.args.rank c.in_ok-set.set.words at c.requires.ranked (node.Split c.in-Split.step c.in-Split.to) (sym c.in-Split.is ∙ c.node.ensures)).split c.in-Split.step c.in-Split.to refl
    i k t e (ap (λ (ns : List ℕ). slice_get ns i) (sym c.as_slice.ensures) ∙ f)

pub split_line-requires-clause-lines : goal.split_line-requires-clause-lines
split_line-requires-clause-lines c i t f =
    let v = view_of c.args.g.now in
    let at = ap (λ ls. slice_get ls c.args.id) (sym c.table.ensures.labels) ∙ c.label.ensures.words in
    split-lines v c.known.ensures.graph c.args.id c.args.rank c.label.result.words at c.requires.ranked c.args.book.now c.args.lines.now c.requires.lines c.in-Split.step c.in-Split.to (sym c.in-Split.is ∙ c.node.ensures)
    i t (ap (λ (ns : List ℕ). slice_get ns i) (sym c.as_slice.ensures) ∙ f)

pub done_line-requires-clause-pairs : goal.done_line-requires-clause-pairs
done_line-requires-clause-pairs c i n t f =
    let v = view_of c.args.g.now in
    let at = ap (λ ls. slice_get ls c.args.id) (sym c.table.ensures.labels) ∙ c.label.ensures.words ∙ ap (λ b. Some b.words) (sym c.in_ok-set.ensures) in
    (node-says v c.known.ensures.graph c.args.id c.args.rank c.in_ok-set.set.words at c.requires.ranked (node.Done c.in-Done.to) (sym c.in-Done.is ∙ c.node.ensures)).done c.in-Done.to refl
    i n t (ap (λ (ps : List (ℕ × ℕ)). slice_get ps i) (sym c.as_slice-in-Done.ensures) ∙ f)

pub done_line-requires-clause-closed : goal.done_line-requires-clause-closed
done_line-requires-clause-closed c =
    let v = view_of c.args.g.now in
    let at = ap (λ ls. slice_get ls c.args.id) (sym c.table.ensures.labels) ∙ c.label.ensures.words in
    ap (list_any (λ p. is_below c.args.rank (rank_of v p.1))) c.as_slice-in-Done.ensures
    ∙ node-closes v c.known.ensures.graph c.args.id c.args.rank c.label.result.words at c.requires.ranked (node.Done c.in-Done.to) (sym c.in-Done.is ∙ c.node.ensures)
