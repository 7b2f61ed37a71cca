use Rattle.std.proofs.Common.{◌∙◌, ◌==◌, ◌||◌, ap, sym, length, map, slice_get, Some, false}
use Rattle.std.specs.Option.{option_map_or}
use Rattle.std.proofs.lemmas.Bool.{and_parts}
use Rattle.dd_graph.specs.Right.{is_some_shape}
use Rattle.dd_graph.specs.View.{rules_at, view_of}
use Rattle.dd_rules.specs.Numbers.{shape_of}
use Rattle.dd_set.specs.Words.{has}
use Rattle.dd_close.proofs.Nodes.{successor-reason}
use Rattle.dd_close.proofs.node.successor_line.Goals as goal

pub note-requires-clause-reason : goal.note-requires-clause-reason
note-requires-clause-reason c =
    let v = view_of c.args.g.now in
    let here = sym (ap (λ k. slice_get (map (shape_of k.concepts) k.concepts) c.args.n) c.compiled.ensures) ∙ c.shape.ensures ∙ ap Some c.in-HasSome.is in
    successor-reason (rules_at v) (has c.args.set.now.words) (has c.insert.new.self.words) c.args.book.now.table.list (length c.args.book.now.table.list) c.label-cited.result.words
    c.in-HasSome.role c.in-HasSome.part c.args.n c.args.line here (and_parts (has c.args.set.now.words c.args.n) (option_map_or is_some_shape (slice_get (rules_at v).shapes c.args.n) false) c.requires.restricts).0
    c.label-cited.ensures.words (c.requires.line c.in-HasSome.role c.in-HasSome.part here)
    (λ k. c.insert.ensures.with k ∙ ap (λ b. (k == c.args.n) || b) (c.in_ok-label.ensures.passing k))
