use Rattle.std.proofs.Common.{arith, ◌<◌, ◌∙◌, ap, sym, subst, List, Bool, false, length, true, slice_set}
use Rattle.std.proofs.lemmas.List.{get_or_read}
use Rattle.dd_set.specs.Marked.{Arrivals, HasMarks}
use Rattle.dd_set.proofs.Arrivals.{marks-push, marks-room}
use Rattle.dd_set.proofs.marked.Marked.add.Goals as goal

pub push_reserved-requires : goal.push_reserved-requires
push_reserved-requires c =
    let marks : List Bool = c.self.inside.marks.items in
    let bound = ap (λ (a : Arrivals). a.bound) c.self.view_is in
    let low : c.args.n < length marks = omega (arith, bound, c.requires) in
    let clear = sym (get_or_read marks c.args.n c.index.result.now low c.index.ensures false) ∙ c.if-index.false in
    let room = marks-room marks c.self.inside.list.items c.args.n c.self.invariant.0 low clear in
    omega arith

pub invariant_of-self : goal.invariant_of-self
invariant_of-self c =
    let marks : List Bool = c.self.inside.marks.items in
    let bound = ap (λ (a : Arrivals). a.bound) c.self.view_is in
    let low : c.args.n < length marks = omega (arith, bound, c.requires) in
    let clear = sym (get_or_read marks c.args.n c.index.result.now low c.index.ensures false) ∙ c.if-index.false in (
      subst (HasMarks (slice_set marks c.args.n true)) (sym c.push_reserved.ensures.items) (marks-push marks c.self.inside.list.items c.args.n c.self.invariant.0 low clear),
      omega arith,
      omega arith,
    )
