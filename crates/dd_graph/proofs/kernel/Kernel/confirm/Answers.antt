use Rattle.std.proofs.Common.{◌≡◌, ◌∙◌, ap, sym, subst, refl, arith, true}
use Rattle.dd_rules.specs.Compiled.{rules_in}
use Rattle.dd_set.specs.Marked.{Arrivals, with_arrival}
use Rattle.dd_graph.specs.Right.{AreEntries, open_at}
use Rattle.dd_graph.specs.Trail.{IsTrail, open_all}
use Rattle.dd_graph.proofs.Confirming.{trail-start, trail-within, trail-right, trail-opens, trail-goes, marked-left}
use Rattle.dd_graph.proofs.Putting.{marks-puts}
use Rattle.dd_graph.proofs.kernel.Kernel.confirm.Goals as goal

pub first_left-requires-clause-trail : goal.first_left-requires-clause-trail
first_left-requires-clause-trail c =
    let k = c.args.self.now in
    let list = ap (λ (m : Arrivals). m.list) c.add.ensures.list ∙ ap (λ ns. with_arrival ns k.goal) c.in_ok-list.ensures.empty in
    subst (IsTrail k 0) (sym list) (trail-start k c.requires.begun c.requires.unranked)

pub returns-in-Some-clause-goes : goal.returns-in-Some-clause-goes
returns-in-Some-clause-goes c = (marks-puts c.in-Some.id c.args.self.now c.mark.new.self c.mark.ensures c.requires.begun).goes

pub returns-in-Some-clause-left : goal.returns-in-Some-clause-left
returns-in-Some-clause-left c = marked-left c.in-Some.id c.args.self.now c.mark.new.self c.mark.ensures c.in-Some.ensures.left

pub open_each-requires : goal.open_each-requires
open_each-requires c = record {
  within = λ i d lt.
      let ns = c.first_left.new.list.list in
      let all = trail-within c.args.self.now _ ns c.as_slice.result.now (c.first_left.ensures.trail c.in-None.is) c.as_slice.ensures.list i d lt in
      omega (arith, all);
}

pub invariant_of-self-clause-right : goal.invariant_of-self-clause-right
invariant_of-self-clause-right c =
    let k = c.args.self.now in
    let ns = c.first_left.new.list.list in
    subst (λ es. AreEntries (rules_in k.compiled k.props) k.table.list es k.closed) (sym (c.open_each.ensures ∙ ap (open_all k.entries.items) c.as_slice.ensures.list))
    (trail-right k ns (c.first_left.ensures.trail c.in-None.is))

pub returns-clause-goes : goal.returns-clause-goes
returns-clause-goes c =
    let k = c.args.self.now in
    let ns = c.first_left.new.list.list in
    trail-goes k ns (c.first_left.ensures.trail c.in-None.is) _
    (record { compiled = refl; props = refl; table = refl; entries = c.open_each.ensures ∙ ap (open_all k.entries.items) c.as_slice.ensures.list; goal = refl; reached = refl; left = refl })
    c.requires.begun

pub returns-clause-opened : goal.returns-clause-opened
returns-clause-opened c t =
    let k = c.args.self.now in
    let ns = c.first_left.new.list.list in
    subst (λ es. open_at es k.goal ≡ true) (sym (c.open_each.ensures ∙ ap (open_all k.entries.items) c.as_slice.ensures.list))
    (trail-opens k ns (c.first_left.ensures.trail c.in-None.is))
