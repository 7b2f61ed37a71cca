use Rattle.std.proofs.Common.{◌≡◌, ◌∙◌, ◌<◌, ◌++◌, ◌∷◌, [], refl, sym, ap, subst, arith, ℕ, List, length, vec_len, true, slice_get, Some}
use Rattle.dd_rules.specs.Compiled.{rules_in}
use Rattle.dd_set.specs.Words.{has}
use Rattle.dd_table.specs.Labels.{Labels, number_of}
use Rattle.dd_graph.specs.Goes.{Adds, blank}
use Rattle.dd_graph.specs.Reached.{AreReached}
use Rattle.dd_graph.specs.Right.{AreEntries}
use Rattle.dd_graph.proofs.Putting.{append-right, reached-push, with-absent, number-absent}
use Rattle.dd_graph.proofs.kernel.Kernel.append.Goals as goal
use Rattle.dd_graph.proofs.kernel.Kernel.append.Goals.{In_ok-id, After-push_reserved-2}

labels : (c : In_ok-id) → c.intern.new.self.list ≡ c.args.self.now.table.list ++ c.args.label.now.words ∷ []
labels c = ap (λ (t : Labels). t.list) c.in_ok-id.ensures.labels ∙ with-absent c.args.self.now.table.list c.args.label.now.words c.requires.absent

entries : (c : After-push_reserved-2) → c.push_reserved.new.self.items ≡ c.args.self.now.entries.items ++ blank c.args.clear ∷ []
entries c = c.push_reserved.ensures.items ∙ ap (λ es. es ++ blank c.args.clear ∷ []) c.reserve.ensures.items

marks : (c : After-push_reserved-2) → c.push_reserved-2.new.self.items ≡ c.args.self.now.reached.items ++ true ∷ []
marks c = c.push_reserved-2.ensures.items ∙ ap (λ ms. ms ++ true ∷ []) c.reserve-2.ensures.items

pub invariant_of-self-2-clause-right : goal.invariant_of-self-2-clause-right
invariant_of-self-2-clause-right c =
    subst (λ ls. AreEntries (rules_in c.args.self.now.compiled c.args.self.now.props) ls c.push_reserved.new.self.items c.args.self.now.closed) (sym (labels (goal.at.invariant_of-self-2-clause-right c).In_ok-id))
    (subst (λ es. AreEntries (rules_in c.args.self.now.compiled c.args.self.now.props) (c.args.self.now.table.list ++ c.args.label.now.words ∷ []) es c.args.self.now.closed) (sym (entries c))
    (append-right (rules_in c.args.self.now.compiled c.args.self.now.props) c.args.self.now.table.list c.args.self.now.entries.items c.args.self.now.closed c.args.label.now.words c.args.clear c.args.self.now.right c.requires.clear))

pub invariant_of-self-2-clause-from_goal : goal.invariant_of-self-2-clause-from_goal
invariant_of-self-2-clause-from_goal c =
    subst (λ ls. AreReached (rules_in c.args.self.now.compiled c.args.self.now.props) ls c.push_reserved-2.new.self.items c.args.self.now.goal) (sym (labels (goal.at.invariant_of-self-2-clause-from_goal c).In_ok-id))
    (subst (λ ms. AreReached (rules_in c.args.self.now.compiled c.args.self.now.props) (c.args.self.now.table.list ++ c.args.label.now.words ∷ []) ms c.args.self.now.goal) (sym (marks c))
    c.requires.reached)

pub returns-clause-adds : goal.returns-clause-adds
returns-clause-adds c =
    let d = (goal.at.returns-clause-adds c).After-push_reserved-2 in
    let e = (goal.at.returns-clause-adds c).In_ok-id in (
      record {
        compiled = refl;
        props = refl;
        labels = labels e;
        entries = entries d;
        goal = refl;
        reached = marks d;
        left = let room = c.requires.room in omega (arith, room);
      },
      c.in_ok-id.ensures.number ∙ ap (λ (t : Labels). number_of t.list c.args.label.now.words) c.in_ok-id.ensures.labels ∙ number-absent c.args.self.now.table.list c.args.label.now.words c.requires.absent,
    )
