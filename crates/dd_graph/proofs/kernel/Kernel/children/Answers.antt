use Rattle.std.proofs.Common.{◌≡◌, ◌∙◌, ap, sym, subst, length, slice_get, None, Some, ◌+◌, ◌++◌, ◌∷◌, [], ℕ, List, not, if◌then◌else◌}
use Rattle.dd_rules.specs.Numbers.{additions}
use Rattle.dd_set.specs.Words.{has}
use Rattle.dd_graph.specs.View.{kernel_view, rules_at}
use Rattle.dd_graph.proofs.Leading.{SplitsSoFar, splits-next, splits-all, rules-kept}
use Rattle.dd_graph.proofs.kernel.Kernel.children.Goals as goal

pub loop-c-preserved : goal.loop-c-preserved
loop-c-preserved c =
    let same = rules-kept c.args.self.now c.loop-c.self c.loop-c.invariant.puts.goes.keeps in
    let add : slice_get (additions (rules_at (kernel_view c.args.self.now)) c.args.step) c.loop-c.k ≡ Some c.in-Some.c =
    ap (λ r. slice_get (additions r c.args.step) c.loop-c.k) (sym same) ∙ sym c.in-Some.ensures in
    let pushed : c.push.new.self.items ≡ c.loop-c.list.items ++ c.in_ok-to.to ∷ [] =
    c.push.ensures.items ∙ ap (λ b. if b then (c.loop-c.list.items ++ c.in_ok-to.to ∷ []) else c.loop-c.list.items) (c.is_err.ensures.negation ∙ ap not c.if-is_err.false) in
    subst (λ k. SplitsSoFar c.args.self.now c.child.new.self (has c.args.label.now.words) c.args.step k c.push.new.self.items) (sym c.in-Some-checked_add.ensures.1)
    (subst (λ to. SplitsSoFar c.args.self.now c.child.new.self (has c.args.label.now.words) c.args.step (c.loop-c.k + 1) to) (sym pushed)
    (splits-next c.args.self.now c.loop-c.self c.child.new.self (has c.args.label.now.words) c.args.step c.loop-c.k c.in-Some.c c.in_ok-to.to c.loop-c.list.items c.loop-c.invariant c.in_ok-to.ensures.puts add c.in_ok-to.ensures.least))

pub returns-clause-many : goal.returns-clause-many
returns-clause-many c =
    let same = rules-kept c.args.self.now c.loop-c.self c.loop-c.invariant.puts.goes.keeps in
    ap length c.from_vec.ensures
    ∙ splits-all c.args.self.now c.loop-c.self (has c.args.label.now.words) c.args.step c.loop-c.k c.loop-c.list.items c.loop-c.invariant
    (ap (λ r. slice_get (additions r c.args.step) c.loop-c.k) (sym same) ∙ sym c.in_default.ensures)
