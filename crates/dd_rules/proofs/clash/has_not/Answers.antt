use Rattle.std.proofs.Common.{◌≡◌, ◌∙◌, ◌&&◌, sym, ap, false, arith}
use Rattle.std.proofs.lemmas.Option.{same_Some}
use Rattle.dd_set.specs.Words.{has}
use Rattle.dd_rules.specs.Numbers.{is_not}
use Rattle.dd_rules.proofs.Clashing.{has-shape, not-had, not-passed}
use Rattle.dd_rules.proofs.Walks.{walk-next, walk-end, any_at-none}
use Rattle.dd_rules.proofs.clash.has_not.Goals as goal

pub returns-then-is_not_of : goal.returns-then-is_not_of
returns-then-is_not_of c = sym (has-shape c.args.shapes.now (has c.args.label.now.words) (is_not c.args.name) c.in-Some.n c.shape_at.result c.shape_at.ensures c.in-Some.ensures.next.1
    (sym c.is_not_of.ensures ∙ c.if-is_not_of.true))

pub overflow_add-from : goal.overflow_add-from
overflow_add-from c = omega (arith, c.in-Some.ensures.below, c.requires.width, c.requires.few)

pub loop-n-preserved : goal.loop-n-preserved
loop-n-preserved c = walk-next (λ m s. (has c.args.label.now.words m && is_not c.args.name s) ≡ false) c.args.label.now.words c.args.shapes.now c.loop-n.from c.in-Some.n
    (λ n s h. not-had (has c.args.label.now.words n) (is_not c.args.name s) h) c.in-Some.ensures.next c.loop-n.invariant
    (λ s e. not-passed (has c.args.label.now.words c.in-Some.n) (is_not c.args.name s)
    (ap (is_not c.args.name) (same_Some s c.shape_at.result (sym e ∙ c.shape_at.ensures)) ∙ sym c.is_not_of.ensures ∙ c.if-is_not_of.false))

pub returns : goal.returns
returns c = sym (any_at-none (λ m s. has c.args.label.now.words m && is_not c.args.name s) c.args.shapes.now
    (walk-end (λ m s. (has c.args.label.now.words m && is_not c.args.name s) ≡ false) c.args.label.now.words c.args.shapes.now c.loop-n.from
    (λ n s h. not-had (has c.args.label.now.words n) (is_not c.args.name s) h) c.in_default.ensures.next c.loop-n.invariant))
