use Rattle.std.proofs.Common.{◌≡◌, ◌∙◌, refl, sym, ap, false, arith}
use Rattle.std.proofs.lemmas.Option.{same_Some}
use Rattle.dd_set.specs.Words.{has}
use Rattle.dd_rules.specs.Numbers.{clashes_at}
use Rattle.dd_rules.specs.Tables.{shape_rules}
use Rattle.dd_rules.proofs.Clashing.{idle-clash}
use Rattle.dd_rules.proofs.Walks.{walk-next, walk-end, any_at-none}
use Rattle.dd_rules.proofs.clash.marked_clash.Goals as goal

pub overflow_add-from : goal.overflow_add-from
overflow_add-from c = omega (arith, c.in-Some.ensures.below, c.requires.width, c.requires.few)

pub loop-n-preserved : goal.loop-n-preserved
loop-n-preserved c = walk-next (λ m s. clashes_at (shape_rules c.args.shapes.now) (has c.args.label.now.words) m s ≡ false) c.args.label.now.words c.args.shapes.now c.loop-n.from c.in-Some.n
    (idle-clash (shape_rules c.args.shapes.now) (has c.args.label.now.words)) c.in-Some.ensures.next c.loop-n.invariant
    (λ s e. ap (clashes_at (shape_rules c.args.shapes.now) (has c.args.label.now.words) c.in-Some.n) (same_Some s c.shape_at.result (sym e ∙ c.shape_at.ensures)) ∙ c.in_default-clash_at.ensures.none refl)

pub returns-clause-none : goal.returns-clause-none
returns-clause-none c _ = any_at-none (clashes_at (shape_rules c.args.shapes.now) (has c.args.label.now.words)) c.args.shapes.now
    (walk-end (λ m s. clashes_at (shape_rules c.args.shapes.now) (has c.args.label.now.words) m s ≡ false) c.args.label.now.words c.args.shapes.now c.loop-n.from
    (idle-clash (shape_rules c.args.shapes.now) (has c.args.label.now.words)) c.in_default.ensures.next c.loop-n.invariant)
