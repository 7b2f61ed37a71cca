use Rattle.std.proofs.Common.{◌≡◌, ◌∙◌, sym, subst, arith, take, length}
use Rattle.std.proofs.lemmas.Bool.{false≢true}
use Rattle.dd_board.proofs.Taken.{difference-here, take-more}
use Rattle.dd_board.proofs.holding.difference.Goals as goal

pub returns-then-not-is_same_at : goal.returns-then-not-is_same_at
returns-then-not-is_same_at c = difference-here c.args.props.now c.args.view.now c.loop-k.k (omega (arith, c.loop-k-test.true)) c.loop-k.invariant
    (λ e. false≢true (sym c.if-not-is_same_at.true ∙ c.is_same_at.ensures.1 e))

pub loop-k-preserved : goal.loop-k-preserved
loop-k-preserved c = take-more c.args.props.now c.args.view.now c.loop-k.k c.loop-k.invariant (c.is_same_at.ensures.0 c.if-not-is_same_at.false) (omega (arith, c.loop-k-test.true))

pub returns : goal.returns
returns c = record { within = (omega (arith, c.loop-k-test.false)); same = subst (λ n. take n c.args.props.now ≡ take n c.args.view.now) (let e : c.loop-k.k ≡ length c.args.view.now = omega (arith, c.loop-k-test.false, c.loop-k.auto) in e) c.loop-k.invariant; differs = λ lt. absurd (omega (arith, lt)) }
