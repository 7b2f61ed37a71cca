use Rattle.std.proofs.Common.{◌+◌, sym, subst}
use Rattle.dd_board.specs.Flags.{Changes, Closes}
use Rattle.dd_board.proofs.Marked.{close-next}
use Rattle.dd_board.proofs.flags.spread.Goals as goal

pub loop-k-preserved : goal.loop-k-preserved
loop-k-preserved c =
    let r = close-next c.args.tasks.now c.loop-k.tasks c.spread_at-more.new.tasks c.loop-k.k c.loop-k.has_more c.spread_at-more.result c.loop-k.invariant.spread c.loop-k.invariant.changes
    c.loop-k.invariant.closes c.spread_at-more.ensures.spread c.spread_at-more.ensures.changes c.spread_at-more.ensures.reached in
    record {
      spread = r.0;
      changes = subst (λ b. Changes b c.args.tasks.now c.spread_at-more.new.tasks) (sym c.either-has_more.ensures) r.1;
      closes = subst (λ b. Closes b c.spread_at-more.new.tasks (c.loop-k.k + 1)) (sym c.either-has_more.ensures) r.2;
    }
