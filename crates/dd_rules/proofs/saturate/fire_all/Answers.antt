use Rattle.std.proofs.Common.{◌∙◌, arith}
use Rattle.dd_set.specs.Words.{has}
use Rattle.dd_rules.proofs.Draining.{fired-next}
use Rattle.dd_rules.proofs.saturate.fire_all.Goals as goal

pub loop-k-preserved : goal.loop-k-preserved
loop-k-preserved c = record {
  width = c.fire.ensures.width ∙ c.loop-k.invariant.width;
  fired = fired-next c.args.axioms.now c.args.ks.now c.loop-k.k-index (has c.args.label.now.words) (has c.loop-k.label.words) (has c.fire.new.label.words) (omega arith)
      c.loop-k.invariant.fired c.fire.ensures.fired;
}
