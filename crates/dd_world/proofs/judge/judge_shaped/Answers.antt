use Rattle.std.proofs.Common.{◌∙◌, ap, sym}
use Rattle.dd_interp.proofs.Results.{if_ok}
use Rattle.dd_world.specs.Faults.{judged_by}
use Rattle.dd_world.specs.Sketches.{world_of}
use Rattle.dd_world.proofs.Judging.{same_fault}
use Rattle.dd_world.proofs.judge.judge_shaped.Goals as goal

pub returns : goal.returns
returns c = if_ok c.judge_sketch.result (λ answer h. h ∙ ap judged_by (same_fault c.args.w.now (world_of c.in_ok-sketch.sketch) c.in_ok-sketch.ensures c.args.p.now c.args.q.now (sym c.has_world_shape.ensures.test ∙ c.if-not-has_world_shape.false))) c.judge_sketch.ensures
