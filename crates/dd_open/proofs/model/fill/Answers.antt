use Rattle.std.proofs.Common.{◌∙◌, arith}
use Rattle.dd_open.proofs.Growing.{goes-on_trans}
use Rattle.dd_open.proofs.Handling.{goes-on_length}
use Rattle.dd_open.proofs.model.fill.Goals as goal

pub loop-x-preserved : goal.loop-x-preserved
loop-x-preserved c =
    let longer = goes-on_length c.loop-x.elements.marked.list c.add_element.new.elements.marked.list c.in_ok-add_element.ensures.grown in (
      c.add_element.ensures.bound ∙ c.loop-x.invariant.0,
      omega (arith, longer, c.loop-x-test.true, c.len.ensures.len),
      goes-on_trans c.args.elements.now.marked.list c.loop-x.elements.marked.list c.add_element.new.elements.marked.list c.loop-x.invariant.2 c.in_ok-add_element.ensures.grown,
      c.in_ok-add_element.ensures.builds,
    )
