use Rattle.std.proofs.Common.{◌∙◌, ap, sym, arith, length, drop, get_or, ◌+◌}
use Rattle.dd_graph.specs.Trail.{open_all}
use Rattle.dd_graph.proofs.Opening.{open_one-length, open_all-turn}
use Rattle.dd_graph.proofs.confirm.open_each.Goals as goal

pub loop-id-preserved : goal.loop-id-preserved
loop-id-preserved c =
    let ids = c.args.ids.now in
    let at = c.loop-id.id-index in
    let same = ap length c.set_open.ensures ∙ open_one-length c.loop-id.entries.items (get_or ids at 0) in record {
      size = let was = c.loop-id.invariant.size in omega (arith, same, was);
      opened = c.loop-id.invariant.opened ∙ open_all-turn c.loop-id.entries.items ids at c.loop-id-test.true
          ∙ ap (λ es. open_all es (drop (at + 1) ids)) (sym c.set_open.ensures);
    }
