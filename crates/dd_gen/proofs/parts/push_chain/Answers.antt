use Rattle.std.proofs.Common.{◌+◌, map}
use Rattle.dd_gen.specs.Made.{chain}
use Rattle.dd_gen.specs.Written.{comma_after, implies, numbered, quoted, with_commas}
use Rattle.dd_gen.proofs.Commas.{chain-more, written-more}
use Rattle.dd_gen.proofs.parts.push_chain.Goals as goal

pub loop-t-preserved : goal.loop-t-preserved
loop-t-preserved c =
    let letter = c.args.letter.now in
    let t = c.loop-t.t in
    written-more c.args.out.now.items (with_commas (map quoted (chain letter t))) (comma_after t) (quoted (implies (numbered letter t) (numbered letter (t + 1)))) _ _ _ _
    (chain-more letter t) c.loop-t.invariant c.in_ok-push_comma.ensures c.in_ok-push_step.ensures
