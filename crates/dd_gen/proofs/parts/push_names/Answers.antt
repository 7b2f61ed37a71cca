use Rattle.std.proofs.Common.{ℕ, List, map}
use Rattle.std.specs.List.{range_with_len}
use Rattle.dd_gen.specs.Made.{peer_name}
use Rattle.dd_gen.specs.Written.{comma_after, quoted, with_commas}
use Rattle.dd_gen.proofs.Commas.{numbers-more, written-more}
use Rattle.dd_gen.proofs.parts.push_names.Goals as goal

pub loop-i-preserved : goal.loop-i-preserved
loop-i-preserved c =
    let name : ℕ → List ℕ = λ i. quoted (peer_name i) in
    let i = c.loop-i.i in
    written-more c.args.out.now.items (with_commas (map name (range_with_len 0 i))) (comma_after i) (name i) _ _ _ _
    (numbers-more name i) c.loop-i.invariant c.in_ok-push_comma.ensures c.in_ok-push_name.ensures
