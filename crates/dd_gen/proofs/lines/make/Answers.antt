use Rattle.std.proofs.Common.{map}
use Rattle.std.specs.List.{range_with_len}
use Rattle.dd_gen.specs.Made.{backward_line, onward_line, peers_line, put_line}
use Rattle.dd_gen.proofs.Rest.{all-lines}
use Rattle.dd_gen.proofs.lines.make.Goals as goal

pub returns : goal.returns
returns c =
    let each = range_with_len 0 c.args.peers in
    all-lines (peers_line c.args.peers) (map (put_line c.args.seed c.args.peers c.args.size) each) (map (onward_line c.args.size) each) (map (backward_line c.args.size) each) _ _ _ _
    c.in_ok-lines.ensures c.in_ok-push_puts.ensures c.in_ok-push_onward.ensures c.in_ok-push_backward.ensures
