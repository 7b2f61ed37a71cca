use Rattle.std.proofs.Common.{◌∙◌, ◌++◌, ap, map}
use Rattle.std.specs.List.{range_with_len}
use Rattle.std.proofs.lemmas.Result.{on_ok_weaker}
use Rattle.dd_gen.specs.Made.{ask_line, in_a}
use Rattle.dd_gen.proofs.lines.push_backward.Goals as goal

pub returns : goal.returns
returns c =
    let each = range_with_len 0 c.args.peers in
    let before = map (λ line. line.items) c.args.lines.now.items in
    on_ok_weaker c.push_asks.result (λ h.
    h
    ∙ ap (λ l. before ++ map (ask_line l c.as_slice-2.result.now) each) (c.as_slice.ensures.value ∙ c.in_ok-last.ensures)
    ∙ ap (λ r. before ++ map (ask_line (in_a c.args.size) r) each) (c.as_slice-2.ensures.value ∙ c.in_ok-first.ensures)) c.push_asks.ensures
