use Rattle.std.proofs.Common.{◌∙◌}
use Rattle.std.proofs.lemmas.Result.{on_ok_weaker}
use Rattle.dd_gen.specs.Made.{peer_name}
use Rattle.dd_gen.specs.Written.{numbered}
use Rattle.dd_gen.proofs.Pieces.{rule-pieces, seven}
use Rattle.dd_gen.proofs.parts.push_rule.Goals as goal

pub returns : goal.returns
returns c =
    on_ok_weaker c.push-4.result (λ last.
    seven c.args.out.now.items _ _ _ _ _ _ _ _ _ _ _ _ _ _ c.in_ok-push.ensures c.in_ok-push_name.ensures c.in_ok-push-2.ensures c.in_ok-push_numbered.ensures
    c.in_ok-push-3.ensures c.in_ok-push_numbered-2.ensures last
    ∙ rule-pieces c.args.out.now.items (peer_name c.args.from) (numbered c.args.letter.now c.args.n)) c.push-4.ensures
