use Rattle.std.proofs.Common.{◌∙◌}
use Rattle.std.proofs.lemmas.Result.{on_ok_weaker}
use Rattle.dd_gen.specs.Made.{in_a, in_c, rule}
use Rattle.dd_gen.proofs.Pieces.{three, two-rules}
use Rattle.dd_gen.proofs.parts.push_both.Goals as goal

pub returns : goal.returns
returns c =
    let n = c.args.size in
    on_ok_weaker c.push_rule-2.result (λ last.
    three c.args.out.now.items _ _ _ _ _ _ c.in_ok-push_rule.ensures c.in_ok-push.ensures last
    ∙ two-rules c.args.out.now.items (rule c.args.from (in_a n)) (rule c.args.from (in_c n))) c.push_rule-2.ensures
