use Rattle.std.proofs.Common.{◌∙◌, ◌-◌}
use Rattle.std.proofs.lemmas.Result.{on_ok_weaker}
use Rattle.dd_gen.specs.Made.{in_a, in_c}
use Rattle.dd_gen.specs.Written.{either}
use Rattle.dd_gen.proofs.Pieces.{five, fork-pieces}
use Rattle.dd_gen.proofs.parts.push_fork.Goals as goal

pub returns : goal.returns
returns c =
    let n = c.args.size in
    on_ok_weaker c.push-3.result (λ last.
    five c.args.out.now.items _ _ _ _ _ _ _ _ _ _ c.in_ok-push.ensures c.in_ok-push_numbered.ensures c.in_ok-push-2.ensures c.in_ok-push_either.ensures last
    ∙ fork-pieces c.args.out.now.items (in_a (n - 1)) (either (in_a n) (in_c n))) c.push-3.ensures
