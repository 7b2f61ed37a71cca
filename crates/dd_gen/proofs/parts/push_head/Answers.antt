use Rattle.std.proofs.Common.{◌-◌, codes, map}
use Rattle.std.proofs.lemmas.Result.{on_ok_weaker}
use Rattle.dd_gen.specs.Made.{chain, fork}
use Rattle.dd_gen.specs.Written.{comma_after, quoted, with_commas}
use Rattle.dd_gen.proofs.Commas.{chain-length, quoted-more, written-more}
use Rattle.dd_gen.proofs.parts.push_head.Goals as goal

pub returns : goal.returns
returns c =
    let n = c.args.size - 1 in
    let first = chain (codes "A") n in
    on_ok_weaker c.push_fork.result (written-more c.args.out.now.items (with_commas (map quoted first)) (comma_after n) (quoted (fork c.args.size)) _ _ _ _
    (quoted-more first (fork c.args.size) n (chain-length (codes "A") n)) c.in_ok-push_chain.ensures c.in_ok-push_comma.ensures) c.push_fork.ensures
