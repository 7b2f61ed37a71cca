use Rattle.std.proofs.Common.{◌∙◌, [], codes, map}
use Rattle.dd_gen.specs.Made.{axioms_of, in_a, into_of, peer_name, rule}
use Rattle.dd_gen.specs.Written.{quoted}
use Rattle.dd_gen.proofs.Pieces.{later, nine, put-pieces}
use Rattle.dd_gen.proofs.requests.put_request.Goals as goal

pub returns : goal.returns
returns c =
    nine [] (codes "{\"axioms\":[") _ _ _ _ _ _ _ _ _ _ _ _ _ _ _ _ _ (later _ [] _ _ c.in_ok-push.ensures c.new-line.ensures.items) c.in_ok-push_axioms.ensures c.in_ok-push-2.ensures
    c.in_ok-push_into.ensures c.in_ok-push-3.ensures c.in_ok-push_rule.ensures c.in_ok-push-4.ensures c.in_ok-push_name.ensures c.in_ok-push-5.ensures
    ∙ put-pieces (map quoted (axioms_of c.args.is_head c.args.size)) (into_of c.args.is_broken c.args.size c.args.from) (rule c.args.from (in_a 0)) (quoted (peer_name c.args.i))
