use Rattle.std.proofs.Common.{◌∙◌, [], codes}
use Rattle.dd_gen.specs.Made.{peer_name}
use Rattle.dd_gen.specs.Written.{quoted}
use Rattle.dd_gen.proofs.Pieces.{ask-pieces, later, seven}
use Rattle.dd_gen.proofs.requests.ask_request.Goals as goal

pub returns : goal.returns
returns c =
    seven [] (codes "{\"left\":") _ _ _ _ _ _ _ _ _ _ _ _ _ (later _ [] _ _ c.in_ok-push.ensures c.new-line.ensures.items) c.in_ok-push_quoted.ensures c.in_ok-push-2.ensures
    c.in_ok-push_name.ensures c.in_ok-push-3.ensures c.in_ok-push_quoted-2.ensures c.in_ok-push-4.ensures
    ∙ ask-pieces (quoted c.args.left.now) (quoted c.args.right.now) (quoted (peer_name c.args.i))
