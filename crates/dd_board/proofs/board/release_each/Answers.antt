use Rattle.std.proofs.Common.{◌∙◌, ap, map, arith}
use Rattle.std.proofs.lemmas.List.{length-map}
use Rattle.dd_board.specs.View.{change_at}
use Rattle.dd_board.specs.Releases.{released}
use Rattle.dd_board.specs.Sessions.{session_view}
use Rattle.dd_board.proofs.Releasing.{release-next, release-all}
use Rattle.dd_board.proofs.board.release_each.Goals as goal

pub loop-n-preserved : goal.loop-n-preserved
loop-n-preserved c = record {
  view = c.release_at.ensures.released ∙ (ap (λ vs. change_at released vs c.loop-n.n) c.loop-n.invariant.view ∙ release-next c.loop-n.n (map session_view c.args.sessions.now.items));
  kept = c.release_at.ensures.kept;
  few = c.release_at.ensures.few ∙ c.loop-n.invariant.few;
}

pub returns-clause-released : goal.returns-clause-released
returns-clause-released c = c.loop-n.invariant.view ∙ release-all (map session_view c.args.sessions.now.items) c.loop-n.n
    (let l = length-map c.args.sessions.now.items session_view in omega (arith, l, c.loop-n-test.false, c.len-n-end.ensures, c.loop-n.auto))
