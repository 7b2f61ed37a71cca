use Rattle.std.proofs.Common.{◌∙◌, ap, arith}
use Rattle.dd_board.specs.Releases.{give_held}
use Rattle.dd_board.specs.Sessions.{session_view}
use Rattle.dd_board.proofs.Releasing.{released-next, released-length, released-end}
use Rattle.dd_board.proofs.giving.release.Goals as goal

pub give_if_held-requires-clause-low : goal.give_if_held-requires-clause-low
give_if_held-requires-clause-low c = let l = released-length c.loop-t.s c.args.s.now c.loop-t.t c.loop-t.invariant.view in omega (arith, l, c.loop-t-test.true, c.len-t-end.ensures)

pub loop-t-preserved : goal.loop-t-preserved
loop-t-preserved c = record {
  view = c.give_if_held.ensures.given ∙ (ap (λ v. give_held v c.loop-t.t) c.loop-t.invariant.view ∙ released-next c.loop-t.t (session_view c.args.s.now));
  kept = c.give_if_held.ensures.kept;
}

pub returns-clause-released : goal.returns-clause-released
returns-clause-released c = released-end c.loop-t.s c.args.s.now c.loop-t.t (omega (arith, c.loop-t-test.false, c.len-t-end.ensures, c.loop-t.auto)) c.loop-t.invariant.view
