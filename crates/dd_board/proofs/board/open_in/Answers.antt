use Rattle.std.proofs.Common.{◌∙◌, ap, subst, sym, map, arith}
use Rattle.std.proofs.lemmas.List.{length-map}
use Rattle.dd_board.specs.Sessions.{session_view, AreKept}
use Rattle.dd_board.proofs.Boarding.{kept-push, view-push}
use Rattle.dd_board.proofs.board.open_in.Goals as goal

pub returns-clause-opened : goal.returns-clause-opened
returns-clause-opened c = (
  (let l = length-map c.args.sessions.now.items session_view in omega (arith, l, c.len-count.ensures)),
  ap (map session_view) c.in_ok-push.ensures.items ∙ view-push c.args.sessions.now.items c.in_ok-session.session _ c.in_ok-session.ensures.begun,
)

pub returns-clause-kept : goal.returns-clause-kept
returns-clause-kept c = subst AreKept (sym c.in_ok-push.ensures.items) (kept-push c.args.sessions.now.items c.in_ok-session.session c.requires.kept c.in_ok-session.ensures.kept)

pub returns-in_err-push-clause-kept : goal.returns-in_err-push-clause-kept
returns-in_err-push-clause-kept c = subst AreKept (sym c.in_err-push.ensures.items) c.requires.kept
