use Rattle.std.proofs.Common.{◌+◌, sym, subst, arith, map}
use Rattle.std.proofs.lemmas.List.{length-map}
use Rattle.dd_board.specs.Sessions.{session_view}
use Rattle.dd_board.specs.Stands.{IsSearched}
use Rattle.dd_board.proofs.Sitting.{searched-over, searched-waits, found-due, found-busy, found-settled}
use Rattle.dd_board.proofs.standing.find.Goals.{in-Over, in-Waits}
use Rattle.dd_board.proofs.standing.find.Goals as goal

pub stand_of-requires : goal.stand_of-requires
stand_of-requires c = c.requires.kept c.loop-n.n c.session_at.result.now c.session_at.ensures

pub returns-in-Due : goal.returns-in-Due
returns-in-Due c = found-due c.args.sessions.now c.loop-n.n c.loop-n.busy c.session_at.result.now c.session_at.ensures c.loop-n.invariant c.in-Due.t c.in-Due.ensures

pub loop-n-preserved : goal.loop-n-preserved
loop-n-preserved c = elim c.match-stand_of.branch [
  | in-Over w ↦ subst (IsSearched (map session_view c.args.sessions.now) (c.loop-n.n + 1)) (sym w.busy-is)
      (searched-over c.args.sessions.now c.loop-n.n c.loop-n.busy c.session_at.result.now c.session_at.ensures c.loop-n.invariant w.in-Over.field-0 w.in-Over.ensures)
  | in-Waits w ↦ subst (IsSearched (map session_view c.args.sessions.now) (c.loop-n.n + 1)) (sym w.busy-is)
      (searched-waits c.args.sessions.now c.loop-n.n c.loop-n.busy c.session_at.result.now c.session_at.ensures c.loop-n.invariant w.in-Waits.field-0 w.in-Waits.ensures)
]

pub returns-then-busy : goal.returns-then-busy
returns-then-busy c = found-busy (map session_view c.args.sessions.now) c.loop-n.n
    (omega (arith, c.loop-n-test.false, length-map c.args.sessions.now session_view))
    (subst (IsSearched (map session_view c.args.sessions.now) c.loop-n.n) c.if-busy.true c.loop-n.invariant)

pub returns : goal.returns
returns c = found-settled (map session_view c.args.sessions.now) c.loop-n.n
    (omega (arith, c.loop-n-test.false, length-map c.args.sessions.now session_view))
    (subst (IsSearched (map session_view c.args.sessions.now) c.loop-n.n) c.if-busy.false c.loop-n.invariant)
