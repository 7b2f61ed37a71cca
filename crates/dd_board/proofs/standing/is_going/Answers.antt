use Rattle.dd_board.specs.Sessions.{session_view}
use Rattle.dd_board.proofs.Sitting.{no-proved, no-spent, no-quiet, no-verdicts, yes-going}
use Rattle.dd_board.proofs.standing.is_going.Goals as goal

pub returns-in-Proved : goal.returns-in-Proved
returns-in-Proved c = no-proved (session_view c.args.s.now) c.in-Proved.ensures

pub returns-in-SpentRun : goal.returns-in-SpentRun
returns-in-SpentRun c = no-spent (session_view c.args.s.now) c.in-SpentRun.ensures

pub returns-in-Quiet : goal.returns-in-Quiet
returns-in-Quiet c = no-quiet (session_view c.args.s.now) c.in-Quiet.ensures

pub returns-in-SpentVerdicts : goal.returns-in-SpentVerdicts
returns-in-SpentVerdicts c = no-verdicts (session_view c.args.s.now) c.in-SpentVerdicts.ensures

pub returns-in-Going : goal.returns-in-Going
returns-in-Going c = yes-going (session_view c.args.s.now) c.in-Going.ensures
