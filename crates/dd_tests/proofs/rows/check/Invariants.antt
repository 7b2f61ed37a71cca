-- Each row so far was answered rightly.
use Rattle.std.proofs.Common.{All, take, true}
use Rattle.dd_tests.proofs.rows.check.Given as goal

abbrev pub invariant-loop-i : goal.invariant-loop-i
invariant-loop-i g l = All (λ row. g.R.Row.answers row true) (take l.i l.rows)
