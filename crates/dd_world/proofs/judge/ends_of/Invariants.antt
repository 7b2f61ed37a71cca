use Rattle.std.proofs.Common.{take}
use Rattle.dd_world.proofs.Judging.{HasEnds}
use Rattle.dd_world.proofs.judge.ends_of.Given as goal

abbrev pub invariant-loop-link : goal.invariant-loop-link
invariant-loop-link l = HasEnds l.peer l.rule l.source.words l.width (take l.link-index l.links) l.row
