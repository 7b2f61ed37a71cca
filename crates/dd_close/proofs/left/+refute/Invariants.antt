use Rattle.dd_concept.specs.Counts.{node_count}
use Rattle.dd_close.proofs.left.+refute.Given as goal

abbrev pub decreases-refute : goal.decreases-refute
decreases-refute l = node_count l.c.now
