use Rattle.dd_rules.proofs.concepts.+build.Given as goal

abbrev pub decreases-build : goal.decreases-build
decreases-build l = l.n
