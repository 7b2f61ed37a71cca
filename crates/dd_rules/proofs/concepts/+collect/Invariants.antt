use Rattle.dd_rules.proofs.concepts.+collect.Given as goal

abbrev pub decreases-collect : goal.decreases-collect
decreases-collect l = l.n
