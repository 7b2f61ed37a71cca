use Rattle.dd_tests.proofs.bodies.+meets.Given as goal

abbrev pub decreases-meets : goal.decreases-meets
decreases-meets l = l.fuel

abbrev pub decreases-meets_all : goal.decreases-meets_all
decreases-meets_all l = l.fuel

abbrev pub decreases-meets_full : goal.decreases-meets_full
decreases-meets_full l = l.fuel

abbrev pub decreases-meets_next : goal.decreases-meets_next
decreases-meets_next l = l.fuel

abbrev pub decreases-meets_some : goal.decreases-meets_some
decreases-meets_some l = l.fuel
