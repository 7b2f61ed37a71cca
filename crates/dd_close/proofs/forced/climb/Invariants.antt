use Rattle.std.proofs.Common.{◌≡◌, ◌-◌}
use Rattle.dd_graph.specs.View.{rules_at, view_of}
use Rattle.dd_set.specs.Sets.{count}
use Rattle.dd_set.specs.Words.{has}
use Rattle.dd_close.specs.Logs.{IsLog, Reaches}
use Rattle.dd_close.proofs.forced.climb.Given as goal

abbrev pub invariant-loop-alloc : goal.invariant-loop-alloc
invariant-loop-alloc l = (l.label.width ≡ l.initial.label.width) × IsLog (rules_at (view_of l.g)) l.initial.label.width (has l.initial.label.words) l.log.items (has l.label.words)
    × Reaches (rules_at (view_of l.g)) l.book l.line (has l.label.words)

abbrev pub decreases-loop-alloc : goal.decreases-loop-alloc
decreases-loop-alloc l = l.label.width - count l.label.words l.label.width
