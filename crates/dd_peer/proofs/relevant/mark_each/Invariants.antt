-- The peers of the rules so far are marked.
use Rattle.std.proofs.Common.{take}
use Rattle.dd_peer.specs.Marks.{AreMarked, froms_of}
use Rattle.dd_peer.proofs.relevant.mark_each.Given as goal

abbrev pub invariant-loop-rule : goal.invariant-loop-rule
invariant-loop-rule l = AreMarked (froms_of (take l.rule-index l.rules)) l.initial.marks l.marks l.initial.todo.items l.todo.items
