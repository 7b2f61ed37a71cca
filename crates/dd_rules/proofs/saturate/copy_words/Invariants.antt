use Rattle.dd_rules.proofs.Pending.{IsCopiedBelow}
use Rattle.dd_rules.proofs.saturate.copy_words.Given as goal

abbrev pub invariant-loop-i : goal.invariant-loop-i
invariant-loop-i l = IsCopiedBelow l.words l.initial.handled l.handled l.i
