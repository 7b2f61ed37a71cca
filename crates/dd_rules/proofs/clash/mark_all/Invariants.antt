use Rattle.std.proofs.Common.{◌≡◌, ◌-◌, ◌%◌, true, ℕ, length}
use Rattle.dd_set.specs.Words.{has}
use Rattle.dd_rules.specs.declared.shape.Shape.TheVariants as shape
use Rattle.dd_rules.proofs.Walks.{EachBelow}
use Rattle.dd_rules.proofs.clash.mark_all.Given as goal

abbrev pub invariant-loop-n : goal.invariant-loop-n
invariant-loop-n l = record {
  words : length l.marks ≡ 1024;
  marked : (a : ℕ) → EachBelow (λ m s. s ≡ shape.Not a → has l.label.words m ≡ true → has l.marks (a % 65536) ≡ true) l.shapes l.from;
}

abbrev pub decreases-loop-n : goal.decreases-loop-n
decreases-loop-n l = l.label.width - l.from
