use Rattle.std.proofs.Common.{◌-◌, ◌≤◌, List, ℕ}
use Rattle.dd_lines.proofs.Stopping.{Skips}
use Rattle.dd_lines.proofs.reader.LineReader.skip.Given as goal

-- some bytes without a line feed were dropped
abbrev pub invariant-loop-self : goal.invariant-loop-self
invariant-loop-self g l =
    (passed : List ℕ) × Skips l.initial.self (g.S.Source.left l.initial.source) l.self (g.S.Source.left l.source) passed
    × (g.S.Source.fault_count l.initial.source ≤ g.S.Source.fault_count l.source)

abbrev pub decreases-loop-self : goal.decreases-loop-self
decreases-loop-self g l = l.self.max_bytes - l.self.taken
