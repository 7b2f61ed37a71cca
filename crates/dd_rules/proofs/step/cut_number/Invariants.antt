use Rattle.std.proofs.Common.{◌≡◌, ◌==◌, ℕ, List, drop}
use Rattle.std.specs.List.{find}
use Rattle.dd_rules.proofs.step.cut_number.Given as goal

abbrev pub invariant-loop-prop : goal.invariant-loop-prop
invariant-loop-prop l = find (λ (t : ℕ × ℕ × List ℕ). t.0 == l.on) l.props ≡ find (λ (t : ℕ × ℕ × List ℕ). t.0 == l.on) (drop l.prop-index l.props)
