-- The axioms so far are written.
use Rattle.std.proofs.Common.{◌≡◌, ◌++◌, map}
use Rattle.dd_gen.specs.Made.{chain}
use Rattle.dd_gen.specs.Written.{quoted, with_commas}
use Rattle.dd_gen.proofs.parts.push_chain.Given as goal

abbrev pub invariant-loop-t : goal.invariant-loop-t
invariant-loop-t l = l.out.items ≡ l.fn.out.items ++ with_commas (map quoted (chain l.letter l.t))
