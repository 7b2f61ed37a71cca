use Rattle.std.proofs.Common.{arith}
use Rattle.dd_set.proofs.bits.Bits.next_from.Goals as goal

pub next_number-requires : goal.next_number-requires
next_number-requires c = omega arith
