use Rattle.std.proofs.Common.{◌<◌, subst, sym}
use Rattle.dd_pin.proofs.Pins.{accepted-declared}
use Rattle.dd_pin.proofs.registry.Registry.relevant.Goals as goal

pub relevant_of-found-requires-clause-declared : goal.relevant_of-found-requires-clause-declared
relevant_of-found-requires-clause-declared c = subst (λ n. c.args.peer < n) (sym c.in_ok-pinned.ensures.size) c.requires.declared

pub relevant_of-found-requires-clause-rules : goal.relevant_of-found-requires-clause-rules
relevant_of-found-requires-clause-rules c = accepted-declared c.in_ok-pinned.pinned c.in_ok-pinned.ensures.accepted
