-- The names so far are the symbols.
use Rattle.std.proofs.Common.{◌≡◌, take}
use Rattle.dd_wire.proofs.names.Names.new.Given as goal

abbrev pub invariant-loop-name : goal.invariant-loop-name
invariant-loop-name l = l.texts.names ≡ take l.name-index l.names
