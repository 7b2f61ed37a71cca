use Rattle.std.proofs.Common.{◌≡◌, ◌++◌, map, take}
use Rattle.dd_text.specs.Symbols.{texts_of}
use Rattle.drago.specs.Summary.{kind_of}
use Rattle.drago.proofs.drill.add_kinds.Given as goal

-- what the lines so far tell was added
abbrev pub invariant-loop-line : goal.invariant-loop-line
invariant-loop-line l = l.kinds.items ≡ l.initial.kinds.items ++ map kind_of (texts_of (take l.line-index l.lines))
