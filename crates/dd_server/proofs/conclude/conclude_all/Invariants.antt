use Rattle.std.proofs.Common.{◌≡◌, All, List, map}
use Rattle.dd_text.specs.Symbols.{texts_of}
use Rattle.dd_wire.specs.declared.reply.Reply.{Reply}
use Rattle.dd_server.specs.Windows.{ConcludeAll, IsOpen, line_text}
use Rattle.dd_server.proofs.conclude.conclude_all.Given as goal

abbrev pub invariant-loop-item : goal.invariant-loop-item
invariant-loop-item l = record {
  concludes : (replies : List Reply) × ConcludeAll l.fn.cache.capacity l.fn.symbols l.fn.board l.yielded l.fn.cache.list l.cache.list replies
      × (texts_of l.lines.items ≡ map line_text replies);
  named : All (IsOpen l.fn.board) l.item-iterator.rest.items;
  capacity : l.cache.capacity ≡ l.fn.cache.capacity;
}
