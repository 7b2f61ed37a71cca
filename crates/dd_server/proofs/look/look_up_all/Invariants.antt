use Rattle.std.proofs.Common.{◌≡◌, All}
use Rattle.dd_read.specs.Fit.{IsFitKept}
use Rattle.dd_read.specs.ReadingState.{state_of}
use Rattle.dd_server.specs.Held.{AreEntries}
use Rattle.dd_server.specs.Windows.{AreNew, IsOpen, LookToAll}
use Rattle.dd_server.proofs.look.look_up_all.Given as goal

abbrev pub invariant-loop-item : goal.invariant-loop-item
invariant-loop-item l = record {
  looks : LookToAll l.fn.reading.symbols l.board l.yielded l.fn.cache.list l.cache.list l.looked.items;
  named : All (IsOpen l.board) l.looked.items;
  sessions : AreNew l.fn.reading.symbols l.board;
  entries : AreEntries (state_of l.fn.reading) l.cache.list;
  fit : All (IsFitKept (state_of l.fn.reading)) l.item-iterator.rest.items;
  capacity : l.cache.capacity ≡ l.fn.cache.capacity;
}
