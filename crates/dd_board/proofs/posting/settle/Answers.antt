use Rattle.std.proofs.Common.{◌+◌, ◌-◌, refl, arith}
use Rattle.dd_board.proofs.Settled.{posted-by}
use Rattle.dd_board.proofs.posting.settle.Goals as goal

pub returns : goal.returns
returns c = posted-by c.args.s.now (record c.args.s.now {
  tasks = c.set_state.new.tasks;
  journal = c.note.new.journal;
  held = c.args.s.now.held - 1;
  posts = c.args.s.now.posts + 1;
}) c.renew.new.s c.args.task c.args.state c.args.event c.requires.low c.requires.out c.set_state.ensures c.note.ensures.items c.note.ensures.capacity
    (omega (arith, c.requires.held)) refl refl refl c.renew.ensures
