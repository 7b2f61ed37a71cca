use Rattle.std.proofs.Common.{◌≡◌, ◌∙◌, List, IfOk, OnOk, map, subst, sym}
use Rattle.std.proofs.lemmas.Result.{IfOk-weaker}
use Rattle.dd_read.specs.ReadingState.{state_of}
use Rattle.dd_text.specs.Symbols.{texts_of}
use Rattle.dd_wire.specs.declared.reply.Reply.{Reply}
use Rattle.dd_server.specs.Finish.{Finish}
use Rattle.dd_server.specs.Held.{AreEntries}
use Rattle.dd_server.specs.Windows.{ConcludeAll, line_text}
use Rattle.dd_server.proofs.Boarded.{can-settle, fit-sessions}
use Rattle.dd_server.proofs.Windowed.{kept-entries, together}
use Rattle.dd_server.proofs.server.answer_all.Goals as goal

pub settle-board-requires : goal.settle-board-requires
settle-board-requires g c = c.requires.can c.look_up_all.new.board (can-settle c.args.reading.now.symbols c.look_up_all.new.board c.in_ok-looked.ensures.sessions)

pub conclude_all-lines-requires-clause-sessions : goal.conclude_all-lines-requires-clause-sessions
conclude_all-lines-requires-clause-sessions g c =
    fit-sessions c.args.reading.now.symbols c.look_up_all.new.board c.settle-board.result.0 c.in_ok-looked.ensures.sessions
    (c.requires.does c.look_up_all.new.board c.settle-board.result c.settle-board.ensures)

pub returns-clause-finishes : goal.returns-clause-finishes
returns-clause-finishes g c =
    let symbols = c.args.reading.now.symbols in
    let before = c.args.cache.now in
    let between = c.look_up_all.new.cache in
    let after = c.conclude_all-lines.new.cache in
    let settled = c.requires.does c.look_up_all.new.board c.settle-board.result c.settle-board.ensures in
    IfOk-weaker c.conclude_all-lines.result _ _ (λ lines h.
    let halves = together between.capacity symbols c.look_up_all.new.board c.settle-board.result.0 settled c.args.kept.items c.in_ok-looked.looked.items
    before.list between.list between.list after.list h.0 c.in_ok-looked.ensures.looks h.1 in (
      h.0,
      subst (λ n. Finish n symbols c.args.kept.items before.list after.list h.0) c.in_ok-looked.ensures.capacity (halves.0, between.list, halves.1, halves.2, halves.3),
      h.2,
    )) c.conclude_all-lines.ensures.concludes

pub returns-clause-entries : goal.returns-clause-entries
returns-clause-entries g c =
    let symbols = c.args.reading.now.symbols in
    let before = c.args.cache.now in
    let between = c.look_up_all.new.cache in
    let after = c.conclude_all-lines.new.cache in
    let settled = c.requires.does c.look_up_all.new.board c.settle-board.result c.settle-board.ensures in
    IfOk-weaker c.conclude_all-lines.result _ _ (λ lines h.
    let halves = together between.capacity symbols c.look_up_all.new.board c.settle-board.result.0 settled c.args.kept.items c.in_ok-looked.looked.items
    before.list between.list between.list after.list h.0 c.in_ok-looked.ensures.looks h.1 in
    kept-entries between.capacity (state_of c.args.reading.now) c.args.kept.items halves.0 before.list between.list between.list after.list
    c.requires.fit halves.1 halves.2 c.in_ok-looked.ensures.entries) c.conclude_all-lines.ensures.concludes
