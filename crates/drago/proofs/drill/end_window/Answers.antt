use Rattle.std.proofs.Common.{◌∙◌, ap}
use Rattle.dd_server.specs.ServerState.{session_of}
use Rattle.dd_text.specs.Symbols.{texts_of}
use Rattle.drago.proofs.Drilling.{adds_window}
use Rattle.drago.proofs.drill.end_window.Goals as goal

pub returns-clause-adds : goal.returns-clause-adds
returns-clause-adds c =
    let f = c.in_ok-lines.ensures.finishes in
    adds_window c.add_kinds.result c.args.server.now.reading.options (session_of c.args.server.now) c.serve_window_alone.new.self.cache.list (texts_of c.as_slice.result.now) f.0
    c.args.kinds.now.items c.add_kinds.new.kinds.items c.requires.options f.1 (ap texts_of c.as_slice.ensures.value ∙ f.2) c.add_kinds.ensures
