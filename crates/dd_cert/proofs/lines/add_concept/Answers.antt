use Rattle.std.proofs.Common.{subst, sym}
use Rattle.dd_text.specs.Symbols.{Grows}
use Rattle.dd_text.proofs.Building.{Grows-with_term}
use Rattle.dd_cert.proofs.LinesBuilt.{concept-built, refused-room}
use Rattle.dd_cert.proofs.lines.add_concept.Goals as goal

pub unread-requires : goal.unread-requires
unread-requires c = refused-room c.args.symbols.now c.read_concept.new.symbols c.args.text.now c.in-Err.e c.requires c.in-Err.ensures.reads

pub returns-in-Ok-clause-concept : goal.returns-in-Ok-clause-concept
returns-in-Ok-clause-concept c = concept-built c.args.symbols.now c.read_concept.new.symbols c.args.text.now c.in-Ok.c c.in-Ok.ensures.reads

pub returns-in-Ok-clause-grows : goal.returns-in-Ok-clause-grows
returns-in-Ok-clause-grows c =
    subst (Grows c.args.symbols.now) (sym c.in-Ok.ensures.reads.symbols) (Grows-with_term c.args.symbols.now c.in-Ok.ensures.reads.term)
