use Rattle.std.proofs.Common.{arith, subst, sym}
use Rattle.std.specs.Option.{option_copied}
use Rattle.std.proofs.lemmas.Bool.{le-leb}
use Rattle.dd_text.specs.Symbols.{Grows, most_symbols, symbol_count}
use Rattle.dd_text.proofs.Building.{Grows-refl}
use Rattle.dd_text.proofs.Numbering.{length-Appends}
use Rattle.dd_text.proofs.Restoring.{restored}
use Rattle.dd_wire.specs.Forms.{written_of}
use Rattle.dd_wire.specs.Requests.{Tests, declared_names}
use Rattle.dd_wire.proofs.Answering.{Reads-from_ReadsOn, Reads-refusal, grown}
use Rattle.dd_wire.proofs.Resolving.{reads_written}
use Rattle.dd_wire.proofs.lookup.resolve.Goals as goal

pub request_of-requires : goal.request_of-requires
request_of-requires c = le-leb (symbol_count c.args.symbols.now) most_symbols c.mark-mark.ensures.numbering.few

pub back-requires-clause-names : goal.back-requires-clause-names
back-requires-clause-names c =
    let s = c.args.symbols.now in
    let new = c.request_of.new.symbols in
    let grows : Grows s new = grown (Tests (option_copied c.args.names) s (written_of c.args.form)) (declared_names (option_copied c.args.names)) s new c.in-Err.e c.in-Err.ensures.reads in
    omega (arith, c.mark-mark.ensures.names, length-Appends s.names new.names grows.names)

pub back-requires-clause-roles : goal.back-requires-clause-roles
back-requires-clause-roles c =
    let s = c.args.symbols.now in
    let new = c.request_of.new.symbols in
    let grows : Grows s new = grown (Tests (option_copied c.args.names) s (written_of c.args.form)) (declared_names (option_copied c.args.names)) s new c.in-Err.e c.in-Err.ensures.reads in
    omega (arith, c.mark-mark.ensures.roles, length-Appends s.roles new.roles grows.roles)

pub returns-in-Ok-clause-reads : goal.returns-in-Ok-clause-reads
returns-in-Ok-clause-reads c =
    let s = c.args.symbols.now in
    Reads-from_ReadsOn (Tests (option_copied c.args.names) s (written_of c.args.form)) (declared_names (option_copied c.args.names)) s c.request_of.new.symbols c.in-Ok.request c.in-Ok.ensures.reads

pub returns-in-Err-clause-reads : goal.returns-in-Err-clause-reads
returns-in-Err-clause-reads c =
    let s = c.args.symbols.now in
    let new = c.request_of.new.symbols in
    let finds = Tests (option_copied c.args.names) s (written_of c.args.form) in
    let names = declared_names (option_copied c.args.names) in
    let grows : Grows s new = grown finds names s new c.in-Err.e c.in-Err.ensures.reads in
    Reads-refusal finds names s new c.back.new.self c.in-Err.e c.in-Err.ensures.reads
    (restored s new c.back.new.self c.mark-mark.result.names c.mark-mark.result.roles grows c.mark-mark.ensures.names c.mark-mark.ensures.roles c.back.ensures.names c.back.ensures.roles)

pub returns-in-Ok-clause-written : goal.returns-in-Ok-clause-written
returns-in-Ok-clause-written c =
    let s = c.args.symbols.now in
    let new = c.request_of.new.symbols in
    (reads_written (option_copied c.args.names) s new (written_of c.args.form) c.in-Ok.request
    (Reads-from_ReadsOn (Tests (option_copied c.args.names) s (written_of c.args.form)) (declared_names (option_copied c.args.names)) s new c.in-Ok.request c.in-Ok.ensures.reads)).0

pub returns-in-Ok-clause-grows : goal.returns-in-Ok-clause-grows
returns-in-Ok-clause-grows c =
    let s = c.args.symbols.now in
    let new = c.request_of.new.symbols in
    (reads_written (option_copied c.args.names) s new (written_of c.args.form) c.in-Ok.request
    (Reads-from_ReadsOn (Tests (option_copied c.args.names) s (written_of c.args.form)) (declared_names (option_copied c.args.names)) s new c.in-Ok.request c.in-Ok.ensures.reads)).1

pub returns-in-Err-clause-grows : goal.returns-in-Err-clause-grows
returns-in-Err-clause-grows c =
    let s = c.args.symbols.now in
    let new = c.request_of.new.symbols in
    let grows : Grows s new = grown (Tests (option_copied c.args.names) s (written_of c.args.form)) (declared_names (option_copied c.args.names)) s new c.in-Err.e c.in-Err.ensures.reads in
    subst (Grows s) (sym (restored s new c.back.new.self c.mark-mark.result.names c.mark-mark.result.roles grows c.mark-mark.ensures.names c.mark-mark.ensures.roles c.back.ensures.names c.back.ensures.roles)) (Grows-refl s)
