use Rattle.std.proofs.Common.{Ok, Err, subst}
use Rattle.std.specs.Option.{option_copied}
use Rattle.dd_wire.specs.Progress.{Progress, progress, ReadsText}
use Rattle.dd_wire.proofs.Answering.{left_stops, query_ends, query_without_peer, right_stops}
use Rattle.dd_wire.proofs.lookup.query.Goals as goal

pub returns-in-Err : goal.returns-in-Err
returns-in-Err c = query_without_peer (option_copied c.args.names) c.args.symbols.now c.args.peer.now c.args.left.now c.args.right.now c.in-Err.e c.in-Err.ensures

pub returns-in-Err-concept : goal.returns-in-Err-concept
returns-in-Err-concept c =
    let s = c.args.symbols.now in
    let new : Progress = progress c.concept.new.tally c.concept.new.symbols in
    left_stops (option_copied c.args.names) s c.args.peer.now c.args.left.now c.args.right.now new c.in-Ok.number c.in-Err-concept.e c.in-Ok.ensures
    (subst (λ t. ReadsText (progress t s) c.args.left.now new (Err c.in-Err-concept.e)) c.no_texts-tally.ensures c.in-Err-concept.ensures)

pub returns-in-Err-concept-2 : goal.returns-in-Err-concept-2
returns-in-Err-concept-2 c =
    let s = c.args.symbols.now in
    let mid : Progress = progress c.concept.new.tally c.concept.new.symbols in
    let new : Progress = progress c.concept-2.new.tally c.concept-2.new.symbols in
    right_stops (option_copied c.args.names) s c.args.peer.now c.args.left.now c.args.right.now mid new c.in-Ok.number c.in-Ok-concept.c c.in-Err-concept-2.e c.in-Ok.ensures
    (subst (λ t. ReadsText (progress t s) c.args.left.now mid (Ok c.in-Ok-concept.c)) c.no_texts-tally.ensures c.in-Ok-concept.ensures)
    c.in-Err-concept-2.ensures

pub returns : goal.returns
returns c =
    let s = c.args.symbols.now in
    let mid : Progress = progress c.concept.new.tally c.concept.new.symbols in
    let final : Progress = progress c.concept-2.new.tally c.concept-2.new.symbols in
    query_ends (option_copied c.args.names) s c.args.peer.now c.args.left.now c.args.right.now mid final c.in-Ok.number c.in-Ok-concept.c c.in-Ok-concept-2.c c.finish_with.result c.requires c.in-Ok.ensures
    (subst (λ t. ReadsText (progress t s) c.args.left.now mid (Ok c.in-Ok-concept.c)) c.no_texts-tally.ensures c.in-Ok-concept.ensures)
    c.in-Ok-concept-2.ensures
    c.finish_with.ensures
