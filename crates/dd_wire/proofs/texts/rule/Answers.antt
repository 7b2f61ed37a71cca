use Rattle.std.proofs.Common.{◌∙◌, ap, List, ℕ, subst, Ok, Err}
use Rattle.std.specs.Option.{option_copied}
use Rattle.dd_wire.specs.Requests.{declared_names, source_number}
use Rattle.dd_wire.specs.Progress.{Progress, progress, ReadsText}
use Rattle.dd_wire.proofs.Joining.{rule_is_read, source_stops, target_stops}
use Rattle.dd_wire.proofs.texts.rule.Goals as goal

pub returns-in-Err : goal.returns-in-Err
returns-in-Err c =
    let old : Progress = progress c.args.tally.now c.args.symbols.now in
    let new : Progress = progress c.concept.new.tally c.concept.new.symbols in
    source_stops (declared_names (option_copied c.args.names)) old new c.args.form.now c.in-Err.e
    (subst (λ t. ReadsText old t new (Err c.in-Err.e)) c.as_slice.ensures c.in-Err.ensures)

pub returns-in-Err-concept : goal.returns-in-Err-concept
returns-in-Err-concept c =
    let old : Progress = progress c.args.tally.now c.args.symbols.now in
    let mid : Progress = progress c.concept.new.tally c.concept.new.symbols in
    let new : Progress = progress c.concept-2.new.tally c.concept-2.new.symbols in
    target_stops (declared_names (option_copied c.args.names)) old mid new c.args.form.now c.in-Ok.c c.in-Err-concept.e
    (subst (λ t. ReadsText old t mid (Ok c.in-Ok.c)) c.as_slice.ensures c.in-Ok.ensures)
    (subst (λ t. ReadsText mid t new (Err c.in-Err-concept.e)) c.as_slice-2.ensures c.in-Err-concept.ensures)

pub returns : goal.returns
returns c =
    let old : Progress = progress c.args.tally.now c.args.symbols.now in
    let mid : Progress = progress c.concept.new.tally c.concept.new.symbols in
    let new : Progress = progress c.concept-2.new.tally c.concept-2.new.symbols in
    let names : List (List ℕ) = declared_names (option_copied c.args.names) in
    rule_is_read names old mid new c.args.form.now c.in-Ok.c c.in-Ok-concept.c c.source_number.result
    (subst (λ t. ReadsText old t mid (Ok c.in-Ok.c)) c.as_slice.ensures c.in-Ok.ensures)
    (subst (λ t. ReadsText mid t new (Ok c.in-Ok-concept.c)) c.as_slice-2.ensures c.in-Ok-concept.ensures)
    (c.source_number.ensures ∙ ap (source_number names) c.as_slice-3.ensures)
