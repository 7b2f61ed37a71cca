use Rattle.std.proofs.Common.{◌≡◌, List, ℕ, Ok, Err, subst, sym, arith, ap}
use Rattle.std.specs.Option.{option_copied}
use Rattle.dd_wire.specs.Requests.{declared_names}
use Rattle.dd_wire.specs.declared.texts.Tally.{Tally}
use Rattle.dd_wire.specs.Progress.{Progress, progress, ReadsAxioms}
use Rattle.dd_wire.proofs.Answering.{axioms_counted, axioms_stop, into_stops, onto_stops, put_is_read, put_refused, put_without_peer, rules_counted}
use Rattle.dd_wire.proofs.lookup.put.Goals as goal

pub returns-in-Err-clause-reads : goal.returns-in-Err-clause-reads
returns-in-Err-clause-reads c =
    put_without_peer (option_copied c.args.names) c.args.symbols.now c.args.peer.now c.args.axiom_texts.now c.args.into_forms.now c.args.onto_forms.now c.in-Err.e c.in-Err.ensures

pub returns-in-Err-axioms-clause-reads : goal.returns-in-Err-axioms-clause-reads
returns-in-Err-axioms-clause-reads c =
    let s = c.args.symbols.now in
    let new : Progress = progress c.axioms.new.tally c.axioms.new.symbols in
    axioms_stop (option_copied c.args.names) s c.args.peer.now c.args.axiom_texts.now c.args.into_forms.now c.args.onto_forms.now new c.in-Ok.number c.in-Err-axioms.e c.in-Ok.ensures
    (subst (λ t. ReadsAxioms (progress t s) c.args.axiom_texts.now new (Err c.in-Err-axioms.e)) c.no_texts-tally.ensures c.in-Err-axioms.ensures)

pub returns-in-Err-rules-clause-reads : goal.returns-in-Err-rules-clause-reads
returns-in-Err-rules-clause-reads c =
    let s = c.args.symbols.now in
    let mid : Progress = progress c.axioms.new.tally c.axioms.new.symbols in
    let new : Progress = progress c.rules.new.tally c.rules.new.symbols in
    into_stops (option_copied c.args.names) s c.args.peer.now c.args.axiom_texts.now c.args.into_forms.now c.args.onto_forms.now mid new c.in-Ok.number c.in-Ok-axioms.axioms c.in-Err-rules.e c.in-Ok.ensures
    (subst (λ t. ReadsAxioms (progress t s) c.args.axiom_texts.now mid (Ok c.in-Ok-axioms.axioms)) c.no_texts-tally.ensures c.in-Ok-axioms.ensures)
    c.in-Err-rules.ensures

pub returns-in-Err-rules-2-clause-reads : goal.returns-in-Err-rules-2-clause-reads
returns-in-Err-rules-2-clause-reads c =
    let s = c.args.symbols.now in
    let mid : Progress = progress c.axioms.new.tally c.axioms.new.symbols in
    let later : Progress = progress c.rules.new.tally c.rules.new.symbols in
    let new : Progress = progress c.rules-2.new.tally c.rules-2.new.symbols in
    onto_stops (option_copied c.args.names) s c.args.peer.now c.args.axiom_texts.now c.args.into_forms.now c.args.onto_forms.now mid later new c.in-Ok.number c.in-Ok-axioms.axioms c.in-Ok-rules.rules c.in-Err-rules-2.e c.in-Ok.ensures
    (subst (λ t. ReadsAxioms (progress t s) c.args.axiom_texts.now mid (Ok c.in-Ok-axioms.axioms)) c.no_texts-tally.ensures c.in-Ok-axioms.ensures)
    c.in-Ok-rules.ensures
    c.in-Err-rules-2.ensures

pub returns-in-Ok-finish-clause-reads : goal.returns-in-Ok-finish-clause-reads
returns-in-Ok-finish-clause-reads c =
    let s = c.args.symbols.now in
    let mid : Progress = progress c.axioms.new.tally c.axioms.new.symbols in
    let later : Progress = progress c.rules.new.tally c.rules.new.symbols in
    let final : Progress = progress c.rules-2.new.tally c.rules-2.new.symbols in
    put_is_read (option_copied c.args.names) s c.args.peer.now c.args.axiom_texts.now c.args.into_forms.now c.args.onto_forms.now mid later final c.in-Ok.number c.in-Ok-axioms.axioms c.in-Ok-rules.rules c.in-Ok-rules-2.rules c.requires c.in-Ok.ensures
    (subst (λ t. ReadsAxioms (progress t s) c.args.axiom_texts.now mid (Ok c.in-Ok-axioms.axioms)) c.no_texts-tally.ensures c.in-Ok-axioms.ensures)
    c.in-Ok-rules.ensures
    c.in-Ok-rules-2.ensures
    (sym c.in-Ok-finish.ensures.tests)

pub returns-in-Err-finish-clause-reads : goal.returns-in-Err-finish-clause-reads
returns-in-Err-finish-clause-reads c =
    let s = c.args.symbols.now in
    let mid : Progress = progress c.axioms.new.tally c.axioms.new.symbols in
    let later : Progress = progress c.rules.new.tally c.rules.new.symbols in
    let final : Progress = progress c.rules-2.new.tally c.rules-2.new.symbols in
    put_refused (option_copied c.args.names) s c.args.peer.now c.args.axiom_texts.now c.args.into_forms.now c.args.onto_forms.now mid later final c.in-Ok.number c.in-Ok-axioms.axioms c.in-Ok-rules.rules c.in-Ok-rules-2.rules c.in-Err-finish.e c.requires c.in-Ok.ensures
    (subst (λ t. ReadsAxioms (progress t s) c.args.axiom_texts.now mid (Ok c.in-Ok-axioms.axioms)) c.no_texts-tally.ensures c.in-Ok-axioms.ensures)
    c.in-Ok-rules.ensures
    c.in-Ok-rules-2.ensures
    (sym c.in-Err-finish.ensures.tests)

pub returns-in-Ok-finish-clause-numbered : goal.returns-in-Ok-finish-clause-numbered
returns-in-Ok-finish-clause-numbered c =
    let names : List (List ℕ) = declared_names (option_copied c.args.names) in
    let mid : Progress = progress c.axioms.new.tally c.axioms.new.symbols in
    let later : Progress = progress c.rules.new.tally c.rules.new.symbols in
    let final : Progress = progress c.rules-2.new.tally c.rules-2.new.symbols in
    let first = axioms_counted (progress c.no_texts-tally.result c.args.symbols.now) mid c.args.axiom_texts.now c.in-Ok-axioms.axioms c.in-Ok-axioms.ensures in
    let second = rules_counted names mid later c.args.into_forms.now c.in-Ok-rules.rules c.in-Ok-rules.ensures in
    let third = rules_counted names later final c.args.onto_forms.now c.in-Ok-rules-2.rules c.in-Ok-rules-2.ensures in
    let start : c.no_texts-tally.result.texts ≡ 0 = ap (λ (t : Tally). t.texts) c.no_texts-tally.ensures in
    record { axioms = omega (arith, first, second, third, start, c.finish.ensures.counted); rules = omega (arith, first, second, third, start, c.finish.ensures.counted) }
