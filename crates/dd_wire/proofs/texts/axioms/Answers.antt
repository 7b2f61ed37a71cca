use Rattle.std.proofs.Common.{◌≡◌, ◌∙◌, sym, subst, arith, List, ℕ, [], ◌∷◌, ◌++◌, Ok, Err}
use Rattle.dd_concept.specs.declared.concept.Axiom.{Axiom}
use Rattle.dd_wire.specs.Progress.{Progress, progress, ReadsAxioms}
use Rattle.dd_wire.proofs.Joining.{axioms_joins, on_ok, reaches_break, reaches_end, reaches_failure, reaches_next, reaches_start, Reaches}
use Rattle.dd_wire.proofs.texts.axioms.Goals as goal

pub loop-text-init : goal.loop-text-init
loop-text-init c =
    let start : Progress = progress c.args.tally.now c.args.symbols.now in
    subst (Reaches (List ℕ) Axiom ReadsAxioms start c.args.texts.now start 0) (sym c.new-found.ensures) (reaches_start (List ℕ) Axiom ReadsAxioms axioms_joins start c.args.texts.now)

pub loop-text-preserved : goal.loop-text-preserved
loop-text-preserved c =
    let here : Progress = progress c.loop-text.tally c.loop-text.symbols in
    let next : Progress = progress c.axiom.new.tally c.axiom.new.symbols in
    reaches_next (List ℕ) Axiom ReadsAxioms axioms_joins (progress c.args.tally.now c.args.symbols.now) here next c.args.texts.now c.loop-text.text-index c.text-item.result c.in-Ok.a c.loop-text.found c.push.new.self
    c.loop-text-test.true c.text-item.is c.loop-text.invariant
    (subst (λ t. ReadsAxioms here (t ∷ []) next (Ok (c.in-Ok.a ∷ []))) c.as_slice.ensures c.in-Ok.ensures)
    (on_ok c.push.result (c.push.new.self ≡ c.loop-text.found ++ c.in-Ok.a ∷ []) (sym c.is_err.ensures.value ∙ c.if-is_err.false) c.push.ensures.ok)

pub returns-in-Err : goal.returns-in-Err
returns-in-Err c =
    let here : Progress = progress c.loop-text.tally c.loop-text.symbols in
    let next : Progress = progress c.axiom.new.tally c.axiom.new.symbols in
    reaches_failure (List ℕ) Axiom ReadsAxioms axioms_joins (progress c.args.tally.now c.args.symbols.now) here next c.args.texts.now c.loop-text.text-index c.text-item.result c.loop-text.found c.in-Err.e
    c.loop-text-test.true c.text-item.is c.loop-text.invariant
    (subst (λ t. ReadsAxioms here (t ∷ []) next (Err c.in-Err.e)) c.as_slice.ensures c.in-Err.ensures)

pub returns-then-is_err : goal.returns-then-is_err
returns-then-is_err c =
    let here : Progress = progress c.loop-text.tally c.loop-text.symbols in
    let next : Progress = progress c.axiom.new.tally c.axiom.new.symbols in
    reaches_break (List ℕ) Axiom ReadsAxioms axioms_joins (progress c.args.tally.now c.args.symbols.now) here next c.args.texts.now c.loop-text.text-index c.text-item.result c.in-Ok.a c.loop-text.found c.loop-text.invariant
    (subst (λ t. ReadsAxioms here (t ∷ []) next (Ok (c.in-Ok.a ∷ []))) c.as_slice.ensures c.in-Ok.ensures)

pub returns : goal.returns
returns c =
    reaches_end (List ℕ) Axiom ReadsAxioms axioms_joins (progress c.args.tally.now c.args.symbols.now) (progress c.loop-text.tally c.loop-text.symbols) c.args.texts.now c.loop-text.text-index c.loop-text.found
    (omega (arith, c.loop-text-test.false)) c.loop-text.invariant
