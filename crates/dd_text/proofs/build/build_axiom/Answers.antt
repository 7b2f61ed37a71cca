use Rattle.std.proofs.Common.{◌≡◌, ◌∙◌, ◌<◌, ap, sym, subst, arith}
use Rattle.std.specs.Prelude.{Err}
use Rattle.dd_concept.specs.declared.concept.Concept.{Concept}
use Rattle.dd_concept.specs.declared.concept.Axiom.{Axiom}
use Rattle.dd_text.specs.Symbols.{symbol_count}
use Rattle.dd_text.specs.Text.{concept_of, with_term}
use Rattle.dd_text.specs.declared.build.BuildErr.TheVariants.{SymbolsFull}
use Rattle.dd_text.proofs.Building.{Grows-trans, Grows-with_term, symbol_count-Grows}
use Rattle.dd_text.proofs.Restoring.{concept_of-with_term}
use Rattle.dd_text.proofs.build.build_axiom.Goals as goal

pub returns-in-Err-clause-full : goal.returns-in-Err-clause-full
returns-in-Err-clause-full c e l r hl hr =
    let s = c.args.symbols.now in
    let same : c.in-Err.e ≡ SymbolsFull = cc in
    omega (arith, c.in-Err.ensures.full (ap Err same) l hl, symbol_count-Grows (with_term s l) (with_term (with_term s l) r) (Grows-with_term (with_term s l) r))

pub returns-in-Err-build_concept-clause-full : goal.returns-in-Err-build_concept-clause-full
returns-in-Err-build_concept-clause-full c e l r hl hr =
    let same : c.in-Err-build_concept.e ≡ SymbolsFull = cc in
    subst (λ t. 65536 < symbol_count (with_term t r)) (c.in-Ok.ensures.symbols l hl) (c.in-Err-build_concept.ensures.full (ap Err same) r hr)

pub returns-in-Err-build_concept-clause-grows : goal.returns-in-Err-build_concept-clause-grows
returns-in-Err-build_concept-clause-grows c =
    Grows-trans c.args.symbols.now c.build_concept.new.symbols c.build_concept-2.new.symbols c.in-Ok.ensures.grows c.in-Err-build_concept.ensures.grows

pub returns-clause-symbols : goal.returns-clause-symbols
returns-clause-symbols c l r hl hr = c.in-Ok-build_concept.ensures.symbols r hr ∙ ap (λ t. with_term t r) (c.in-Ok.ensures.symbols l hl)

pub returns-clause-grows : goal.returns-clause-grows
returns-clause-grows c =
    Grows-trans c.args.symbols.now c.build_concept.new.symbols c.build_concept-2.new.symbols c.in-Ok.ensures.grows c.in-Ok-build_concept.ensures.grows

abbrev axiom_from : Concept → Concept → Axiom
axiom_from left right = record { left = left; right = right }

pub returns-clause-sides : goal.returns-clause-sides
returns-clause-sides c l r hl hr =
    let s = c.args.symbols.now in
    let first_is = c.in-Ok.ensures.symbols l hl in
    let second_is : c.build_concept-2.new.symbols ≡ with_term (with_term s l) r = c.in-Ok-build_concept.ensures.symbols r hr ∙ ap (λ t. with_term t r) first_is in
    let left : c.in-Ok.c ≡ concept_of c.build_concept-2.new.symbols l =
    c.in-Ok.ensures.concept l hl ∙ ap (λ t. concept_of t l) first_is ∙ sym (concept_of-with_term s l r) ∙ ap (λ t. concept_of t l) (sym second_is) in
    ap (λ x. axiom_from x c.in-Ok-build_concept.c) left ∙ ap (axiom_from (concept_of c.build_concept-2.new.symbols l)) (c.in-Ok-build_concept.ensures.concept r hr)
