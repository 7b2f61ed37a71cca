use Rattle.std.proofs.Common.{◌≡◌, ◌∙◌, ◌∷◌, [], ap, sym, arith, length}
use Rattle.std.specs.Prelude.{Err}
use Rattle.dd_text.specs.declared.build.BuildErr.TheVariants.{SymbolsFull}
use Rattle.std.specs.List.{list_all}
use Rattle.dd_text.specs.Symbols.{symbol_count}
use Rattle.dd_text.specs.Text.{concept_of}
use Rattle.dd_text.specs.Build.{built, is_sign, with_signs}
use Rattle.dd_text.proofs.Building.{are-signs, built-whole, first_of, with_signs-whole}
use Rattle.dd_text.proofs.build.build_concept.Goals as goal

pub add_signs-requires : goal.add_signs-requires
add_signs-requires c =
    let term = c.requires.term in
    ap (list_all is_sign) (c.as_slice-nodes.ensures ∙ term.signs_are) ∙ are-signs term.term term.written

pub returns-in-Err-clause-full : goal.returns-in-Err-clause-full
returns-in-Err-clause-full c e t is =
    let full = c.in-Err.ensures.full (ap Err (let same : c.in-Err.e ≡ SymbolsFull = cc in same)) in
    omega (arith, full, ap symbol_count (ap (with_signs c.args.symbols.now) (c.as_slice-nodes.ensures ∙ is) ∙ with_signs-whole c.args.symbols.now t))

pub unreachable-requires : goal.unreachable-requires
unreachable-requires c =
    let term = c.requires.term in
    let s = c.add_signs.new.symbols in
    let some : [] ≡ concept_of s term.term ∷ [] =
    sym c.in-None.ensures.0 ∙ c.in-Ok.ensures ∙ ap (λ l. built s l []) (c.as_slice-nodes.ensures ∙ term.signs_are) ∙ built-whole s term.term in
    omega (arith, ap length some)

pub returns-clause-symbols : goal.returns-clause-symbols
returns-clause-symbols c t is =
    c.in_default.ensures.ok ∙ ap (with_signs c.args.symbols.now) (c.as_slice-nodes.ensures ∙ is) ∙ with_signs-whole c.args.symbols.now t

pub returns-clause-concept : goal.returns-clause-concept
returns-clause-concept c t is =
    let s = c.add_signs.new.symbols in
    let both : c.in-Some.c ∷ c.pop.new.self ≡ concept_of s t ∷ [] =
    sym c.in-Some.ensures ∙ c.in-Ok.ensures ∙ ap (λ l. built s l []) (c.as_slice-nodes.ensures ∙ is) ∙ built-whole s t in
    ap (first_of c.in-Some.c) both
