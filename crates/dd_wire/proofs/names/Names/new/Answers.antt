use Rattle.std.proofs.Common.{◌≡◌, ◌∙◌, ◌<◌, ap, sym, subst, length, get_or, List, ℕ, arith}
use Rattle.std.proofs.lemmas.List.{take_all}
use Rattle.dd_text.specs.Symbols.{SymbolLists, with_text}
use Rattle.dd_wire.proofs.Distinct.{next_name}
use Rattle.dd_wire.proofs.Joining.{on_ok}
use Rattle.dd_wire.proofs.names.Names.new.Goals as goal

pub loop-name-preserved : goal.loop-name-preserved
loop-name-preserved c =
    let names = c.args.names.now in
    let i = c.loop-name.name-index in
    let x = c.name-item.result in
    let s : SymbolLists = c.loop-name.texts in
    let items_are = c.as_slice-name-items.ensures in
    let short : i < length names = subst (λ (l : List (List ℕ)). i < length l) items_are c.loop-name-test.true in
    let is : x ≡ get_or names i x = subst (λ (l : List (List ℕ)). x ≡ get_or l i x) items_are c.name-item.is in
    let added : c.add_name.new.self ≡ record s { names = with_text s.names c.as_slice.result.now } =
    on_ok c.add_name.result (c.add_name.new.self ≡ record s { names = with_text s.names c.as_slice.result.now }) (sym c.is_err.ensures.value ∙ c.if-is_err.false) c.add_name.ensures.symbols in
    next_name names s.names c.add_name.new.self.names i x c.as_slice.result.now c.requires short is c.as_slice.ensures c.loop-name.invariant (ap (λ (t : SymbolLists). t.names) added)

pub returns : goal.returns
returns c =
    c.loop-name.invariant
    ∙ take_all c.loop-name.name-index c.args.names.now (omega (arith, c.loop-name-test.false, ap (λ (l : List (List ℕ)). length l) c.as_slice-name-items.ensures))
