use Rattle.std.proofs.Common.{◌≡◌, ◌∙◌, ◌+◌, ap, sym, arith, true, length}
use Rattle.std.proofs.lemmas.Bool.{false≢true}
use Rattle.std.proofs.lemmas.List.{length-map}
use Rattle.dd_text.specs.Names.{names_a_thing}
use Rattle.dd_text.specs.Symbols.{SymbolLists, symbol_count, texts_of}
use Rattle.dd_text.proofs.Numbering.{told-named}
use Rattle.dd_text.proofs.symbols.Symbols.add_name.Goals as goal

pub returns-clause-bad : goal.returns-clause-bad
returns-clause-bad c =
    let named : names_a_thing c.args.text.now ≡ true = cc in
    (λ e. absurd (c.add_text.ensures.not_bad e), λ h. absurd (false≢true (sym h ∙ named)))

pub returns-clause-full : goal.returns-clause-full
returns-clause-full c =
    let s = c.self.inside in
    let named : names_a_thing c.args.text.now ≡ true = cc in
    let same : length c.deref_mut.result.now.keys ≡ length s.names.value.keys = cc c.deref_mut.ensures.value in
    let others : length c.deref.result.now.keys ≡ length s.roles.value.keys = cc c.deref.ensures in
    let count : length c.deref_mut.result.now.keys + c.len-others.result ≡ symbol_count c.args.self.now =
    (omega (arith, same, others, c.len-others.ensures.len, length-map s.names.value.keys (λ v. v.items), length-map s.roles.value.keys (λ v. v.items))) ∙ ap symbol_count c.self.view_is in
    told-named c.args.text.now _ _ _ _ named count (ap (λ set. texts_of set.keys) c.deref_mut.ensures.value ∙ ap (λ (l : SymbolLists). l.names) c.self.view_is) c.add_text.ensures.full
