use Rattle.std.proofs.Common.{◌≡◌, ◌∙◌, ap, arith, length, sym, take, true}
use Rattle.std.proofs.lemmas.List.{take-map}
use Rattle.dd_text.specs.Symbols.{SymbolLists, are_names, texts_of}
use Rattle.dd_text.proofs.Numbering.{are_names-take}
use Rattle.dd_text.proofs.symbols.Symbols.back.Goals as goal
use Rattle.dd_text.proofs.symbols.Symbols.back.Goals.{After-self-2-1}

cut_names : (c : After-self-2-1) → texts_of c.truncate.new.self.keys ≡ take c.args.m.names (texts_of c.self.inside.names.value.keys)
cut_names c = ap texts_of c.truncate.ensures.keys ∙ ap (λ set. texts_of (take c.args.m.names set.keys)) c.deref_mut.ensures.value ∙ sym (take-map (λ v. v.items) c.args.m.names c.self.inside.names.value.keys)

cut_roles : (c : After-self-2-1) → texts_of c.truncate-2.new.self.keys ≡ take c.args.m.roles (texts_of c.self.inside.roles.value.keys)
cut_roles c = ap texts_of c.truncate-2.ensures.keys ∙ ap (λ set. texts_of (take c.args.m.roles set.keys)) c.deref_mut-2.ensures.value ∙ sym (take-map (λ v. v.items) c.args.m.roles c.self.inside.roles.value.keys)

pub returns-clause-names : goal.returns-clause-names
returns-clause-names c = cut_names c ∙ ap (λ (s : SymbolLists). take c.args.m.names s.names) c.self.view_is

pub returns-clause-roles : goal.returns-clause-roles
returns-clause-roles c = cut_roles c ∙ ap (λ (s : SymbolLists). take c.args.m.roles s.roles) c.self.view_is

pub invariant_of-self : goal.invariant_of-self
invariant_of-self c =
    let names_stay : are_names (texts_of c.truncate.new.self.keys) ≡ true = ap are_names (cut_names c) ∙ are_names-take c.args.m.names (texts_of c.self.inside.names.value.keys) c.self.invariant.3 in
    let roles_stay : are_names (texts_of c.truncate-2.new.self.keys) ≡ true = ap are_names (cut_roles c) ∙ are_names-take c.args.m.roles (texts_of c.self.inside.roles.value.keys) c.self.invariant.4 in
    let names : length c.deref_mut.result.now.keys ≡ length c.self.inside.names.value.keys = cc c.deref_mut.ensures.value in
    let roles : length c.deref_mut-2.result.now.keys ≡ length c.self.inside.roles.value.keys = cc c.deref_mut-2.ensures.value in
    (omega (arith, c.self.invariant.0, c.truncate.ensures.len, c.truncate-2.ensures.len, names, roles), c.truncate.ensures.unique, c.truncate-2.ensures.unique, names_stay, roles_stay)
