use Rattle.std.proofs.Common.{◌∙◌, ap, map, subst, sym}
use Rattle.dd_interp.specs.declared.interp.Interp.{Interp}
use Rattle.dd_interp.specs.Satisfies.{IsShaped}
use Rattle.dd_interp.specs.Union.{KeepsEach, raise_name, raise_role}
use Rattle.dd_interp.proofs.Results.{on_ok}
use Rattle.dd_interp.proofs.Unions.{united, union_is_shaped, union_keeps_each}
use Rattle.dd_interp.proofs.union.append.Goals as goal

pub returns-clause-shaped : goal.returns-clause-shaped
returns-clause-shaped c =
    let i : Interp = c.args.i.now in
    let j : Interp = c.args.other.now in
    let names = c.as_slice-3.ensures.value ∙ c.in_ok-names.ensures ∙ ap (map (raise_name i.size)) c.as_slice.ensures in
    let roles = c.as_slice-4.ensures.value ∙ c.in_ok-roles.ensures ∙ ap (map (raise_role i.size)) c.as_slice-2.ensures in
    on_ok c.extend.result (λ e. subst IsShaped (sym (e ∙ united i j _ _ names roles)) (union_is_shaped i j c.requires.shaped c.requires.other_shaped))
    c.extend.ensures.ok

pub returns-clause-kept : goal.returns-clause-kept
returns-clause-kept c =
    let i : Interp = c.args.i.now in
    let j : Interp = c.args.other.now in
    let names = c.as_slice-3.ensures.value ∙ c.in_ok-names.ensures ∙ ap (map (raise_name i.size)) c.as_slice.ensures in
    let roles = c.as_slice-4.ensures.value ∙ c.in_ok-roles.ensures ∙ ap (map (raise_role i.size)) c.as_slice-2.ensures in
    on_ok c.extend.result (λ e. subst (KeepsEach i j) (sym (e ∙ united i j _ _ names roles)) (union_keeps_each i j c.requires.shaped c.requires.other_shaped))
    c.extend.ensures.ok
