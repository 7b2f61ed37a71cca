use Rattle.std.proofs.Common.{◌≡◌, ◌+◌, List, [], ◌∷◌, ◌++◌, drop, None, Some, Option, refl, sym, ap, ◌∙◌, append_assoc}
use Rattle.std.specs.Prelude.{option_map}
use Rattle.std.proofs.lemmas.List.{append-nil, drop_all, drop_more}
use Rattle.serde_json.specs.View.{view, items_view}
use Rattle.serde_json.specs.declared.value.Value.{Value}
use Rattle.dd_json.specs.Members.{◌>>=◌}
use Rattle.dd_wire.specs.declared.form.RuleForm.{RuleForm}
use Rattle.dd_wire.specs.Forms.{rule_of, rules_of}
use Rattle.dd_wire.proofs.form.all_rules.Goals as goal

-- the rules so far, with those of the values that are left
abbrev with_rest : List RuleForm → List Value → Option (List RuleForm)
with_rest found vs = rules_of (items_view vs) >>= λ rs. Some (found ++ rs)

none_before : (o : Option (List RuleForm)) → (o >>= λ rs. Some ([] ++ rs)) ≡ o
none_before None = refl
none_before (Some rs) = refl

one_found : (o : Option (List RuleForm)) (found : List RuleForm) (r : RuleForm) → (o >>= λ rs. Some ((found ++ r ∷ []) ++ rs)) ≡ (option_map (λ rs. r ∷ rs) o >>= λ rs. Some (found ++ rs))
one_found None found r = refl
one_found (Some rs) found r = ap Some (append_assoc found (r ∷ []) rs)

next : (found : List RuleForm) (v : Value) (r : RuleForm) (vs : List Value) → rule_of (view v) ≡ Some r → with_rest (found ++ r ∷ []) vs ≡ with_rest found (v ∷ vs)
next found v r vs is = one_found (rules_of (items_view vs)) found r ∙ rw is

pub loop-value-init : goal.loop-value-init
loop-value-init c = rw c.new-found.ensures (none_before (rules_of (items_view c.args.list.now)))

pub loop-value-preserved : goal.loop-value-preserved
loop-value-preserved c =
    let list = c.args.list.now in
    let i = c.loop-value.value-index in
    let x = c.value-item.result in
    let split : drop i list ≡ x ∷ drop (i + 1) list = drop_more list i x c.loop-value-test.true ∙ ap (λ y. y ∷ drop (i + 1) list) (sym c.value-item.is) in
    ap (λ found. with_rest found (drop (i + 1) list)) c.in_ok-push.ensures.ok
    ∙ next c.loop-value.found x c.in_ok-rule.field-0 (drop (i + 1) list) c.in_ok-rule.ensures
    ∙ ap (with_rest c.loop-value.found) (sym split)
    ∙ c.loop-value.invariant

pub returns : goal.returns
returns c =
    sym c.loop-value.invariant
    ∙ ap (with_rest c.loop-value.found) (drop_all c.loop-value.value-index c.args.list.now c.loop-value-test.false)
    ∙ ap Some (append-nil c.loop-value.found)
