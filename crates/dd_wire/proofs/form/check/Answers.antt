use Rattle.std.proofs.Common.{Some, sym, ap, ◌∙◌, rules}
use Rattle.serde_json.specs.View.{view}
use Rattle.dd_wire.proofs.FormParts.{check_found, check_of_other_size, check_without_cert, check_without_pin, check_without_texts}
use Rattle.dd_wire.proofs.form.check.Goals as goal

pub returns-in_err-wants_members : goal.returns-in_err-wants_members
returns-in_err-wants_members c = search (rules, check_of_other_size (view c.args.value.now))

pub returns-in_err-pin : goal.returns-in_err-pin
returns-in_err-pin c = search (rules, check_without_pin (view c.args.value.now))

pub returns-in_err-peer : goal.returns-in_err-peer
returns-in_err-peer c = search (rules, check_without_texts (view c.args.value.now))

pub returns-in-Some : goal.returns-in-Some
returns-in-Some c =
    check_found (view c.args.value.now) (c.in_ok-peer.peer, c.in_ok-peer.left, c.in_ok-peer.right) c.in_ok-pin.pin c.in_ok-wants_members.field-0 (view c.take.result)
    c.in_ok-wants_members.ensures.gives c.in_ok-pin.ensures c.in_ok-peer.ensures (sym c.in-Some.ensures ∙ ap (λ v. Some (view v)) (sym c.take.ensures.taken))

pub returns-in-None : goal.returns-in-None
returns-in-None c = check_without_cert (view c.args.value.now) (sym c.in-None.ensures)
