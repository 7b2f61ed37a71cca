use Rattle.std.proofs.Common.{◌≡◌, ◌+◌, sym, ap, ◌∙◌, rules}
use Rattle.std.specs.Prelude.{codes}
use Rattle.dd_json.specs.Members.{presence, sized}
use Rattle.serde_json.specs.View.{view}
use Rattle.dd_wire.proofs.FormParts.{put_found, put_of_other_size, put_without_axioms, put_without_peer, put_without_rules}
use Rattle.dd_wire.proofs.form.put.Goals as goal

pub returns-in_err-wants_members : goal.returns-in_err-wants_members
returns-in_err-wants_members c = search (rules, put_of_other_size (view c.args.value.now))

pub returns-in_err-peer : goal.returns-in_err-peer
returns-in_err-peer c = search (rules, put_without_peer (view c.args.value.now))

pub returns-in_err-axioms : goal.returns-in_err-axioms
returns-in_err-axioms c = search (rules, put_without_axioms (view c.args.value.now))

pub returns-in_err-into : goal.returns-in_err-into
returns-in_err-into c = search (rules, put_without_rules (view c.args.value.now))

pub returns : goal.returns
returns c =
    let d = view c.args.value.now in
    let counted : 2 + c.count_of.result + c.count_of-2.result + c.count_of-3.result ≡ 2 + presence (codes "axioms") d + presence (codes "into") d + presence (codes "onto") d =
    cc (c.count_of.ensures, c.count_of-2.ensures, c.count_of-3.ensures) in
    put_found d c.in_ok-peer.peer c.in_ok-axioms.axioms (c.in_ok-into.into, c.in_ok-into.onto) c.in_ok-wants_members.field-0
    (sym (ap (λ n. sized n d) counted) ∙ c.in_ok-wants_members.ensures.gives) c.in_ok-peer.ensures c.in_ok-axioms.ensures c.in_ok-into.ensures
