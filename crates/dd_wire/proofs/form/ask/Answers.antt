use Rattle.std.proofs.Common.{rules}
use Rattle.serde_json.specs.View.{view}
use Rattle.dd_wire.proofs.FormParts.{ask_found, ask_without_budgets, ask_without_texts}
use Rattle.dd_wire.proofs.form.ask.Goals as goal

pub returns-in_err-expansions : goal.returns-in_err-expansions
returns-in_err-expansions c = search (rules, ask_without_budgets (view c.args.value.now))

pub returns-in_err-peer : goal.returns-in_err-peer
returns-in_err-peer c = search (rules, ask_without_texts (view c.args.value.now))

pub returns : goal.returns
returns c =
    ask_found (view c.args.value.now) (c.in_ok-peer.peer, c.in_ok-peer.left, c.in_ok-peer.right) (c.in_ok-expansions.expansions, c.in_ok-expansions.verdicts)
    c.in_ok-expansions.ensures c.in_ok-peer.ensures
