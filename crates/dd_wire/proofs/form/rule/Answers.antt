use Rattle.std.proofs.Common.{rules}
use Rattle.serde_json.specs.View.{view}
use Rattle.dd_wire.proofs.FormParts.{rule_found, rule_of_other_size, rule_without_texts}
use Rattle.dd_wire.proofs.form.rule.Goals as goal

pub returns-in_err-wants_members : goal.returns-in_err-wants_members
returns-in_err-wants_members c = search (rules, rule_of_other_size (view c.args.value.now))

pub returns-in_err-from : goal.returns-in_err-from
returns-in_err-from c = search (rules, rule_without_texts (view c.args.value.now))

pub returns : goal.returns
returns c = rule_found (view c.args.value.now) (c.in_ok-from.from, c.in_ok-from.source, c.in_ok-from.target) c.in_ok-wants_members.field-0 c.in_ok-wants_members.ensures.gives c.in_ok-from.ensures
