use Rattle.std.proofs.Common.{◌≡◌, ◌∙◌, sym, subst, arith, [], ◌∷◌, ◌++◌}
use Rattle.std.specs.Option.{option_copied}
use Rattle.dd_peer.specs.declared.version.Rule.{Rule}
use Rattle.dd_wire.specs.declared.form.RuleForm.{RuleForm}
use Rattle.dd_wire.specs.Requests.{declared_names}
use Rattle.dd_wire.specs.Progress.{Progress, progress, ReadsRules}
use Rattle.dd_wire.proofs.Joining.{rules_joins, on_ok, reaches_break, reaches_end, reaches_failure, reaches_next, reaches_start, Reaches}
use Rattle.dd_wire.proofs.texts.rules.Goals as goal

pub loop-form-init : goal.loop-form-init
loop-form-init c =
    let start : Progress = progress c.args.tally.now c.args.symbols.now in
    subst (Reaches RuleForm Rule (ReadsRules (declared_names (option_copied c.args.names))) start c.args.forms.now start 0) (sym c.new-found.ensures) (reaches_start RuleForm Rule (ReadsRules (declared_names (option_copied c.args.names))) (rules_joins (declared_names (option_copied c.args.names))) start c.args.forms.now)

pub loop-form-preserved : goal.loop-form-preserved
loop-form-preserved c =
    let here : Progress = progress c.loop-form.tally c.loop-form.symbols in
    let next : Progress = progress c.rule.new.tally c.rule.new.symbols in
    reaches_next RuleForm Rule (ReadsRules (declared_names (option_copied c.args.names))) (rules_joins (declared_names (option_copied c.args.names))) (progress c.args.tally.now c.args.symbols.now) here next c.args.forms.now c.loop-form.form-index c.form-item.result c.in-Ok.r c.loop-form.found c.push.new.self
    c.loop-form-test.true c.form-item.is c.loop-form.invariant
    c.in-Ok.ensures
    (on_ok c.push.result (c.push.new.self ≡ c.loop-form.found ++ c.in-Ok.r ∷ []) (sym c.is_err.ensures.value ∙ c.if-is_err.false) c.push.ensures.ok)

pub returns-in-Err : goal.returns-in-Err
returns-in-Err c =
    let here : Progress = progress c.loop-form.tally c.loop-form.symbols in
    let next : Progress = progress c.rule.new.tally c.rule.new.symbols in
    reaches_failure RuleForm Rule (ReadsRules (declared_names (option_copied c.args.names))) (rules_joins (declared_names (option_copied c.args.names))) (progress c.args.tally.now c.args.symbols.now) here next c.args.forms.now c.loop-form.form-index c.form-item.result c.loop-form.found c.in-Err.e
    c.loop-form-test.true c.form-item.is c.loop-form.invariant
    c.in-Err.ensures

pub returns-then-is_err : goal.returns-then-is_err
returns-then-is_err c =
    let here : Progress = progress c.loop-form.tally c.loop-form.symbols in
    let next : Progress = progress c.rule.new.tally c.rule.new.symbols in
    reaches_break RuleForm Rule (ReadsRules (declared_names (option_copied c.args.names))) (rules_joins (declared_names (option_copied c.args.names))) (progress c.args.tally.now c.args.symbols.now) here next c.args.forms.now c.loop-form.form-index c.form-item.result c.in-Ok.r c.loop-form.found c.loop-form.invariant
    c.in-Ok.ensures

pub returns : goal.returns
returns c =
    reaches_end RuleForm Rule (ReadsRules (declared_names (option_copied c.args.names))) (rules_joins (declared_names (option_copied c.args.names))) (progress c.args.tally.now c.args.symbols.now) (progress c.loop-form.tally c.loop-form.symbols) c.args.forms.now c.loop-form.form-index c.loop-form.found
    (omega (arith, c.loop-form-test.false)) c.loop-form.invariant
