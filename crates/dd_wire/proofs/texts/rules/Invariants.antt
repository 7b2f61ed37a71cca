-- Whatever may be read of the rest completes what was read.
use Rattle.std.specs.Option.{option_copied}
use Rattle.dd_peer.specs.declared.version.Rule.{Rule}
use Rattle.dd_wire.specs.declared.form.RuleForm.{RuleForm}
use Rattle.dd_wire.specs.Requests.{declared_names}
use Rattle.dd_wire.specs.Progress.{progress, ReadsRules}
use Rattle.dd_wire.proofs.Joining.{Reaches}
use Rattle.dd_wire.proofs.texts.rules.Given as goal

abbrev pub invariant-loop-form : goal.invariant-loop-form
invariant-loop-form l = Reaches RuleForm Rule (ReadsRules (declared_names (option_copied l.names))) (progress l.initial.tally l.initial.symbols) l.forms (progress l.tally l.symbols) l.form-index l.found
