use Rattle.std.proofs.Common.{◌∙◌, ap}
use Rattle.serde_json.specs.Written.{has_float}
use Rattle.dd_server.proofs.NoFloats.{cert-none}
use Rattle.dd_server.proofs.reply.decided.Goals as goal

pub returns-in-Ok-clause-printable : goal.returns-in-Ok-clause-printable
returns-in-Ok-clause-printable c = ap has_float c.in-Ok.ensures ∙ cert-none c.args.symbols.now c.args.answer.now
