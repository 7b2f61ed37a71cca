use Rattle.std.proofs.Common.{◌≡◌, rules, false}
use Rattle.serde_json.specs.View.{view}
use Rattle.serde_json.specs.Written.{has_float}
use Rattle.dd_wire.proofs.Floats.{no_float}
use Rattle.dd_wire.proofs.print.print_reply.Goals as goal

pub returns : goal.returns
returns c =
    let none : has_float (view c.in_ok-value.value) ≡ false = rw c.in_ok-value.ensures (no_float c.args.reply.now c.requires) in
    search (rules, none)
