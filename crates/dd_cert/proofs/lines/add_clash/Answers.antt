use Rattle.dd_cert.proofs.LinesBuilt.{clash-built}
use Rattle.dd_cert.proofs.lines.add_clash.Goals as goal

pub returns-in-Ok-clause-why : goal.returns-in-Ok-clause-why
returns-in-Ok-clause-why c =
    clash-built c.args.symbols.now c.add_name.new.self c.args.text.now c.in-Ok.name c.requires c.in-Ok.ensures.symbols c.in-Ok.ensures.number
