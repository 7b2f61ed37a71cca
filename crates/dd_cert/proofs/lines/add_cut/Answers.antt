use Rattle.std.proofs.Common.{Err, ap, refl}
use Rattle.dd_cert.proofs.LinesBuilt.{added-same, cut-built, cut-full}
use Rattle.dd_cert.proofs.lines.add_cut.Goals as goal

pub returns-in-Ok-clause-why : goal.returns-in-Ok-clause-why
returns-in-Ok-clause-why c =
    cut-built c.args.symbols.now c.add_concept.new.symbols c.args.text.now c.in-Ok.on c.args.yes c.args.no c.args.yes c.args.no refl refl c.in-Ok.ensures.concept

pub returns-in-Err-clause-full : goal.returns-in-Err-clause-full
returns-in-Err-clause-full c full = cut-full c.args.symbols.now c.args.text.now c.args.yes c.args.no (c.in-Err.ensures.full (ap Err (added-same c.in-Err.e full)))
