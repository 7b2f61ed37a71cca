use Rattle.std.proofs.Common.{sym, ◌∙◌, arith}
use Rattle.std.proofs.lemmas.Bool.{false≢true}
use Rattle.dd_cert.specs.Derivations.{name}
use Rattle.dd_cert.proofs.Stopping.{text-stops}
use Rattle.dd_cert.proofs.line_texts.pass_name.Goals as goal

pub returns-else-is_name : goal.returns-else-is_name
returns-else-is_name c =
    text-stops c.args.place (name c.args.text.now) (omega (arith, c.ranges.place.fits)) (λ is. false≢true (sym c.if-is_name.false ∙ c.is_name.ensures ∙ is))
