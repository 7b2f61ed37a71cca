use Rattle.std.proofs.Common.{subst, arith, ◌∷◌, [], sym}
use Rattle.dd_text.specs.Reads.{ReadsConcept, cert_limits}
use Rattle.dd_cert.specs.Derivations.{concept}
use Rattle.dd_cert.specs.Steps.{Passes}
use Rattle.dd_cert.proofs.Stopping.{concept-read, is-not-full}
use Rattle.dd_cert.proofs.line_texts.pass_concept.Goals as goal

pub passed-requires : goal.passed-requires
passed-requires c = is-not-full c.args.text.now c.read_concept-read.new.symbols c.read_concept-read.result
    (subst (λ s. ReadsConcept s cert_limits c.args.text.now c.read_concept-read.new.symbols c.read_concept-read.result) c.requires c.read_concept-read.ensures.reads)

pub returns-clause-passes : goal.returns-clause-passes
returns-clause-passes c = subst (Passes c.args.place (concept c.args.text.now ∷ [])) (sym c.passed.ensures)
    (concept-read c.args.place c.args.text.now c.read_concept-read.new.symbols c.read_concept-read.result (omega (arith, c.ranges.place.fits))
    (subst (λ s. ReadsConcept s cert_limits c.args.text.now c.read_concept-read.new.symbols c.read_concept-read.result) c.requires c.read_concept-read.ensures.reads))
