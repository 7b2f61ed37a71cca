use Rattle.std.proofs.Common.{map, Ok, subst}
use Rattle.dd_cert.specs.Derivations.{concept, pieces_of_why}
use Rattle.dd_cert.specs.Steps.{Passes}
use Rattle.dd_cert.proofs.Stopping.{passes-then}
use Rattle.dd_cert.proofs.line_texts.pass_line.Goals as goal

pub returns-clause-passes : goal.returns-clause-passes
returns-clause-passes c =
    passes-then c.args.place c.in_ok-next.next (map concept c.args.line.now.label) (pieces_of_why c.args.line.now.why) c.pass_why.result
    (subst (λ ts. Passes c.args.place (map concept ts) (Ok c.in_ok-next.next)) c.as_slice.ensures c.in_ok-next.ensures.passes) c.pass_why.ensures.passes
