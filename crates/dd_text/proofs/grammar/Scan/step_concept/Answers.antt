use Rattle.std.proofs.Common.{◌≡◌, false}
use Rattle.dd_text.specs.Automaton.{extends}
use Rattle.dd_text.proofs.Steps.{stays, concept_stays}
use Rattle.dd_text.proofs.grammar.Scan.step_concept.Goals as goal

pub returns : goal.returns
returns c =
    let s = c.args.self.now in
    let short : extends s.word c.args.byte ≡ false = cc in
    stays _ s (concept_stays s c.args.byte c.if-byte-eq40.false short)
