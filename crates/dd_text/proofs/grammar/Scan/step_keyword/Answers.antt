use Rattle.std.proofs.Common.{◌≡◌, true, false}
use Rattle.dd_text.specs.Automaton.{continues_keyword}
use Rattle.dd_text.proofs.Steps.{goes, keyword_goes, keyword_stays, stays}
use Rattle.dd_text.proofs.grammar.Scan.step_keyword.Goals as goal

pub returns-then-not-may_extend_keyword : goal.returns-then-not-may_extend_keyword
returns-then-not-may_extend_keyword c =
    let s = c.args.self.now in
    let short : continues_keyword s.word c.args.byte ≡ false = cc in
    stays _ s (keyword_stays s c.args.byte c.if-byte-eq32.false short)

pub returns : goal.returns
returns c =
    let s = c.args.self.now in
    let long : continues_keyword s.word c.args.byte ≡ true = cc in
    goes _ _ s _ (keyword_goes s c.args.byte c.if-byte-eq32.false long) c.in_ok-add_byte.ensures
