use Rattle.std.proofs.Common.{◌∙◌, sym, ap, length, length-drop, arith, not}
use Rattle.std.proofs.lemmas.Bool.{false≢true}
use Rattle.dd_text.proofs.PartReads.{not_false, bad-concept, whole-from}
use Rattle.dd_text.proofs.parts.scan_whole.Goals as goal

pub returns-then-not-scanned-clause-err : goal.returns-then-not-scanned-clause-err
returns-then-not-scanned-clause-err c =
    bad-concept c.args.text.now c.in-Ok.scanned c.in-Ok.ensures (λ whole _. absurd (false≢true (sym (ap not whole) ∙ c.if-not-scanned.true)))

pub returns-then-scanned-text-clause-err : goal.returns-then-scanned-text-clause-err
returns-then-scanned-text-clause-err c =
    let text = c.args.text.now in
    let r = c.in-Ok.scanned in
    bad-concept text r c.in-Ok.ensures (λ _ none. omega (arith, ap length (c.in-Ok.ensures.rest ∙ none), length-drop r.read text))

pub returns-clause-ok : goal.returns-clause-ok
returns-clause-ok c =
    whole-from c.args.text.now c.in-Ok.scanned c.in-Ok.ensures (not_false c.in-Ok.scanned.whole c.if-not-scanned.false) (omega arith)
