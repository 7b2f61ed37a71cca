use Rattle.std.proofs.Common.{◌≡◌, ◌∙◌, suc, sym, ap, length, length-drop, arith, drop, ◌∷◌, get_or, not}
use Rattle.std.proofs.lemmas.Bool.{false≢true}
use Rattle.std.proofs.Math.Seq.{drop-cons}
use Rattle.dd_text.proofs.PartReads.{not_false, leaves-from, before-from}
use Rattle.dd_text.proofs.parts.scan_before.Goals as goal

pub returns-then-not-scanned-clause-err : goal.returns-then-not-scanned-clause-err
returns-then-not-scanned-clause-err c =
    leaves-from c.args.text.now c.in-Ok.scanned c.in-Ok.ensures c.args.end c.requires (λ whole _ _. absurd (false≢true (sym (ap not whole) ∙ c.if-not-scanned.true)))

pub returns-then-read-text-clause-err : goal.returns-then-read-text-clause-err
returns-then-read-text-clause-err c =
    let text = c.args.text.now in
    let r = c.in-Ok.scanned in
    leaves-from text r c.in-Ok.ensures c.args.end c.requires (λ _ bs some. omega (arith, ap length (c.in-Ok.ensures.rest ∙ some), length-drop r.read text))

pub returns-then-text-read-clause-err : goal.returns-then-text-read-clause-err
returns-then-text-read-clause-err c =
    let text = c.args.text.now in
    let r = c.in-Ok.scanned in
    leaves-from text r c.in-Ok.ensures c.args.end c.requires (λ _ bs some.
    let both : get_or text r.read 0 ∷ drop (suc r.read) text ≡ c.args.end ∷ bs = sym (drop-cons text r.read 0 (omega (arith, ap length (c.in-Ok.ensures.rest ∙ some), length-drop r.read text))) ∙ c.in-Ok.ensures.rest ∙ some in
    let same : get_or text r.read 0 ≡ c.args.end = cc in
    c.if-text-read.true same)

pub returns-clause-ok : goal.returns-clause-ok
returns-clause-ok c =
    before-from c.args.text.now c.in-Ok.scanned c.in-Ok.ensures c.args.end c.requires (not_false c.in-Ok.scanned.whole c.if-not-scanned.false) (omega (arith, c.in-Ok.ensures.within)) c.if-text-read.false
