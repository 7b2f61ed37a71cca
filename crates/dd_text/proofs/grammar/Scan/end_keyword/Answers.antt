use Rattle.dd_text.proofs.Steps.{end_stays, is_not, stays}
use Rattle.dd_text.proofs.grammar.Scan.end_keyword.Goals as goal

pub returns : goal.returns
returns c =
    let s = c.args.self.now in
    let word = c.as_slice-word.ensures in
    stays _ s
    (end_stays s (is_not _ word c.is_word.ensures c.if-is_word.false) (is_not _ word c.is_word-2.ensures c.if-is_word-2.false) (is_not _ word c.is_word-3.ensures c.if-is_word-3.false)
    (is_not _ word c.is_word-4.ensures c.if-is_word-4.false) (is_not _ word c.is_word-5.ensures c.if-is_word-5.false))
