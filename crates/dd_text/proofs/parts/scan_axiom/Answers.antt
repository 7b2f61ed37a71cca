use Rattle.std.proofs.Common.{◌≡◌, ◌∙◌, ◌+◌, ◌≤◌, ℕ, List, [], ap, sym, subst, arith, drop, length, length-drop, ◌++◌}
use Rattle.std.proofs.lemmas.List.{append-nil, drop-drop}
use Rattle.std.proofs.Math.ListN.{drop_of_length-le}
use Rattle.dd_text.specs.Grammar.{IsBadAt, IsAxiomText, axiom_text}
use Rattle.dd_text.specs.Parts.{axiom_head, IsBefore, LeavesBefore, Leaves}
use Rattle.dd_text.proofs.AxiomReads.{head-fails, head-whole, left-fails, right-fails, end-fails, sides-length, sides-read}
use Rattle.dd_text.proofs.parts.scan_axiom.Goals as goal
use Rattle.dd_text.proofs.parts.scan_axiom.Goals.{Else-head-lt9, In-Ok, In-Ok-scan_before}

pub returns-then-head-lt9-clause-err : goal.returns-then-head-lt9-clause-err
returns-then-head-lt9-clause-err c =
    subst (λ n. IsBadAt IsAxiomText c.args.text.now (n + 1)) (sym c.head_len-head.ensures) (head-fails c.args.text.now (omega (arith, c.head_len-head.ensures)))

headed : (c : Else-head-lt9) → c.args.text.now ≡ axiom_head ++ drop 9 c.args.text.now
headed c = head-whole c.args.text.now (omega (arith, c.head_len-head.ensures))

first : (c : In-Ok) → IsBefore 32 (drop 9 c.args.text.now) c.in-Ok.left
first c = subst (λ l. IsBefore 32 l c.in-Ok.left) c.tail.ensures c.in-Ok.ensures.ok

first_within : (c : In-Ok) → c.in-Ok.left.read ≤ length (drop 9 c.args.text.now)
first_within c = subst (λ (l : List ℕ). c.in-Ok.left.read ≤ length l) c.tail.ensures c.in-Ok.ensures.within

second_tail : (c : In-Ok-scan_before) → c.tail-2.result.now ≡ drop c.in-Ok.left.read (drop 9 c.args.text.now)
second_tail c = c.tail-2.ensures ∙ sym (drop-drop c.in-Ok.left.read 9 c.args.text.now)

second : (c : In-Ok-scan_before) → IsBefore 41 (drop c.in-Ok.left.read (drop 9 c.args.text.now)) c.in-Ok-scan_before.right
second c = subst (λ l. IsBefore 41 l c.in-Ok-scan_before.right) (second_tail c) c.in-Ok-scan_before.ensures.ok

second_within : (c : In-Ok-scan_before) → c.in-Ok-scan_before.right.read ≤ length (drop c.in-Ok.left.read (drop 9 c.args.text.now))
second_within c = subst (λ (l : List ℕ). c.in-Ok-scan_before.right.read ≤ length l) (second_tail c) c.in-Ok-scan_before.ensures.within

pub returns-in-Err-Bad-clause-err : goal.returns-in-Err-Bad-clause-err
returns-in-Err-Bad-clause-err c =
    let text = c.args.text.now in
    let leaves : LeavesBefore 32 (drop 9 text) c.in-Err-Bad.field-0 = subst (λ l. LeavesBefore 32 l c.in-Err-Bad.field-0) c.tail.ensures c.in-Err-Bad.ensures.err in
    let told : Leaves 32 (drop 9 text) c.in-Err-Bad.at = subst (LeavesBefore 32 (drop 9 text)) c.in-Err-Bad.field-0-is leaves in
    subst (λ n. IsBadAt IsAxiomText text (9 + n)) (sym c.in-Err-Bad.at-is)
    (left-fails text c.in-Err-Bad.at (headed (goal.at.returns-in-Err-Bad-clause-err c).Else-head-lt9) told)

pub returns-in-Err-Bad-scan_before-clause-err : goal.returns-in-Err-Bad-scan_before-clause-err
returns-in-Err-Bad-scan_before-clause-err c =
    let text = c.args.text.now in
    let d = (goal.at.returns-in-Err-Bad-scan_before-clause-err c).In-Ok in
    let k = c.in-Ok.left.read in
    let left = first d in
    let tail_is = c.tail-2.ensures ∙ sym (drop-drop k 9 text) in
    let told : Leaves 41 (drop k (drop 9 text)) c.in-Err-Bad-scan_before.at =
    subst (LeavesBefore 41 (drop k (drop 9 text))) c.in-Err-Bad-scan_before.field-0-is (subst (λ l. LeavesBefore 41 l c.in-Err-Bad-scan_before.field-0) tail_is c.in-Err-Bad-scan_before.ensures.err) in
    right-fails text k c.in-Err-Bad-scan_before.at left.term left.written (headed (goal.at.returns-in-Err-Bad-scan_before-clause-err c).Else-head-lt9) (first_within d) left.text_is told

pub returns-then-end-text-clause-err : goal.returns-then-end-text-clause-err
returns-then-end-text-clause-err c =
    let text = c.args.text.now in
    let at = goal.at.returns-then-end-text-clause-err c in
    let k = c.in-Ok.left.read in
    let m = c.in-Ok-scan_before.right.read in
    let left = first at.In-Ok in
    let right = second at.In-Ok-scan_before in
    end-fails text (9 + k + m) left.term right.term (drop m (drop k (drop 9 text))) left.written right.written
    (sides-read text k m left.term right.term (headed at.Else-head-lt9) left.text_is right.text_is)
    (omega (arith, c.if-end-text.true, length-drop m (drop k (drop 9 text)), length-drop k (drop 9 text), length-drop 9 text))
    (sides-length text k m left.term right.term (first_within at.In-Ok) (second_within at.In-Ok-scan_before) left.text_is right.text_is)

pub returns-clause-ok : goal.returns-clause-ok
returns-clause-ok c =
    let text = c.args.text.now in
    let at = goal.at.returns-clause-ok c in
    let k = c.in-Ok.left.read in
    let m = c.in-Ok-scan_before.right.read in
    let left = first at.In-Ok in
    let right = second at.In-Ok-scan_before in
    let none : drop m (drop k (drop 9 text)) ≡ [] = drop_of_length-le (drop k (drop 9 text)) (omega (arith, c.if-end-text.false, length-drop k (drop 9 text), length-drop 9 text)) in
    record {
      left = left.term;
      right = right.term;
      spelt = record {
        left_written = left.written;
        right_written = right.written;
        text_is = sides-read text k m left.term right.term (headed at.Else-head-lt9) left.text_is right.text_is ∙ ap (λ l. axiom_text left.term right.term ++ l) none ∙ append-nil (axiom_text left.term right.term);
      };
      left_part = left.part;
      right_part = right.part;
    }
