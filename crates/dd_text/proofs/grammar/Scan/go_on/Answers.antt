use Rattle.std.proofs.Common.{◌∙◌, ◌∷◌, ap, sym}
use Rattle.dd_text.proofs.Steps.{first_goes, first_stays, last_goes, last_stays}
use Rattle.dd_text.proofs.grammar.Scan.go_on.Goals as goal

pub returns-then-byte-eq32 : goal.returns-then-byte-eq32
returns-then-byte-eq32 c =
    let rest = c.pop.new.self in
    first_goes c.args.self.now rest c.args.byte c.push.new.self (c.in-Some.ensures ∙ ap (λ f. f ∷ rest) c.in-First.is) c.if-byte-eq32.true c.in_ok-push-in-First.ensures

pub returns-in-First : goal.returns-in-First
returns-in-First c =
    let rest = c.pop.new.self in
    first_stays c.args.self.now rest c.args.byte c.push-in-First.new.self (c.in-Some.ensures ∙ ap (λ f. f ∷ rest) c.in-First.is) c.if-byte-eq32.false
    (c.in_ok-push-in-First-2.ensures ∙ sym c.in-Some.ensures)

pub returns-then-byte-eq41 : goal.returns-then-byte-eq41
returns-then-byte-eq41 c =
    let rest = c.pop.new.self in
    last_goes c.args.self.now rest c.args.byte (c.in-Some.ensures ∙ ap (λ f. f ∷ rest) c.in-Last.is) c.if-byte-eq41.true

pub returns-in-Last : goal.returns-in-Last
returns-in-Last c =
    let rest = c.pop.new.self in
    last_stays c.args.self.now rest c.args.byte c.push-in-Last.new.self (c.in-Some.ensures ∙ ap (λ f. f ∷ rest) c.in-Last.is) c.if-byte-eq41.false
    (c.in_ok-push-in-Last.ensures ∙ sym c.in-Some.ensures)
