use Rattle.std.proofs.Common.{◌≡◌, ◌∙◌, ◌+◌, ◌++◌, ◌∷◌, [], ℕ, List, map, take, drop, ap, sym, subst}
use Rattle.std.proofs.lemmas.List.{map-append}
use Rattle.dd_lines.specs.Outside.{GivesFront}
use Rattle.drago.specs.Made.{text_of}
use Rattle.drago.proofs.Giving.{front_of_lines, parts_at, with_err}
use Rattle.drago.proofs.make.give_lines.Goals as goal

pub returns-in_err-give_line-clause-front : goal.returns-in_err-give_line-clause-front
returns-in_err-give_line-clause-front g c =
    let lines = c.args.lines.now in
    let i = c.loop-line.line-index in
    let line = c.line-item.result in
    let before = g.K.Sink.given c.args.sink.now in
    let after = g.K.Sink.given c.give_line.new.sink in
    let done = map (λ l. l.items) (take i lines) in
    let rest = map (λ l. l.items) (drop (i + 1) lines) in
    let front = subst (λ (text : List ℕ). GivesFront (g.K.Sink.given c.loop-line.sink) after (text ++ 10 ∷ [])) c.as_slice.ensures.value c.in_err-give_line.ensures.front in
    let parts : map (λ l. l.items) lines ≡ done ++ line.items ∷ rest =
    ap (map (λ l. l.items)) (parts_at lines i line c.loop-line-test.true c.line-item.is) ∙ map-append (λ l. l.items) (take i lines) (line ∷ drop (i + 1) lines) in
    with_err c.from_residual.result
    (subst (λ (ls : List (List ℕ)). GivesFront before after (text_of ls)) (sym parts)
    (front_of_lines before (g.K.Sink.given c.loop-line.sink) after done line.items rest c.loop-line.invariant.given front))
