use Rattle.std.proofs.Common.{◌∙◌, sym}
use Rattle.std.proofs.lemmas.List.{length-map}
use Rattle.dd_text.specs.Symbols.{texts_of}
use Rattle.dd_text.proofs.Numbering.{has_text-map, number_of-new, number_of-position}
use Rattle.dd_text.proofs.symbols.number_in.Goals as goal

pub returns-in-Some : goal.returns-in-Some
returns-in-Some c = number_of-position (λ v. v.items) c.args.texts.now.keys c.args.text.now c.in-Some.n c.in-Some.ensures.index

pub returns-in-None : goal.returns-in-None
returns-in-None c =
    let keys = c.args.texts.now.keys in
    c.len.ensures.len ∙ sym (length-map keys (λ v. v.items))
    ∙ sym (number_of-new (texts_of keys) c.args.text.now (sym (has_text-map (λ v. v.items) keys c.args.text.now) ∙ sym c.in-None.ensures.found))
