use Rattle.std.proofs.Common.{map, Err, ap, subst, sym, refl}
use Rattle.dd_text.specs.Text.{concept_of, with_term}
use Rattle.dd_cert.specs.Derivations.{AllReadable, SpellsSmall, concept, pieces_of_why}
use Rattle.dd_cert.specs.Steps.{AreBuilt, AreFull}
use Rattle.dd_cert.proofs.Certain.{split_all, why_parses}
use Rattle.dd_cert.proofs.LinesBuilt.{added-same, label-full, line-built, why-full}
use Rattle.dd_cert.proofs.lines.add_line.Goals as goal

pub add_label-requires : goal.add_label-requires
add_label-requires c =
    let f = c.args.form.now in
    subst (λ l. AllReadable (map concept l)) (sym c.as_slice.ensures) (split_all (map concept f.label) (pieces_of_why f.why) c.requires.readable).0

pub returns-in-Err-clause-full : goal.returns-in-Err-clause-full
returns-in-Err-clause-full c full =
    let f = c.args.form.now in
    label-full c.args.symbols.now f (subst (AreFull SpellsSmall with_term c.args.symbols.now) c.as_slice.ensures (c.in-Err.ensures.full (ap Err (added-same c.in-Err.e full))))
    (why_parses f.why (split_all (map concept f.label) (pieces_of_why f.why) c.requires.readable).1)

pub add_why-requires-clause-readable : goal.add_why-requires-clause-readable
add_why-requires-clause-readable c = let f = c.args.form.now in (split_all (map concept f.label) (pieces_of_why f.why) c.requires.readable).1

pub returns-in-Ok-add_why-clause-line : goal.returns-in-Ok-add_why-clause-line
returns-in-Ok-add_why-clause-line c =
    let f = c.args.form.now in
    line-built c.args.symbols.now c.add_label.new.symbols c.add_why.new.symbols f f.peer c.in-Ok.label c.in-Ok-add_why.why refl
    (subst (λ l. AreBuilt SpellsSmall with_term concept_of c.args.symbols.now l c.add_label.new.symbols c.in-Ok.label) c.as_slice.ensures c.in-Ok.ensures.label) c.in-Ok-add_why.ensures.why

pub returns-in-Err-add_why-clause-full : goal.returns-in-Err-add_why-clause-full
returns-in-Err-add_why-clause-full c full =
    let f = c.args.form.now in
    why-full c.args.symbols.now c.add_label.new.symbols f c.in-Ok.label
    (subst (λ l. AreBuilt SpellsSmall with_term concept_of c.args.symbols.now l c.add_label.new.symbols c.in-Ok.label) c.as_slice.ensures c.in-Ok.ensures.label)
    (c.in-Err-add_why.ensures.full (ap Err (added-same c.in-Err-add_why.e full)))
