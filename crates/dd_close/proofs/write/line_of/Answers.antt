use Rattle.std.proofs.Common.{◌∙◌, ◌<◌, ap, ap₂, refl, subst, length, map, slice_index_or, ℕ}
use Rattle.dd_graph.specs.View.{view_of}
use Rattle.dd_rules.specs.Compiled.{concept_at}
use Rattle.dd_set.specs.Sets.{numbers}
use Rattle.dd_close.proofs.Finishing.{numbers-below}
use Rattle.dd_close.proofs.Writing.{picked}
use Rattle.dd_close.proofs.write.line_of.Goals as goal

pub concepts_of-requires : goal.concepts_of-requires
concepts_of-requires c =
    let listed = c.deref.ensures.value ∙ c.in_ok-ns.ensures ∙ ap₂ numbers c.words.ensures.words c.width.ensures.width in
    let width = c.label-label.ensures.width ∙ c.requires.book.width in
    subst (λ w. (k : ℕ) (d : ℕ) → k < length c.deref.result.now → slice_index_or c.deref.result.now k d < w) width
    (numbers-below c.label-label.result.width c.label-label.result.words c.deref.result.now c.width.ensures.packed listed)

pub why_of-requires-clause-by : goal.why_of-requires-clause-by
why_of-requires-clause-by c = c.requires.book.each c.args.line c.label-label.result.words c.reason_at-reason.result.now c.label-label.ensures.words c.reason_at-reason.ensures

pub returns : goal.returns
returns c =
    let cs = (view_of c.args.g.now).closure.concepts in
    let width = c.label-label.ensures.width ∙ c.requires.book.width in
    let listed = c.deref.ensures.value ∙ c.in_ok-ns.ensures ∙ ap₂ numbers c.words.ensures.words (c.width.ensures.width ∙ width) in
    record {
      words = c.label-label.result.words;
      there = c.label-label.ensures.words;
      own = refl;
      label = c.in_ok-concepts.ensures ∙ ap (map (concept_at cs)) listed ∙ picked cs c.label-label.result.words;
      why_is = c.in_ok-why.ensures;
    }
