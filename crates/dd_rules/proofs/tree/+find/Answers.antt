use Rattle.std.proofs.Common.{◌∙◌, ap, ap₂, sym}
use Rattle.dd_concept.specs.declared.concept.Concept.TheVariants as concept
use Rattle.dd_rules.specs.Trees.{trees}
use Rattle.dd_rules.proofs.Forming.{number-low, gone-Not, gone-And, gone-And-right, gone-Or, gone-Or-right, gone-HasSome, gone-HasAll, found-Not, found-And, found-Or, found-HasSome, found-HasAll}
use Rattle.dd_rules.proofs.tree.+find.Goals as goal

pub returns-in_default : goal.returns-in_default
returns-in_default t c = gone-Not c.args.rows.now.keys c.requires c.args.c.now c.get.result.now (c.in-Not.is ∙ ap concept.Not (sym c.get.ensures)) c.in_default.ensures

pub place-requires-in-Not-clause-within : goal.place-requires-in-Not-clause-within
place-requires-in-Not-clause-within t c = number-low c.args.rows.now.keys c.in-Some.part c.get.result.now c.in-Some.ensures

pub returns-in-Some : goal.returns-in-Some
returns-in-Some t c = found-Not (trees c.args.rows.now.keys) c.args.c.now c.get.result.now c.in-Some.part c.place-in-Not.result (c.in-Not.is ∙ ap concept.Not (sym c.get.ensures)) c.in-Some.ensures c.place-in-Not.ensures

pub returns-in_default-find : goal.returns-in_default-find
returns-in_default-find t c = gone-And c.args.rows.now.keys c.requires c.args.c.now c.get-in-And.result.now c.in-And.e (c.in-And.is ∙ ap (λ d. concept.And d c.in-And.e) (sym c.get-in-And.ensures)) c.in_default-find.ensures

pub returns-in_default-find-2 : goal.returns-in_default-find-2
returns-in_default-find-2 t c = gone-And-right c.args.rows.now.keys c.requires c.args.c.now c.get-in-And.result.now c.get-in-And-2.result.now (c.in-And.is ∙ ap₂ concept.And (sym c.get-in-And.ensures) (sym c.get-in-And-2.ensures)) c.in_default-find-2.ensures

pub place-requires-in-And-clause-within : goal.place-requires-in-And-clause-within
place-requires-in-And-clause-within t c = (
  number-low c.args.rows.now.keys c.in-Some-find.left c.get-in-And.result.now c.in-Some-find.ensures,
  number-low c.args.rows.now.keys c.in-Some-find-2.right c.get-in-And-2.result.now c.in-Some-find-2.ensures,
)

pub returns-in-Some-find-2 : goal.returns-in-Some-find-2
returns-in-Some-find-2 t c = found-And (trees c.args.rows.now.keys) c.args.c.now c.get-in-And.result.now c.get-in-And-2.result.now c.in-Some-find.left c.in-Some-find-2.right c.place-in-And.result
    (c.in-And.is ∙ ap₂ concept.And (sym c.get-in-And.ensures) (sym c.get-in-And-2.ensures)) c.in-Some-find.ensures c.in-Some-find-2.ensures c.place-in-And.ensures

pub returns-in_default-find-3 : goal.returns-in_default-find-3
returns-in_default-find-3 t c = gone-Or c.args.rows.now.keys c.requires c.args.c.now c.get-in-Or.result.now c.in-Or.e (c.in-Or.is ∙ ap (λ d. concept.Or d c.in-Or.e) (sym c.get-in-Or.ensures)) c.in_default-find-3.ensures

pub returns-in_default-find-4 : goal.returns-in_default-find-4
returns-in_default-find-4 t c = gone-Or-right c.args.rows.now.keys c.requires c.args.c.now c.get-in-Or.result.now c.get-in-Or-2.result.now (c.in-Or.is ∙ ap₂ concept.Or (sym c.get-in-Or.ensures) (sym c.get-in-Or-2.ensures)) c.in_default-find-4.ensures

pub place-requires-in-Or-clause-within : goal.place-requires-in-Or-clause-within
place-requires-in-Or-clause-within t c = (
  number-low c.args.rows.now.keys c.in-Some-find-3.left c.get-in-Or.result.now c.in-Some-find-3.ensures,
  number-low c.args.rows.now.keys c.in-Some-find-4.right c.get-in-Or-2.result.now c.in-Some-find-4.ensures,
)

pub returns-in-Some-find-4 : goal.returns-in-Some-find-4
returns-in-Some-find-4 t c = found-Or (trees c.args.rows.now.keys) c.args.c.now c.get-in-Or.result.now c.get-in-Or-2.result.now c.in-Some-find-3.left c.in-Some-find-4.right c.place-in-Or.result
    (c.in-Or.is ∙ ap₂ concept.Or (sym c.get-in-Or.ensures) (sym c.get-in-Or-2.ensures)) c.in-Some-find-3.ensures c.in-Some-find-4.ensures c.place-in-Or.ensures

pub returns-in_default-find-5 : goal.returns-in_default-find-5
returns-in_default-find-5 t c = gone-HasSome c.args.rows.now.keys c.requires c.args.c.now c.get-in-HasSome.result.now c.in-HasSome.r (c.in-HasSome.is ∙ ap (concept.HasSome c.in-HasSome.r) (sym c.get-in-HasSome.ensures)) c.in_default-find-5.ensures

pub place-requires-in-HasSome-clause-within : goal.place-requires-in-HasSome-clause-within
place-requires-in-HasSome-clause-within t c = number-low c.args.rows.now.keys c.in-Some-find-5.part c.get-in-HasSome.result.now c.in-Some-find-5.ensures

pub returns-in-Some-find-5 : goal.returns-in-Some-find-5
returns-in-Some-find-5 t c = found-HasSome (trees c.args.rows.now.keys) c.args.c.now c.get-in-HasSome.result.now c.in-HasSome.r c.in-Some-find-5.part c.place-in-HasSome.result (c.in-HasSome.is ∙ ap (concept.HasSome c.in-HasSome.r) (sym c.get-in-HasSome.ensures)) c.in-Some-find-5.ensures c.place-in-HasSome.ensures

pub returns-in_default-find-6 : goal.returns-in_default-find-6
returns-in_default-find-6 t c = gone-HasAll c.args.rows.now.keys c.requires c.args.c.now c.get-in-HasAll.result.now c.in-HasAll.r (c.in-HasAll.is ∙ ap (concept.HasAll c.in-HasAll.r) (sym c.get-in-HasAll.ensures)) c.in_default-find-6.ensures

pub place-requires-in-HasAll-clause-within : goal.place-requires-in-HasAll-clause-within
place-requires-in-HasAll-clause-within t c = number-low c.args.rows.now.keys c.in-Some-find-6.part c.get-in-HasAll.result.now c.in-Some-find-6.ensures

pub returns-in-Some-find-6 : goal.returns-in-Some-find-6
returns-in-Some-find-6 t c = found-HasAll (trees c.args.rows.now.keys) c.args.c.now c.get-in-HasAll.result.now c.in-HasAll.r c.in-Some-find-6.part c.place-in-HasAll.result (c.in-HasAll.is ∙ ap (concept.HasAll c.in-HasAll.r) (sym c.get-in-HasAll.ensures)) c.in-Some-find-6.ensures c.place-in-HasAll.ensures
