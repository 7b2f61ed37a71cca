-- Each form by the lemma on its parts, where a search would go through all pairs of forms.
use Rattle.std.proofs.Common.{sym, ◌∙◌}
use Rattle.dd_concept.specs.declared.concept.Concept.TheVariants.{And, Or, HasSome, HasAll}
use Rattle.dd_concept.proofs.Sameness.{all_parts, and_parts, differ, or_parts, other_first, other_role, same_along, same_complements, same_names, same_second, some_parts}
use Rattle.dd_concept.proofs.equal.+same.Goals as goal

pub returns-in-Name-Name : goal.returns-in-Name-Name
returns-in-Name-Name t c = same_names c.args.a.now c.args.b.now c.in-Name-Name.n c.in-Name-Name.m c.in-Name-Name.is-0 c.in-Name-Name.is-1

pub returns-in-Not-Not : goal.returns-in-Not-Not
returns-in-Not-Not t c =
    same_complements c.args.a.now c.args.b.now c.in-Not-Not.c c.in-Not-Not.d c.get.result.now c.get-in-Not-Not.result.now c.same.result
    c.in-Not-Not.is-0 c.in-Not-Not.is-1 c.get.ensures c.get-in-Not-Not.ensures c.same.ensures

pub returns-then-same : goal.returns-then-same
returns-then-same t c =
    same_second And and_parts c.args.a.now c.args.b.now c.in-And-And.c c.in-And-And.e c.in-And-And.d c.in-And-And.f c.get-in-And-And.result.now c.get-in-And-And-2.result.now
    c.same-in-And-And.result c.in-And-And.is-0 c.in-And-And.is-1 c.get-in-And-And.ensures c.get-in-And-And-2.ensures c.same-in-And-And.ensures
    c.get-then-same.result.now c.get-then-same-2.result.now c.same-then-same.result c.if-same.true c.get-then-same.ensures c.get-then-same-2.ensures c.same-then-same.ensures

pub returns-else-same : goal.returns-else-same
returns-else-same t c =
    other_first And and_parts c.args.a.now c.args.b.now c.in-And-And.c c.in-And-And.e c.in-And-And.d c.in-And-And.f c.get-in-And-And.result.now c.get-in-And-And-2.result.now
    c.same-in-And-And.result c.in-And-And.is-0 c.in-And-And.is-1 c.get-in-And-And.ensures c.get-in-And-And-2.ensures c.same-in-And-And.ensures c.if-same.false

pub returns-then-same-2 : goal.returns-then-same-2
returns-then-same-2 t c =
    same_second Or or_parts c.args.a.now c.args.b.now c.in-Or-Or.c c.in-Or-Or.e c.in-Or-Or.d c.in-Or-Or.f c.get-in-Or-Or.result.now c.get-in-Or-Or-2.result.now
    c.same-in-Or-Or.result c.in-Or-Or.is-0 c.in-Or-Or.is-1 c.get-in-Or-Or.ensures c.get-in-Or-Or-2.ensures c.same-in-Or-Or.ensures
    c.get-then-same-2-2.result.now c.get-then-same-2-3.result.now c.same-then-same-2.result c.if-same-2.true c.get-then-same-2-2.ensures c.get-then-same-2-3.ensures c.same-then-same-2.ensures

pub returns-else-same-2 : goal.returns-else-same-2
returns-else-same-2 t c =
    other_first Or or_parts c.args.a.now c.args.b.now c.in-Or-Or.c c.in-Or-Or.e c.in-Or-Or.d c.in-Or-Or.f c.get-in-Or-Or.result.now c.get-in-Or-Or-2.result.now
    c.same-in-Or-Or.result c.in-Or-Or.is-0 c.in-Or-Or.is-1 c.get-in-Or-Or.ensures c.get-in-Or-Or-2.ensures c.same-in-Or-Or.ensures c.if-same-2.false

pub returns-then-r-s : goal.returns-then-r-s
returns-then-r-s t c =
    same_along HasSome some_parts c.args.a.now c.args.b.now c.in-HasSome-HasSome.r c.in-HasSome-HasSome.s c.in-HasSome-HasSome.c c.in-HasSome-HasSome.d c.in-HasSome-HasSome.is-0 c.in-HasSome-HasSome.is-1
    c.get-then-r-s.result.now c.get-then-r-s-2.result.now c.same-then-r-s.result c.if-r-s.true c.get-then-r-s.ensures c.get-then-r-s-2.ensures c.same-then-r-s.ensures

pub returns-else-r-s : goal.returns-else-r-s
returns-else-r-s t c =
    other_role HasSome some_parts c.args.a.now c.args.b.now c.in-HasSome-HasSome.r c.in-HasSome-HasSome.s c.in-HasSome-HasSome.c c.in-HasSome-HasSome.d c.in-HasSome-HasSome.is-0 c.in-HasSome-HasSome.is-1 c.if-r-s.false

pub returns-then-r-s-2 : goal.returns-then-r-s-2
returns-then-r-s-2 t c =
    same_along HasAll all_parts c.args.a.now c.args.b.now c.in-HasAll-HasAll.r c.in-HasAll-HasAll.s c.in-HasAll-HasAll.c c.in-HasAll-HasAll.d c.in-HasAll-HasAll.is-0 c.in-HasAll-HasAll.is-1
    c.get-then-r-s-2-2.result.now c.get-then-r-s-2-3.result.now c.same-then-r-s-2.result c.if-r-s-2.true c.get-then-r-s-2-2.ensures c.get-then-r-s-2-3.ensures c.same-then-r-s-2.ensures

pub returns-else-r-s-2 : goal.returns-else-r-s-2
returns-else-r-s-2 t c =
    other_role HasAll all_parts c.args.a.now c.args.b.now c.in-HasAll-HasAll.r c.in-HasAll-HasAll.s c.in-HasAll-HasAll.c c.in-HasAll-HasAll.d c.in-HasAll-HasAll.is-0 c.in-HasAll-HasAll.is-1 c.if-r-s-2.false

pub returns-in_default : goal.returns-in_default
returns-in_default t c = differ c.args.a.now c.args.b.now (λ e. c.in_default.not-Top-1 (sym e ∙ c.in_default.is-0))

pub returns-in_default-2 : goal.returns-in_default-2
returns-in_default-2 t c = differ c.args.a.now c.args.b.now (λ e. c.in_default.not-Bottom-1 (sym e ∙ c.in_default.is-0))

pub returns-in_default-3 : goal.returns-in_default-3
returns-in_default-3 t c = differ c.args.a.now c.args.b.now (λ e. c.in_default.not-Name-1 _ (sym e ∙ c.in_default.is-0))

pub returns-in_default-4 : goal.returns-in_default-4
returns-in_default-4 t c = differ c.args.a.now c.args.b.now (λ e. c.in_default.not-Not-1 _ (sym e ∙ c.in_default.is-0))

pub returns-in_default-5 : goal.returns-in_default-5
returns-in_default-5 t c = differ c.args.a.now c.args.b.now (λ e. c.in_default.not-And-1 _ _ (sym e ∙ c.in_default.is-0))

pub returns-in_default-6 : goal.returns-in_default-6
returns-in_default-6 t c = differ c.args.a.now c.args.b.now (λ e. c.in_default.not-Or-1 _ _ (sym e ∙ c.in_default.is-0))

pub returns-in_default-7 : goal.returns-in_default-7
returns-in_default-7 t c = differ c.args.a.now c.args.b.now (λ e. c.in_default.not-HasSome-1 _ _ (sym e ∙ c.in_default.is-0))

pub returns-in_default-8 : goal.returns-in_default-8
returns-in_default-8 t c = differ c.args.a.now c.args.b.now (λ e. c.in_default.not-HasAll-1 _ _ (sym e ∙ c.in_default.is-0))
