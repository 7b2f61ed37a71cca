use Rattle.std.proofs.Common.{◌≡◌, ◌∙◌, ap, sym, subst, true, arith, length, ◌<◌}
use Rattle.dd_concept.specs.declared.concept.Concept.TheViews.{out-Concept}
use Rattle.dd_concept.specs.Same.{has}
use Rattle.dd_rules.specs.Compiled.{concept_at}
use Rattle.dd_rules.specs.Numbers.{not_shape, place_of}
use Rattle.dd_rules.specs.Trees.{trees}
use Rattle.dd_rules.proofs.Growing.{length-trees}
use Rattle.dd_rules.proofs.Keeping.{shape-Top, shape-Bottom, shape-Name, shape-Not, shape-And, shape-Or, shape-HasSome, shape-HasAll, place-there}
use Rattle.dd_rules.proofs.concepts.shape_at.Goals as goal

pub returns-in-Top : goal.returns-in-Top
returns-in-Top c xs e p h = shape-Top xs (concept_at (trees c.args.rows.now.keys) c.args.n) c.in-Top.ensures.concept

pub returns-in-Bottom : goal.returns-in-Bottom
returns-in-Bottom c xs e p h = shape-Bottom xs (concept_at (trees c.args.rows.now.keys) c.args.n) c.in-Bottom.ensures.concept

pub returns-in-Name : goal.returns-in-Name
returns-in-Name c xs e p h = shape-Name xs (concept_at (trees c.args.rows.now.keys) c.args.n) c.in-Name.a c.in-Name.ensures.concept

pub returns-in-Not : goal.returns-in-Not
returns-in-Not c xs e p h =
    shape-Not xs (concept_at (trees c.args.rows.now.keys) c.args.n) (concept_at (trees c.args.rows.now.keys) c.in-Not.part) c.complement_of.result c.in-Not.ensures.concept
    (c.complement_of.ensures (trees c.args.rows.now.keys) ∙ ap (λ d. not_shape (out-Concept d)) (sym c.row_at-in-Not.ensures.concept))

pub returns-in-And : goal.returns-in-And
returns-in-And c xs e p h =
    let both = p.ands (concept_at (trees c.args.rows.now.keys) c.in-And.left) (concept_at (trees c.args.rows.now.keys) c.in-And.right) (subst (λ d. has xs d ≡ true) c.in-And.ensures.concept h) in
    let low : c.in-And.left < length (trees c.args.rows.now.keys) = let w = c.in-And.ensures.parts.0 in omega (arith, length-trees c.args.rows.now.keys, c.requires.within, w) in
    let high : c.in-And.right < length (trees c.args.rows.now.keys) = let w = c.in-And.ensures.parts.1 in omega (arith, length-trees c.args.rows.now.keys, c.requires.within, w) in
    shape-And xs (concept_at (trees c.args.rows.now.keys) c.args.n) (concept_at (trees c.args.rows.now.keys) c.in-And.left) (concept_at (trees c.args.rows.now.keys) c.in-And.right) c.place_at.result c.place_at-in-And.result c.in-And.ensures.concept
    (c.place_at.ensures (place_of xs (concept_at (trees c.args.rows.now.keys) c.in-And.left)) (place-there xs (trees c.args.rows.now.keys) c.args.numbers.now c.in-And.left e low both.0))
    (c.place_at-in-And.ensures (place_of xs (concept_at (trees c.args.rows.now.keys) c.in-And.right)) (place-there xs (trees c.args.rows.now.keys) c.args.numbers.now c.in-And.right e high both.1))

pub returns-in-Or : goal.returns-in-Or
returns-in-Or c xs e p h =
    let both = p.ors (concept_at (trees c.args.rows.now.keys) c.in-Or.left) (concept_at (trees c.args.rows.now.keys) c.in-Or.right) (subst (λ d. has xs d ≡ true) c.in-Or.ensures.concept h) in
    let low : c.in-Or.left < length (trees c.args.rows.now.keys) = let w = c.in-Or.ensures.parts.0 in omega (arith, length-trees c.args.rows.now.keys, c.requires.within, w) in
    let high : c.in-Or.right < length (trees c.args.rows.now.keys) = let w = c.in-Or.ensures.parts.1 in omega (arith, length-trees c.args.rows.now.keys, c.requires.within, w) in
    shape-Or xs (concept_at (trees c.args.rows.now.keys) c.args.n) (concept_at (trees c.args.rows.now.keys) c.in-Or.left) (concept_at (trees c.args.rows.now.keys) c.in-Or.right) c.place_at-in-Or.result c.place_at-in-Or-2.result c.in-Or.ensures.concept
    (c.place_at-in-Or.ensures (place_of xs (concept_at (trees c.args.rows.now.keys) c.in-Or.left)) (place-there xs (trees c.args.rows.now.keys) c.args.numbers.now c.in-Or.left e low both.0))
    (c.place_at-in-Or-2.ensures (place_of xs (concept_at (trees c.args.rows.now.keys) c.in-Or.right)) (place-there xs (trees c.args.rows.now.keys) c.args.numbers.now c.in-Or.right e high both.1))

pub returns-in-HasSome : goal.returns-in-HasSome
returns-in-HasSome c xs e p h =
    let there = p.somes c.in-HasSome.role (concept_at (trees c.args.rows.now.keys) c.in-HasSome.part) (subst (λ d. has xs d ≡ true) c.in-HasSome.ensures.concept h) in
    let low : c.in-HasSome.part < length (trees c.args.rows.now.keys) = omega (arith, length-trees c.args.rows.now.keys, c.requires.within, c.in-HasSome.ensures.parts) in
    shape-HasSome xs (concept_at (trees c.args.rows.now.keys) c.args.n) (concept_at (trees c.args.rows.now.keys) c.in-HasSome.part) c.in-HasSome.role c.place_at-in-HasSome.result c.in-HasSome.ensures.concept
    (c.place_at-in-HasSome.ensures (place_of xs (concept_at (trees c.args.rows.now.keys) c.in-HasSome.part)) (place-there xs (trees c.args.rows.now.keys) c.args.numbers.now c.in-HasSome.part e low there))

pub returns-in-HasAll : goal.returns-in-HasAll
returns-in-HasAll c xs e p h =
    let there = p.alls c.in-HasAll.role (concept_at (trees c.args.rows.now.keys) c.in-HasAll.part) (subst (λ d. has xs d ≡ true) c.in-HasAll.ensures.concept h) in
    let low : c.in-HasAll.part < length (trees c.args.rows.now.keys) = omega (arith, length-trees c.args.rows.now.keys, c.requires.within, c.in-HasAll.ensures.parts) in
    shape-HasAll xs (concept_at (trees c.args.rows.now.keys) c.args.n) (concept_at (trees c.args.rows.now.keys) c.in-HasAll.part) c.in-HasAll.role c.place_at-in-HasAll.result c.in-HasAll.ensures.concept
    (c.place_at-in-HasAll.ensures (place_of xs (concept_at (trees c.args.rows.now.keys) c.in-HasAll.part)) (place-there xs (trees c.args.rows.now.keys) c.args.numbers.now c.in-HasAll.part e low there))
