use Rattle.std.proofs.Common.{◌≡◌, ◌∙◌, ◌<◌, ◌++◌, ◌∷◌, [], arith, sym, ap, subst, length, slice_set, Some}
use Rattle.std.specs.Option.{is_some}
use Rattle.dd_rules.specs.Compiled.{concept_at}
use Rattle.dd_rules.specs.Trees.{trees}
use Rattle.dd_rules.specs.Walks.{concepts_in, IsWalkOf}
use Rattle.dd_rules.proofs.Growing.{length-trees}
use Rattle.dd_rules.proofs.Numbering.{one-there}
use Rattle.dd_rules.proofs.Visiting.{numbers-length, number-read, number-has, number-lacks, marked, marked-order}
use Rattle.dd_rules.proofs.walk.mark.Goals as goal

pub index-requires : goal.index-requires
index-requires c =
    let ts = trees c.args.rows.now.keys in
    omega (arith, numbers-length ts c.args.walk.now.order.items c.args.walk.now.numbers.items c.args.walk.now.done.items c.requires.walk, length-trees c.args.rows.now.keys, c.requires.within)

pub index_mut-requires : goal.index_mut-requires
index_mut-requires c =
    let ts = trees c.args.rows.now.keys in
    omega (arith, numbers-length ts c.args.walk.now.order.items c.args.walk.now.numbers.items c.args.walk.now.done.items c.requires.walk, length-trees c.args.rows.now.keys, c.requires.within)

pub returns-then-is_some-clause-order : goal.returns-then-is_some-clause-order
returns-then-is_some-clause-order c =
    let ts = trees c.args.rows.now.keys in
    let xs = concepts_in ts c.args.walk.now.order.items in
    let low : c.args.n < length ts = omega (arith, length-trees c.args.rows.now.keys, c.requires.within) in
    let is = number-read xs ts c.args.walk.now.numbers.items c.args.n c.index.result.now c.requires.walk.numbers_are low c.index.ensures in
    sym (one-there xs (concept_at ts c.args.n) (number-has xs (concept_at ts c.args.n) (ap is_some (sym is) ∙ sym c.is_some.ensures ∙ c.if-is_some.true)))

pub returns-clause-order : goal.returns-clause-order
returns-clause-order c =
    let ts = trees c.args.rows.now.keys in
    let xs = concepts_in ts c.args.walk.now.order.items in
    let low : c.args.n < length ts = omega (arith, length-trees c.args.rows.now.keys, c.requires.within) in
    let is = number-read xs ts c.args.walk.now.numbers.items c.args.n c.index.result.now c.requires.walk.numbers_are low c.index.ensures in
    ap (concepts_in ts) c.in_ok-push.ensures.items
    ∙ marked-order ts c.args.walk.now.order.items c.args.walk.now.numbers.items c.args.walk.now.done.items c.args.n
    (number-lacks xs (concept_at ts c.args.n) (ap is_some (sym is) ∙ sym c.is_some.ensures ∙ c.if-is_some.false))

pub returns-clause-walk : goal.returns-clause-walk
returns-clause-walk c =
    let ts = trees c.args.rows.now.keys in
    let xs = concepts_in ts c.args.walk.now.order.items in
    let low : c.args.n < length ts = omega (arith, length-trees c.args.rows.now.keys, c.requires.within) in
    let is = number-read xs ts c.args.walk.now.numbers.items c.args.n c.index.result.now c.requires.walk.numbers_are low c.index.ensures in
    let count : length c.args.walk.now.order.items ≡ c.len-next.result = omega (arith, c.len-next.ensures) in
    subst (λ l. IsWalkOf ts l (slice_set c.args.walk.now.numbers.items c.args.n (Some c.len-next.result)) c.args.walk.now.done.items) (sym c.in_ok-push.ensures.items)
    (subst (λ k. IsWalkOf ts (c.args.walk.now.order.items ++ c.args.n ∷ []) (slice_set c.args.walk.now.numbers.items c.args.n (Some k)) c.args.walk.now.done.items) count
    (marked ts c.args.walk.now.order.items c.args.walk.now.numbers.items c.args.walk.now.done.items c.args.n c.requires.walk c.requires.rows.distinct low
    (number-lacks xs (concept_at ts c.args.n) (ap is_some (sym is) ∙ sym c.is_some.ensures ∙ c.if-is_some.false))))
