use Rattle.std.proofs.Common.{arith, rules, ◌≡◌, sym, subst, replicate, [], false}
use Rattle.dd_set.specs.Marked.{HasMarks}
use Rattle.dd_set.proofs.Arrivals.{marks-start}
use Rattle.dd_set.proofs.marked.Marked.new.Goals as goal

pub invariant_of-result : goal.invariant_of-result
invariant_of-result c =
    let marks : c.in_ok-vec.field-0.items ≡ replicate c.args.bound false = search rules in
    let list : c.in_ok-with_capacity.field-0.items ≡ [] = search rules in (
      subst (λ m. HasMarks m c.in_ok-with_capacity.field-0.items) (sym marks) (subst (HasMarks (replicate c.args.bound false)) (sym list) (marks-start c.args.bound)),
      omega (arith, c.in_ok-vec.ensures.len, c.in_ok-with_capacity.ensures.capacity),
      omega (arith, c.in_ok-vec.ensures.len, c.ranges.bound.fits),
    )
