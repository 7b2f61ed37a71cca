use Rattle.std.proofs.Common.{◌≡◌, arith, sym, subst, length, replicate, None, false, [], rules}
use Rattle.dd_rules.specs.Trees.{trees}
use Rattle.dd_rules.specs.Walks.{IsWalkOf}
use Rattle.dd_rules.proofs.Growing.{length-trees}
use Rattle.dd_rules.proofs.Visiting.{walk-none}
use Rattle.dd_rules.proofs.walk.start.Goals as goal

pub returns-clause-walk : goal.returns-clause-walk
returns-clause-walk c =
    let ts = trees c.args.rows.now.keys in
    let count : c.len-count.result ≡ length ts = omega (arith, c.len-count.ensures.len, length-trees c.args.rows.now.keys) in
    let nones : c.in_ok-vec.field-0.items ≡ replicate c.len-count.result None = search rules in
    let falses : c.in_ok-vec-2.field-0.items ≡ replicate c.len-count.result false = search rules in
    subst (λ l. IsWalkOf ts l c.in_ok-vec.field-0.items c.in_ok-vec-2.field-0.items) (sym c.new.ensures.items)
    (subst (λ l. IsWalkOf ts [] l c.in_ok-vec-2.field-0.items) (sym nones)
    (subst (λ l. IsWalkOf ts [] (replicate c.len-count.result None) l) (sym falses) (walk-none ts c.len-count.result count)))
