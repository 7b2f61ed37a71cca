use Rattle.std.proofs.Common.{arith, rules, ◌≡◌, ◌∙◌, sym, ap, subst, replicate, ◌/◌, ◌+◌}
use Rattle.dd_set.specs.Words.{has, IsPacked}
use Rattle.dd_set.proofs.Reading.{has-zeros, packed-zeros}
use Rattle.dd_set.proofs.bits.Bits.new.Goals as goal

pub invariant_of-result : goal.invariant_of-result
invariant_of-result c =
    let items : c.in_ok-vec.field-0.items ≡ replicate ((c.args.width + 63) / 64) 0 = search rules in
    subst (IsPacked c.args.width) (sym items) (packed-zeros c.args.width _ (omega arith) (omega arith) (omega arith))

pub returns-clause-empty : goal.returns-clause-empty
returns-clause-empty c n =
    let items : c.in_ok-vec.field-0.items ≡ replicate ((c.args.width + 63) / 64) 0 = search rules in
    ap (λ l. has l n) items ∙ has-zeros _ n
