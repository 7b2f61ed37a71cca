use Rattle.std.proofs.Common.{arith, ap, sym, ◌∙◌, [], ◌∷◌, ◌++◌}
use Rattle.dd_set.proofs.Sets.{numbers-next, numbers-end}
use Rattle.dd_set.proofs.listing.numbers_in.Goals as goal

pub overflow_add-from : goal.overflow_add-from
overflow_add-from c = omega (arith, c.in-Some.ensures.below)

pub loop-n-preserved : goal.loop-n-preserved
loop-n-preserved c = record {
  within = omega (arith, c.in-Some.ensures.below);
  listed = c.in_ok-push.ensures.items ∙ ap (λ l. l ++ c.in-Some.n ∷ []) c.loop-n.invariant.listed ∙ sym (numbers-next c.args.words.now c.loop-n.from c.in-Some.n c.in-Some.ensures.next);
}

pub returns : goal.returns
returns c = c.loop-n.invariant.listed ∙ sym (numbers-end c.args.words.now c.loop-n.from c.args.width c.loop-n.invariant.within c.in_default.ensures.next)
