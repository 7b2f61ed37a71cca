use Rattle.std.proofs.Common.{arith, refl}
use Rattle.std.proofs.lemmas.Bool.{false≢true, both_ways}
use Rattle.dd_set.proofs.Comparing.{within-more, within-all, word-from_within}
use Rattle.dd_set.proofs.words.are_within.Goals as goal

pub returns-then-not-is_word_within : goal.returns-then-not-is_word_within
returns-then-not-is_word_within c = (
  λ no. absurd (false≢true no),
  λ within.
      let yes = c.is_word_within.ensures.1 (word-from_within c.args.a.now c.args.b.now c.loop-i.i within) in
      absurd (both_ways c.is_word_within.result (cc) yes),
)

pub loop-i-preserved : goal.loop-i-preserved
loop-i-preserved c = within-more c.args.a.now c.args.b.now c.loop-i.i c.loop-i.invariant (c.is_word_within.ensures.0 cc)

pub returns : goal.returns
returns c = (λ _. within-all c.args.a.now c.args.b.now c.loop-i.i (omega arith) c.loop-i.invariant, λ _. refl)
