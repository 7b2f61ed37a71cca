use Rattle.std.proofs.Common.{arith}
use Rattle.std.proofs.lemmas.Bool.{eqb-true, eq-eqb}
use Rattle.dd_set.proofs.Comparing.{within-from_zero, zero-from_within}
use Rattle.dd_set.proofs.words.is_word_within.Goals as goal

pub returns : goal.returns
returns c =
    (λ none. within-from_zero c.args.a c.args.b (omega arith) (eqb-true _ 0 none), λ within. eq-eqb _ 0 (zero-from_within c.args.a c.args.b (omega arith) (omega arith) within))
