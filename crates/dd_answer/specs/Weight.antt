-- How much an answer holds.
use Rattle.std.specs.Prelude.{ℕ, ◌+◌, min, length, sum_by}
use Rattle.dd_interp.specs.declared.interp.Interp.{Interp}
use Rattle.dd_answer.specs.declared.answer.Answer.{Answer}
use Rattle.dd_answer.specs.declared.answer.Answer.TheVariants.{Yes, No, RunSpent, VerdictsSpent, Memory}

-- a number, or the largest of 64 bits where it is above
abbrev pub capped : ℕ → ℕ
capped n = min n 18446744073709551615

-- the elements, name pairs and role triples of an interpretation
abbrev pub content_of : Interp → ℕ
content_of i = i.size + length i.names + length i.roles

-- the lines of a derivation, and the content of a world's interpretations with its links
abbrev pub weight_of : Answer → ℕ
weight_of (Yes lines) = length lines
weight_of (No w) = capped (sum_by content_of w.locals + length w.links)
weight_of (RunSpent run) = 0
weight_of (VerdictsSpent n) = 0
weight_of Memory = 0
