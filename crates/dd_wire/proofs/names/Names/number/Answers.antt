use Rattle.std.proofs.Common.{◌≡◌, ℕ, ◌<◌, List, Some, None, cond, subst, arith}
use Rattle.dd_text.specs.Symbols.{has_text, number_of}
use Rattle.dd_wire.proofs.PeerNames.{there, not_there}
use Rattle.dd_wire.proofs.names.Names.number.Goals as goal

pub returns-then-number-name_count : goal.returns-then-number-name_count
returns-then-number-name_count c = let t = c.args.name.now in let n = c.name_number-number.result in
    subst (λ (xs : List (List ℕ)). Some n ≡ cond (has_text xs t) (Some (number_of xs t)) None) c.self.view_is
    (there c.self.inside.texts.names t n c.name_number-number.ensures (subst (λ k. n < k) c.name_count.ensures c.if-number-name_count.true))

pub returns-else-number-name_count : goal.returns-else-number-name_count
returns-else-number-name_count c = let t = c.args.name.now in let n = c.name_number-number.result in
    subst (λ (xs : List (List ℕ)). None ≡ cond (has_text xs t) (Some (number_of xs t)) None) c.self.view_is
    (not_there c.self.inside.texts.names t n c.name_number-number.ensures (λ below. omega (arith, below, c.name_count.ensures, c.if-number-name_count.false)))
