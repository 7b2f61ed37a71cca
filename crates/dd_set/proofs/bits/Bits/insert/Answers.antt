use Rattle.std.proofs.Common.{arith, ap, sym, subst}
use Rattle.std.proofs.lemmas.List.{take_at}
use Rattle.dd_set.specs.Words.{IsPacked, Label}
use Rattle.dd_set.proofs.bits.Bits.insert.Goals as goal

pub invariant_of-self : goal.invariant_of-self
invariant_of-self c =
    let b = c.self.inside in
    let width = ap (λ (l : Label). l.width) c.self.view_is in
    subst (IsPacked b.width) (sym (take_at c.put_number.new.words _ b.words.len (omega arith))) (c.put_number.ensures.packed b.width (omega arith) (subst (IsPacked b.width) (sym c.deref_mut.ensures.value) c.self.invariant))
