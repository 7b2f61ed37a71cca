use Rattle.std.proofs.Common.{◌≡◌, ◌∙◌, ap, subst, sym}
use Rattle.dd_set.specs.Words.{Label, IsPacked, has}
use Rattle.dd_set.proofs.Comparing.{same-from_numbers}
use Rattle.dd_set.proofs.bits.Bits.same.Goals as goal

pub returns-clause-numbers : goal.returns-clause-numbers
returns-clause-numbers c =
    let a : c.deref.result.now ≡ c.args.self.now.words = c.deref.ensures.value ∙ ap (λ (l : Label). l.words) c.self.view_is in
    let b : c.deref-2.result.now ≡ c.args.other.now.words = c.deref-2.ensures.value ∙ ap (λ (l : Label). l.words) c.other.view_is in
    let width : c.other.inside.width ≡ c.self.inside.width = ap (λ (l : Label). l.width) c.other.view_is ∙ sym c.requires ∙ sym (ap (λ (l : Label). l.width) c.self.view_is) in
    let packed_a = subst (IsPacked c.self.inside.width) (sym c.deref.ensures.value) c.self.invariant in
    let packed_b = subst (λ w. IsPacked w c.deref-2.result.now) width (subst (IsPacked c.other.inside.width) (sym c.deref-2.ensures.value) c.other.invariant) in (
      λ t. let same : c.args.self.now.words ≡ c.args.other.now.words = sym a ∙ c.are_same.ensures.0 t ∙ b in
          λ n. ap (λ l. has l n) same,
      λ h. c.are_same.ensures.1 (same-from_numbers c.self.inside.width c.deref.result.now c.deref-2.result.now packed_a packed_b (λ n. ap (λ l. has l n) a ∙ h n ∙ ap (λ l. has l n) (sym b))),
    )
