use Rattle.std.proofs.Common.{◌≡◌, ◌∙◌, ap, subst, sym, List, ℕ}
use Rattle.dd_set.specs.Words.{Label, IsWithin}
use Rattle.dd_set.proofs.bits.Bits.is_subset.Goals as goal

pub returns : goal.returns
returns c =
    let a : c.deref.result.now ≡ c.args.self.now.words = c.deref.ensures.value ∙ ap (λ (l : Label). l.words) c.self.view_is in
    let b : c.deref-2.result.now ≡ c.args.other.now.words = c.deref-2.ensures.value ∙ ap (λ (l : Label). l.words) c.other.view_is in (
      λ t. subst (λ (x : List ℕ). IsWithin x c.args.other.now.words) a (subst (λ (y : List ℕ). IsWithin c.deref.result.now y) b (c.are_within.ensures.0 t)),
      λ h. c.are_within.ensures.1 (subst (λ (x : List ℕ). IsWithin x c.deref-2.result.now) (sym a) (subst (λ (y : List ℕ). IsWithin c.args.self.now.words y) (sym b) h)),
    )
