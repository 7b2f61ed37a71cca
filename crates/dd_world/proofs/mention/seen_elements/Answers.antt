use Rattle.std.proofs.Common.{◌≡◌, ◌∙◌, ℕ, ◌<◌, ◌^◌, ◌++◌, ◌∷◌, [], List, length, ap, sym, subst, arith}
use Rattle.std.specs.Global.{Vec}
use Rattle.dd_world.specs.Mentions.{AreSeen, IsGap}
use Rattle.dd_world.proofs.MentionLists.{seen_whole, seen_with_size}
use Rattle.dd_world.proofs.mention.seen_elements.Goals as goal
use Rattle.dd_world.proofs.mention.seen_elements.Goals.{then-gap-size+in_ok-push, else-gap-size}

pub returns : goal.returns
returns c =
    let size = c.args.size in
    let mentions = c.args.mentions.now in
    let es = c.in_ok-elements.elements.items in
    let gap = subst (λ (l : List ℕ). IsGap l c.gap.result) c.as_slice.ensures.value c.gap.ensures in
    let few : length c.if-gap-size.elements.items < 2 ^ 32 = omega (arith, c.len.ensures, c.if-len.false, c.if-gap-size.elements.ok) in
    subst (λ (l : List ℕ). AreSeen size mentions l) (sym c.from_vec.ensures)
    (elim c.if-gap-size.branch [
      | then-gap-size+in_ok-push w ↦
          let items : c.if-gap-size.elements.items ≡ es ++ size ∷ [] = ap (λ (v : Vec ℕ). v.items) w.elements-is ∙ w.in_ok-push.ensures.items in
          subst (λ (l : List ℕ). AreSeen size mentions l) (sym items)
          (seen_with_size size mentions c.requires es c.in_ok-elements.ensures.rising c.in_ok-elements.ensures.same c.gap.result gap (omega (arith, w.if-gap-size.true))
          (subst (λ (l : List ℕ). length l < 2 ^ 32) items few))
      | else-gap-size w ↦
          let items : c.if-gap-size.elements.items ≡ es = ap (λ (v : Vec ℕ). v.items) w.elements-is in
          subst (λ (l : List ℕ). AreSeen size mentions l) (sym items)
          (seen_whole size mentions c.requires es c.in_ok-elements.ensures.rising c.in_ok-elements.ensures.same c.gap.result gap (omega (arith, w.if-gap-size.false))
          (subst (λ (l : List ℕ). length l < 2 ^ 32) items few))
    ])
