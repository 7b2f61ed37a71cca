use Rattle.std.proofs.Common.{◌∙◌, ℕ, ◌<◌, List, All, sym, subst}
use Rattle.dd_world.proofs.MentionLists.{mentions_below}
use Rattle.dd_world.proofs.sketch.elements_of.Goals as goal

pub seen_elements-requires : goal.seen_elements-requires
seen_elements-requires c = subst (λ (l : List ℕ). All (λ x. x < c.args.local.now.size) l) (sym (c.as_slice.ensures.value ∙ c.in_ok-mentions.ensures))
    (mentions_below c.args.peer c.args.local.now c.args.links.now c.requires.shaped c.requires.ends)
